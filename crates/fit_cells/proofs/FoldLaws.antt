-- The list of the last place united with one that it is linked to: every cell takes what it took.
use Prim.Native.Nat.{ℕ, ◌+◌, ◌-◌, ◌*◌, ◌^◌, ◌≤◌, ◌<◌}
use native.Mathlib.Omega.{arith}
use native.Mathlib.Numerals.{add-one}
use mathlib.Core.Path.{◌≡◌, refl, ap, sym, ◌∙◌}
use mathlib.Core.Logic.{◌≢◌, ◌⊎◌, inl, inr}
use mathlib.Core.Bool.{Bool, true, false, not, ◌&&◌, ◌||◌}
use mathlib.Core.Option.{Option}
use mathlib.Core.List.{List}
use lib.ListN.{length, get_or, set, length-set}
use lib.Seq.{get_or-set_same, get_or-set_other}
use Rattle.words.specs.Inner.{part, Kept}
use Rattle.words.proofs.RegionLaws.{kept_part_list}
use Rattle.words.proofs.Points.{same as same_or}
use Rattle.ranges.specs.declared.Range.{Range}
use Rattle.ranges.specs.Points.{Upright}
use Rattle.ranges.specs.Merged.{union, clashes}
use Rattle.ranges.specs.Inner.{unpacked}
use Rattle.ranges.proofs.PointLaws.{apart_upright, upright_append}
use Rattle.ranges.proofs.MergeLaws.{merged_apart}
use Rattle.packed_pairs.specs.Inner.{UnitedIn}
use Rattle.fitting.specs.Plan.{joinable, Plan}
use Rattle.fitting.proofs.CellLaws.{union_clashes}
use Rattle.fit_tables.specs.Inner.{size_of, align_of, head_table, link_table, cell_table, home_table, list_table, behind, first_of, count_of, ranges_at, area_in, chain, Falls, allow, head_at, next_at, list_at, area_at, Listed, Linked, Holds, Topped, Meets, Folded}
use Rattle.fit_tables.proofs.ChainLaws.{chain_kept, allow_kept, step_is}
use Rattle.fit_tables.proofs.TableLaws.{area_some, lent_kept}
use Rattle.fit_tables.proofs.ListLaws.{Same, listed_end, list_kept, area_same}
use Rattle.fit_tables.specs.declared.Tables.{Tables}

-- ---- none, and one after another

pub folded_none : {w : List ℕ} {t : Tables} {k top : ℕ} → Topped w t k top → Folded w w t k top top
folded_none b = record { len = refl; topped = b; keeps = λ w₁ budget cells left p H. H; rest = λ x h. refl }

pub folded_then : {w₀ w₁ w₂ : List ℕ} {t : Tables} {k t₀ t₁ t₂ : ℕ} → Folded w₀ w₁ t k t₀ t₁ → Folded w₁ w₂ t k t₁ t₂ → Folded w₀ w₂ t k t₀ t₂
folded_then f g = record { len = g.len ∙ f.len; topped = g.topped; keeps = λ w₁ budget cells left p H. g.keeps w₁ budget cells left p (f.keeps w₁ budget cells left p H); rest = λ x h. g.rest x h ∙ f.rest x h }

-- ---- the two lists

three : (s t u : Bool) → not (s || t) && u ≡ not s && (not t && u)
three true t u = refl
three false t u = refl

module _ {w₀ : List ℕ} {t : Tables} {k q top : ℕ} (T : Topped w₀ t k top) (M : Meets w₀ t k q top) where
  -- the two lists, and what the rest of the chain allows
  abbrev A : List Range
  A = ranges_at w₀ t.at (list_at w₀ t k)

  abbrev B : List Range
  B = ranges_at w₀ t.at (list_at w₀ t q)

  abbrev rest : List Range → Bool
  rest a = allow (area_at w₀ t) (chain (next_at w₀ t) (next_at w₀ t q)) a

  pub q_lt : q < k
  q_lt = omega (arith, M.next, T.linked.falls k (omega arith))

  k_lt : k < t.n
  k_lt = omega (arith, T.linked.k_le)

  pub one_listed : Listed w₀ t top (list_at w₀ t k)
  one_listed = T.linked.lists k (omega arith) M.one

  pub two_listed : Listed w₀ t top (list_at w₀ t q)
  two_listed = T.linked.lists q (omega (arith, q_lt)) M.two

  low : t.items ≤ top
  low = omega (arith, T.linked.low)

  pub one_end : t.at + (first_of (list_at w₀ t k) + count_of (list_at w₀ t k)) ≤ top
  one_end = listed_end low one_listed

  pub two_end : t.at + (first_of (list_at w₀ t q) + count_of (list_at w₀ t q)) ≤ top
  two_end = listed_end low two_listed

  module _ {w₁ : List ℕ} {r : ℕ} (len : length w₁ ≡ length w₀)
      (U : UnitedIn w₀ w₁ (t.at + first_of (list_at w₀ t k)) (count_of (list_at w₀ t k)) (t.at + first_of (list_at w₀ t q)) (count_of (list_at w₀ t q)) top r) where
    -- the new list's word is stored, then the link
    abbrev v : List ℕ
    v = set w₁ (list_table t + k) ((top - t.at) * 2 ^ 32 + r + 1)

    abbrev w : List ℕ
    w = set (set w₁ (list_table t + k) ((top - t.at) * 2 ^ 32 + r + 1)) (link_table t + k) (next_at w₀ t q)

    r_small : top + r ≤ t.end
    r_small = omega (arith, U.within, M.room)

    first_is : first_of ((top - t.at) * 2 ^ 32 + r + 1) ≡ top - t.at
    first_is = omega (arith, r_small, T.small)

    count_is : count_of ((top - t.at) * 2 ^ 32 + r + 1) ≡ r
    count_is = omega (arith, r_small, T.small)

    len_v : length v ≡ length w₀
    len_v = length-set w₁ (list_table t + k) ((top - t.at) * 2 ^ 32 + r + 1) ∙ len

    len_w : length w ≡ length w₀
    len_w = length-set v (link_table t + k) (next_at w₀ t q) ∙ len_v

    stores : (j : ℕ) → j ≢ list_table t + k → j ≢ link_table t + k → get_or w j 0 ≡ get_or w₁ j 0
    stores j d e =
        get_or-set_other v (link_table t + k) j (next_at w₀ t q) 0 e ∙ get_or-set_other w₁ (list_table t + k) j ((top - t.at) * 2 ^ 32 + r + 1) 0 d

    below : (j : ℕ) → j < top → j ≢ list_table t + k → j ≢ link_table t + k → get_or w j 0 ≡ get_or w₀ j 0
    below j h d e = stores j d e ∙ U.before j h

    table : (j : ℕ) → j < behind t → j ≢ list_table t + k → j ≢ link_table t + k → get_or w j 0 ≡ get_or w₀ j 0
    table j h d e = below j (omega (arith, T.linked.low)) d e

    high : top ≤ length w₀
    high = T.linked.top_le

    same : Same w₀ w t top
    same = record {
      len = len_w;
      low = low;
      high = high;
      word = words;
    }
      where
        words : (j : ℕ) → (j < t.items) ⊎ ((behind t ≤ j) × (j < top)) → get_or w j 0 ≡ get_or w₀ j 0
        words j (inl h) = table j (omega arith) (λ e. omega arith) (λ e. omega arith)
        words j (inr h) = below j h.1 (λ e. omega (arith, h.0, k_lt)) (λ e. omega (arith, h.0, k_lt))

    -- ---- what each table holds

    list_here : list_at w t k ≡ (top - t.at) * 2 ^ 32 + r + 1
    list_here =
        get_or-set_other v (link_table t + k) (list_table t + k) (next_at w₀ t q) 0 (λ e. omega (arith, k_lt))
        ∙ get_or-set_same w₁ (list_table t + k) ((top - t.at) * 2 ^ 32 + r + 1) 0 (omega (arith, len, high, T.linked.low, k_lt))

    list_else : (j : ℕ) → j < t.n → j ≢ k → list_at w t j ≡ list_at w₀ t j
    list_else j h d = table (list_table t + j) (omega arith) (λ e. d (omega arith)) (λ e. omega (arith, k_lt))

    pub next_here : next_at w t k ≡ next_at w₀ t q
    next_here = get_or-set_same v (link_table t + k) (next_at w₀ t q) 0 (rw len_v (omega (arith, high, T.linked.low, k_lt)))

    next_else : (j : ℕ) → j < t.n → j ≢ k → next_at w t j ≡ next_at w₀ t j
    next_else j h d = table (link_table t + j) (omega arith) (λ e. omega (arith, k_lt)) (λ e. d (omega arith))

    pub next_falls : next_at w t k ≤ q
    next_falls = rw next_here (T.linked.falls q (omega (arith, q_lt)))

    falls : Falls (next_at w t) (k + 1)
    falls j h = same_or j k (λ e. rw e (omega (arith, next_falls, q_lt))) (λ d. rw (next_else j (omega (arith, k_lt)) d) (T.linked.falls j h))

    -- ---- the new list

    ranges_are : ranges_at w t.at ((top - t.at) * 2 ^ 32 + r + 1) ≡ union (ranges_at w₀ t.at (list_at w₀ t k)) (ranges_at w₀ t.at (list_at w₀ t q))
    ranges_are =
        let e : t.at + first_of ((top - t.at) * 2 ^ 32 + r + 1) ≡ top = omega (arith, first_is, one_end) in
        let f : Kept w₁ w top r = record { same = λ j g h. stores j (λ e. omega (arith, T.linked.low, k_lt)) (λ e. omega (arith, T.linked.low, k_lt)) } in
        ap (λ (j : ℕ). unpacked (part j (count_of ((top - t.at) * 2 ^ 32 + r + 1)) w)) e ∙ ap (λ (j : ℕ). unpacked (part top j w)) count_is
        ∙ ap unpacked (kept_part_list f (omega (arith, r_small, T.end_le, len)) (len_w ∙ sym len)) ∙ U.is

    up_one : Upright (ranges_at w₀ t.at (list_at w₀ t k))
    up_one = apart_upright _ one_listed.neat

    up_two : Upright (ranges_at w₀ t.at (list_at w₀ t q))
    up_two = apart_upright _ two_listed.neat

    listed_here : Listed w t (top + r) ((top - t.at) * 2 ^ 32 + r + 1)
    listed_here = record {
      inside = inr (omega (arith, first_is, T.linked.low, one_end), omega (arith, first_is, count_is, one_end));
      neat = rw ranges_are (merged_apart _ (upright_append _ _ up_one up_two));
    }

    lists : (j : ℕ) → j < k + 1 → 0 < list_at w t j → Listed w t (top + r) (list_at w t j)
    lists j h =
        same_or j k (λ e. rw (e, list_here) (λ l. listed_here))
        (λ d. rw (list_else j (omega (arith, k_lt)) d) (λ l. list_kept same (omega arith) (T.linked.lists j h l)))

    linked : Linked w t (top + r) (k + 1)
    linked = record {
      lent = lent_kept T.linked.lent w len_w (λ j l. table j (omega arith) (λ e. omega arith) (λ e. omega arith));
      low = omega (arith, T.linked.low);
      top_le = omega (arith, len_w, r_small, T.end_le);
      k_le = T.linked.k_le;
      falls = falls;
      lists = lists;
    }

    -- ---- what a chain allows

    area_else : (j : ℕ) → j < k → area_at w t j ≡ area_at w₀ t j
    area_else j h =
        ap (area_in w t.at) (list_else j (omega (arith, k_lt)) (λ e. omega arith)) ∙ area_same same (list_at w₀ t j) (T.linked.lists j (omega arith))

    before_k : (a : List Range) (m : ℕ) → m ≤ k → allow (area_at w t) (chain (next_at w t) m) a ≡ allow (area_at w₀ t) (chain (next_at w₀ t) m) a
    before_k a m h =
        ap (λ (l : List ℕ). allow (area_at w t) l a)
        (sym (chain_kept (next_at w₀ t) (next_at w t) m k h (λ j l. T.linked.falls j (omega arith)) (λ j l. sym (next_else j (omega (arith, k_lt)) (λ e. omega arith)))))
        ∙ allow_kept (area_at w t) (area_at w₀ t) a (next_at w₀ t) m k h (λ j l. T.linked.falls j (omega arith)) area_else

    join_here : (a : List Range) → joinable (area_at w t k) a ≡ not (clashes (union (ranges_at w₀ t.at (list_at w₀ t k)) (ranges_at w₀ t.at (list_at w₀ t q))) a)
    join_here a =
        ap (λ (m : ℕ). joinable (area_in w t.at m) a) list_here ∙ ap (λ (o : Option (List Range)). joinable o a) (area_some w t.at ((top - t.at) * 2 ^ 32 + r + 1) (omega arith))
        ∙ ap (λ (rs : List Range). not (clashes rs a)) ranges_are

    join_was : (a : List Range) (j : ℕ) → 0 < list_at w₀ t j → joinable (area_at w₀ t j) a ≡ not (clashes (ranges_at w₀ t.at (list_at w₀ t j)) a)
    join_was a j h = ap (λ (o : Option (List Range)). joinable o a) (area_some w₀ t.at (list_at w₀ t j) h)

    at_k : (a : List Range) → Upright a → allow (area_at w t) (chain (next_at w t) (k + 1)) a ≡ allow (area_at w₀ t) (chain (next_at w₀ t) (k + 1)) a
    at_k a u =
        step_is (next_at w t) (area_at w t) a (k + 1) k (add-one k) (λ j l. falls j l)
        ∙ ap (λ (b : Bool). b && allow (area_at w t) (chain (next_at w t) (next_at w t k)) a) (join_here a)
        ∙ ap (λ (m : ℕ). not (clashes (union A B) a) && allow (area_at w t) (chain (next_at w t) m) a) next_here
        ∙ ap (λ (b : Bool). not (clashes (union A B) a) && b) (before_k a (next_at w₀ t q) (omega (arith, T.linked.falls q (omega (arith, q_lt)), q_lt)))
        ∙ ap (λ (b : Bool). not b && rest a) (union_clashes A B a up_one up_two u)
        ∙ three (clashes A a) (clashes B a) (rest a)
        ∙ sym (step_is (next_at w₀ t) (area_at w₀ t) a (k + 1) k (add-one k) (λ j l. T.linked.falls j l)
        ∙ ap (λ (b : Bool). b && allow (area_at w₀ t) (chain (next_at w₀ t) (next_at w₀ t k)) a) (join_was a k M.one)
        ∙ ap (λ (b : Bool). not (clashes A a) && b)
        (step_is (next_at w₀ t) (area_at w₀ t) a (next_at w₀ t k) q (M.next ∙ add-one q) (λ j l. T.linked.falls j (omega (arith, l, M.next, q_lt)))
        ∙ ap (λ (b : Bool). b && rest a) (join_was a q M.two)))

    any_chain : (a : List Range) → Upright a → (m : ℕ) → m ≤ k + 1 → allow (area_at w t) (chain (next_at w t) m) a ≡ allow (area_at w₀ t) (chain (next_at w₀ t) m) a
    any_chain a u m h = same_or m (k + 1) (λ e. rw e (at_k a u)) (λ d. before_k a m (omega arith))

    head_else : (c : ℕ) → c < t.n → head_at w t c ≡ head_at w₀ t c
    head_else c h = table (head_table t + c) (omega arith) (λ e. omega (arith, k_lt)) (λ e. omega (arith, k_lt))

    holds : (w₂ : List ℕ) (budget cells left : ℕ) (p : Plan) → Holds w₂ w₀ t budget (k + 1) (record { cells = cells; left = left; top = top }) p
        → Holds w₂ w t budget (k + 1) (record { cells = cells; left = left; top = top + r }) p
    holds w₂ budget cells left p H = record {
      len = len_w ∙ H.len;
      tables = tables;
      low = omega (arith, H.low);
      high = r_small;
      end_le = H.end_le;
      lists = lists;
      k_le = H.k_le;
      falls = falls;
      cells_is = H.cells_is;
      cells_le = H.cells_le;
      left_is = H.left_is;
      shown = record {
        size = λ c h. ap size_of (table (cell_table t + c) (omega (arith, H.cells_is, H.cells_le, k_lt)) (λ e. omega (arith, H.cells_is, H.cells_le, k_lt)) (λ e. omega (arith, k_lt))) ∙ H.shown.size c h;
        align = λ c h. ap align_of (table (cell_table t + c) (omega (arith, H.cells_is, H.cells_le, k_lt)) (λ e. omega (arith, H.cells_is, H.cells_le, k_lt)) (λ e. omega (arith, k_lt))) ∙ H.shown.align c h;
        cell = λ i h. table (home_table t + i) (omega arith) (λ e. omega arith) (λ e. omega (arith, k_lt)) ∙ H.shown.cell i h;
      };
      heads = λ c h. rw (head_else c (omega (arith, H.cells_le, k_lt))) (H.heads c h);
      neat = H.neat;
      same = λ c h a u.
          H.same c h a u
          ∙ sym (ap (λ (m : ℕ). allow (area_at w t) (chain (next_at w t) m) a) (head_else c (omega (arith, H.cells_le, k_lt))) ∙ any_chain a u (head_at w₀ t c) (H.heads c h));
    }
      where
        tables : (j : ℕ) → j < head_table t → get_or w j 0 ≡ get_or w₂ j 0
        tables j h = table j (omega arith) (λ e. omega arith) (λ e. omega arith) ∙ H.tables j h

    after : (j : ℕ) → t.end ≤ j → get_or w j 0 ≡ get_or w₀ j 0
    after j h = stores j (λ e. omega (arith, T.linked.low, T.top_end, k_lt)) (λ e. omega (arith, T.linked.low, T.top_end, k_lt)) ∙ U.after j (omega (arith, r_small))

    pub folded : Folded w₀ (set (set w₁ (list_table t + k) ((top - t.at) * 2 ^ 32 + r + 1)) (link_table t + k) (next_at w₀ t q)) t k top (top + r)
    folded = record {
      len = len_w;
      topped = record { linked = linked; top_end = r_small; end_le = omega (arith, len_w, T.end_le); small = T.small };
      keeps = holds;
      rest = after;
    }

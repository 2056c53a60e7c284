-- Every item in order: the tables hold the plan of the order's front, and at the end the whole plan.
use Prim.Native.Nat.{ℕ, ◌+◌, ◌-◌, ◌*◌, ◌^◌, ◌≤◌, ◌<◌, min, max}
use native.Mathlib.Omega.{arith}
use native.Mathlib.Numerals.{add-one}
use mathlib.Core.Path.{◌≡◌, refl, ap, sym, ◌∙◌, subst}
use mathlib.Core.Logic.{inl, inr, ⊎_elim}
use mathlib.Core.Option.{some, none, none-ne-some}
use mathlib.Core.List.{List, [], ◌∷◌, ◌++◌}
use lib.ListN.{length, get_or, take}
use lib.Seq.{take-suc, take_all}
use Rattle.words.specs.Rows.{tabulate}
use Rattle.words.specs.Inner.{Region}
use Rattle.words.proofs.RowLaws.{length_tabulate, get_d_tabulate, tabulate_eq, tabulate_get_d}
use Rattle.fitting.specs.Wants.{Want, want_at, Names, order_of}
use Rattle.fitting.specs.Plan.{Plan, nothing, put, fit, plan_of}
use Rattle.fitting.proofs.OrderLaws.{order_names, length_ordered}
use Rattle.fit_tables.specs.Inner.{size_of, align_of, OrderedIn, want_table, order_table, cell_table, home_table, behind, ranges_at, area_in, want_in, wants_in, Lent}
use Rattle.fit_tables.specs.Inner.{plan_in, Fitted, up_to, order_in, placed_in, order_at, head_at, Probed, entered_in, Holds, InOrder, Ready, Stepped, Placed, Each, Folded}
use Rattle.sorting.proofs.RankLaws.{mem_at}
use Rattle.fit_tables.specs.declared.Progress.{Progress}
use Rattle.fit_tables.proofs.TableLaws.{area_none, area_some, want_at_lem, sized, area_kept, lent_kept, wants_kept}
use Rattle.fit_cells.proofs.EnterLaws.{entered_length, entered_rest}
use Rattle.fit_cells.proofs.StepLaws.{linked, order_kept}
use Rattle.fit_cells.proofs.PutLaws.{open_none, open_miss, join_hit}
use Rattle.fit_tables.specs.declared.Tables.{Tables}

-- ---- one item

module _ {w₀ : List ℕ} {t : Tables} {k : ℕ} {s : Progress} (R : Ready w₀ t k s) (i : ℕ) (i_is : i ≡ order_at w₀ t k) where
  room : behind t ≤ length w₀
  room = omega (arith, R.linked.low, R.linked.top_le)

  i_in : i < t.n
  i_in = rw i_is (R.known k R.k_lt)

  -- what is elsewhere
  module _ (w : List ℕ) (c link word x : ℕ) (c_lt : c < t.n) (e : w ≡ entered_in w₀ t k i c link word x) where
    len_is : length w ≡ length w₀
    len_is = ap length e ∙ entered_length w₀ t k i c link word x room R.k_lt i_in c_lt

    else_is : (y : ℕ) → t.end ≤ y → get_or w y 0 ≡ get_or w₀ y 0
    else_is y h = ap (λ (v : List ℕ). get_or v y 0) e ∙ entered_rest w₀ t k i c link word x room R.k_lt i_in c_lt y (inr (omega (arith, R.linked.low, R.top_end)))

  cells_lt : s.cells < t.n
  cells_lt = omega (arith, R.cells_le, R.k_lt)

  -- of any plan that the tables hold
  module _ {w₁ : List ℕ} {budget : ℕ} {p : Plan} (L : Lent w₁ t) (known : (q : ℕ) → q < t.n → order_at w₁ t q < t.n) (H : Holds w₁ w₀ t budget k s p) where
    i_was : i ≡ order_at w₁ t k
    i_was = i_is ∙ H.tables (order_table t + k) (omega (arith, R.k_lt))

    here : i < t.n
    here = rw i_was (known k R.k_lt)

    area_is : (want_at (wants_in w₁ t) i).area ≡ area_in w₀ t.at (get_or w₀ (t.items + i) 0)
    area_is = ap (λ (x : Want). x.area) (want_at_lem L i here) ∙ sym (area_kept L w₀ H.len (λ x h. H.tables x (omega arith)) i here)

    none_there : get_or w₀ (t.items + i) 0 < 1 → (want_at (wants_in w₁ t) i).area ≡ none
    none_there h = area_is ∙ area_none w₀ t.at (get_or w₀ (t.items + i) 0) (omega arith)

    some_there : 0 < get_or w₀ (t.items + i) 0 → (want_at (wants_in w₁ t) i).area ≡ some (ranges_at w₀ t.at (get_or w₀ (t.items + i) 0))
    some_there h = area_is ∙ area_some w₀ t.at (get_or w₀ (t.items + i) 0) h

    -- the item by its place in the order, and the work space that was written
    moved : (w v : List ℕ) (r : Progress) → w ≡ v → Holds w₁ v t budget (k + 1) r (put (wants_in w₁ t) budget i p)
        → Holds w₁ w t budget (k + 1) r (put (wants_in w₁ t) budget (order_at w₁ t k) p)
    moved w v r e h = rw e (subst (λ (j : ℕ). Holds w₁ v t budget (k + 1) r (put (wants_in w₁ t) budget j p)) i_was h)

  pub stepped_none : {w : List ℕ} → get_or w₀ (t.items + i) 0 < 1 → w ≡ entered_in w₀ t k i s.cells 0 (get_or w₀ (want_table t + i) 0) (get_or w₀ (t.items + i) 0)
      → Stepped w₀ w t k s (record { cells = s.cells + 1; left = s.left; top = s.top })
  stepped_none {w} h e = record {
    keeps = λ w₁ budget p L known H. moved L known H w _ _ e (open_none L known H i (i_was L known H) R.k_lt (none_there L known H h));
    len = len_is w s.cells 0 (get_or w₀ (want_table t + i) 0) (get_or w₀ (t.items + i) 0) cells_lt e;
    rest = else_is w s.cells 0 (get_or w₀ (want_table t + i) 0) (get_or w₀ (t.items + i) 0) cells_lt e;
  }

  module _ (most r : ℕ) (m : most ≡ min s.cells s.left) (h : 0 < get_or w₀ (t.items + i) 0) (P : Probed w₀ t most (ranges_at w₀ t.at (get_or w₀ (t.items + i) 0)) r) where
    pub stepped_miss : {w : List ℕ} → most ≤ r → w ≡ entered_in w₀ t k i s.cells 0 (get_or w₀ (want_table t + i) 0) (get_or w₀ (t.items + i) 0)
        → Stepped w₀ w t k s (record { cells = s.cells + 1; left = s.left - most; top = s.top })
    stepped_miss {w} q e = record {
      keeps = λ w₁ budget p L known H. moved L known H w _ _ e
          (open_miss L known H i (i_was L known H) R.k_lt (ranges_at w₀ t.at (get_or w₀ (t.items + i) 0)) (some_there L known H h) most r m P q);
      len = len_is w s.cells 0 (get_or w₀ (want_table t + i) 0) (get_or w₀ (t.items + i) 0) cells_lt e;
      rest = else_is w s.cells 0 (get_or w₀ (want_table t + i) 0) (get_or w₀ (t.items + i) 0) cells_lt e;
    }

    -- the item has entered cell r, and its list may have been united with others
    pub stepped_hit : {v w : List ℕ} {b : ℕ} → r < most → (word : ℕ)
        → (size_of word ≡ max (size_of (get_or w₀ (cell_table t + r) 0)) (size_of (get_or w₀ (want_table t + i) 0))) × (align_of word ≡ max (align_of (get_or w₀ (cell_table t + r) 0)) (align_of (get_or w₀ (want_table t + i) 0)))
        → v ≡ entered_in w₀ t k i r (head_at w₀ t r) word (get_or w₀ (t.items + i) 0) → Folded v w t k s.top b
        → Stepped w₀ w t k s (record { cells = s.cells; left = s.left - (r + 1); top = b })
    stepped_hit {v} {w} {b} q word z e F = record {
      keeps = λ w₁ budget p L known H. F.keeps w₁ budget s.cells (s.left - (r + 1)) _ (moved L known H v _ _ e
          (join_hit L known H i (i_was L known H) R.k_lt (ranges_at w₀ t.at (get_or w₀ (t.items + i) 0)) (some_there L known H h) most r m P q word z.0 z.1));
      len = F.len ∙ len_is v r (head_at w₀ t r) word (get_or w₀ (t.items + i) 0) (omega (arith, cells_lt)) e;
      rest = λ x l. F.rest x l ∙ else_is v r (head_at w₀ t r) word (get_or w₀ (t.items + i) 0) (omega (arith, cells_lt)) e x l;
    }

-- ---- the order

fit_append : (ws : List Want) (budget : ℕ) (l : List ℕ) (i : ℕ) (p : Plan) → fit ws budget (l ++ (i ∷ [])) p ≡ put ws budget i (fit ws budget l p)
unfolding fit
fit_append ws budget [] i p = refl
fit_append ws budget (j ∷ l) i p = fit_append ws budget l i (put ws budget j p)

fit_none : (ws : List Want) (budget : ℕ) (l : List ℕ) (p : Plan) → fit ws budget (take 0 l) p ≡ p
unfolding fit
fit_none ws budget l p = refl

-- the plan of the first k places
abbrev pub plan_to : List ℕ → Tables → ℕ → ℕ → Plan
plan_to w t budget k = fit (wants_in w t) budget (take k (order_in w t)) nothing

module _ {w₁ : List ℕ} {t : Tables} (O : InOrder w₁ t) where
  length_order : length (order_in w₁ t) ≡ t.n
  length_order = length_tabulate t.n (order_at w₁ t)

  order_at_lem : (k : ℕ) → k < t.n → get_or (order_in w₁ t) k 0 ≡ order_at w₁ t k
  order_at_lem k h = get_d_tabulate t.n (order_at w₁ t) k 0 h

  pub order_known : (q : ℕ) → q < t.n → order_at w₁ t q < t.n
  order_known q h = rw (order_at_lem q h) at (O.names.known (get_or (order_in w₁ t) q 0) (mem_at (order_in w₁ t) q (rw length_order h)))

  pub run_start : (budget : ℕ) → ((i : ℕ) → i < t.n → get_or w₁ (home_table t + i) 0 ≡ 0)
      → Holds w₁ w₁ t budget 0 (record { cells = 0; left = budget; top = behind t }) (plan_to w₁ t budget 0)
  run_start budget zeros = rw (fit_none (wants_in w₁ t) budget (order_in w₁ t) nothing) (record {
    len = refl;
    tables = λ x o. refl;
    low = omega arith;
    high = O.low;
    end_le = O.high;
    lists = λ q h. absurd (omega arith);
    k_le = omega arith;
    falls = λ q h. absurd (omega arith);
    cells_is = refl;
    cells_le = omega arith;
    left_is = omega arith;
    shown = record { size = λ c h. absurd (omega arith); align = λ c h. absurd (omega arith); cell = zeros };
    heads = λ c h. absurd (omega arith);
    neat = λ c rs e. absurd (none-ne-some rs e);
    same = λ c h. absurd (omega arith);
  })

  pub plan_next : (budget k : ℕ) → k < t.n → put (wants_in w₁ t) budget (order_at w₁ t k) (plan_to w₁ t budget k) ≡ plan_to w₁ t budget (k + 1)
  plan_next budget k h =
      ap (λ (i : ℕ). put (wants_in w₁ t) budget i (plan_to w₁ t budget k)) (sym (order_at_lem k h))
      ∙ sym (fit_append (wants_in w₁ t) budget (take k (order_in w₁ t)) (get_or (order_in w₁ t) k 0) nothing)
      ∙ ap (λ (l : List ℕ). fit (wants_in w₁ t) budget l nothing) (sym (ap (λ (j : ℕ). take j (order_in w₁ t)) (add-one k) ∙ take-suc (order_in w₁ t) k 0 (rw length_order h)))

  module _ {w : List ℕ} {budget k : ℕ} {s : Progress} (H : Holds w₁ w t budget k s (plan_to w₁ t budget k)) where
    pub run_ready : k < t.n → Ready w t k s
    run_ready h = record {
      linked = linked O.lent order_known H;
      top_end = H.high;
      end_le = omega (arith, H.end_le, H.len);
      small = O.small;
      known = order_kept O.lent order_known H;
      k_lt = h;
      cells_le = H.cells_le;
      heads = H.heads;
    }

    pub run_more : {v : List ℕ} {r : Progress} → k < t.n → Stepped w v t k s r → Holds w₁ v t budget (k + 1) r (plan_to w₁ t budget (k + 1))
    run_more {v} {r} h S =
        subst (λ (q : Plan). Holds w₁ v t budget (k + 1) r q) (plan_next budget k h)
        (S.keeps w₁ budget (plan_to w₁ t budget k) O.lent order_known H)

    pub run_done : (width : ℕ) → t.n ≤ k → ((x : ℕ) → t.end + t.n * width ≤ x → get_or w x 0 ≡ get_or w₁ x 0) → Each w₁ w t width budget s
    run_done width h rest =
        let e : k ≡ t.n = omega (arith, H.k_le) in
        record {
          holds = subst (λ (q : Plan). Holds w₁ w t budget t.n s q)
              (ap (λ (l : List ℕ). fit (wants_in w₁ t) budget l nothing) (take_all t.n (order_in w₁ t) (omega (arith, length_order))))
              (rw e at H);
          rest = rest;
        }

-- ---- ordering, then placing

module _ {w₀ w₁ w₂ : List ℕ} {t : Tables} (L : Lent w₀ t) (low : behind t ≤ t.end) (high : t.end ≤ length w₀) (small : t.end < 2 ^ 32)
    (O : OrderedIn w₀ w₁ (want_table t) t.n (order_table t)) (F : Region w₁ w₂ (home_table t) t.n (λ _. 0)) where
  same_length : length w₂ ≡ length w₀
  same_length = F.len ∙ O.len

  tables_kept : (x : ℕ) → x < order_table t → get_or w₂ x 0 ≡ get_or w₀ x 0
  tables_kept x h = F.before x (omega arith) ∙ O.rest x (inl h)

  wants_same : wants_in w₂ t ≡ wants_in w₀ t
  wants_same = wants_kept L w₂ same_length tables_kept

  wants_count : length (wants_in w₀ t) ≡ t.n
  wants_count = length_tabulate t.n (want_in w₀ t)

  -- the order's table is the order of the wants
  order_is : order_in w₂ t ≡ order_of (wants_in w₀ t)
  order_is =
      tabulate_eq t.n (order_at w₂ t) (λ k. get_or (order_of (wants_in w₀ t)) k 0) (λ k h. F.before (order_table t + k) (omega arith) ∙ O.is (wants_in w₀ t) (sized L) k h)
      ∙ ap (λ (n : ℕ). tabulate n (λ k. get_or (order_of (wants_in w₀ t)) k 0)) (sym (length_ordered (wants_in w₀ t) (length (wants_in w₀ t)) ∙ wants_count))
      ∙ tabulate_get_d (order_of (wants_in w₀ t)) 0

  pub in_order_lem : InOrder w₂ t
  in_order_lem = record {
    lent = lent_kept L w₂ same_length tables_kept;
    low = low;
    high = omega (arith, same_length);
    small = small;
    names = rw order_is (subst (λ (n : ℕ). Names n (order_of (wants_in w₀ t))) wants_count (order_names (wants_in w₀ t)));
  }

  pub zeros : (i : ℕ) → i < t.n → get_or w₂ (home_table t + i) 0 ≡ 0
  zeros i h = F.inside (home_table t + i) i refl h

  plan_same : (budget : ℕ) → placed_in w₂ t budget ≡ plan_in w₀ t budget
  plan_same budget = ap (λ (ws : List Want). plan_of ws budget (order_in w₂ t)) wants_same ∙ ap (λ (o : List ℕ). plan_of (wants_in w₀ t) budget o) order_is

  pub fitted : {w₃ : List ℕ} {budget : ℕ} {s : Progress} → Placed w₂ w₃ t budget s → Fitted w₀ w₃ t budget (record { cells = s.cells; probes = budget - s.left })
  fitted {w₃} {budget} {s} P =
      let H = subst (λ (q : Plan). Holds w₂ w₃ (up_to t P.rows) budget t.n s q) (plan_same budget) P.holds in
      record {
        len = H.len ∙ same_length;
        cells = H.cells_is;
        few = H.cells_le;
        probes = omega (arith, H.left_is);
        shown = record { size = H.shown.size; align = H.shown.align; cell = H.shown.cell };
        rest = λ x o. ⊎_elim (λ h. H.tables x (omega arith) ∙ tables_kept x h) (λ h. P.rest x h ∙ F.after x (omega arith) ∙ O.rest x (inr (omega arith))) o;
      }

  pub left_less : {w₃ : List ℕ} {budget : ℕ} {s : Progress} → Placed w₂ w₃ t budget s → s.left ≤ budget
  left_less P = omega (arith, P.holds.left_is)

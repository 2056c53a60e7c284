-- The three ways of putting an item: without an area, into a cell that takes it, into a new cell.
use Prim.Native.Nat.{ℕ, suc, ◌+◌, ◌-◌, ◌≤◌, ◌<◌, min, max}
use native.Mathlib.Omega.{arith}
use mathlib.Core.Path.{◌≡◌, refl, ap, sym, ◌∙◌, subst}
use mathlib.Core.Bool.{Bool, true, false, not, ◌&&◌, ◌||◌, false≢true}
use mathlib.Core.Option.{Option, some, none}
use mathlib.Core.List.{List, [], ◌∷◌, ◌++◌}
use lib.ListN.{length, get_or, set, length-set, length-append, get_or-append}
use lib.Seq.{get_or-set_same, get_or-set_other, get_or-append_seam}
use Rattle.ranges.specs.declared.Range.{Range}
use Rattle.ranges.specs.Points.{Upright, listed}
use Rattle.ranges.specs.Merged.{union, clashes}
use Rattle.ranges.proofs.PointLaws.{apart_upright}
use Rattle.fitting.specs.Wants.{Want, want_at}
use Rattle.fitting.specs.Plan.{Cell, cell_at, joinable, lowest, spent, Plan, assign, opened, widened, entered, settled, placed_by, put}
use Rattle.fitting.specs.Inner.{cell_of}
use Rattle.fitting.proofs.SearchLaws.{lowest_found}
use Rattle.fitting.proofs.CellLaws.{union_clashes, Neat, neat_put}
use Rattle.fit_tables.specs.Inner.{size_of, align_of, want_table, cell_table, want_in, wants_in, Lent, order_at, head_at, next_at, area_at, Probed, entered_in, Holds}
use Rattle.fit_tables.proofs.ChainLaws.{walk_end}
use Rattle.fit_tables.proofs.TableLaws.{want_at_lem, want_neat}
use Rattle.fit_cells.proofs.StepLaws.{search_hit, search_miss, holds_enter}
use Rattle.fit_tables.specs.declared.Tables.{Tables}
use Rattle.fit_tables.specs.declared.Progress.{Progress}

-- ---- the plan with one item more, by its case

module _ (ws : List Want) (budget i : ℕ) (p : Plan) where
  pub put_none : (want_at ws i).area ≡ none → put ws budget i p ≡ opened (want_at ws i) i 0 p
  put_none e = ap (λ (o : Option (List Range)). placed_by budget (want_at ws i) o i p) e

  pub put_miss : (a : List Range) → (want_at ws i).area ≡ some a → lowest p.cells (budget - p.probes) a ≡ none
      → put ws budget i p ≡ opened (want_at ws i) i (min (length p.cells) (budget - p.probes)) p
  put_miss a e f =
      ap (λ (o : Option (List Range)). placed_by budget (want_at ws i) o i p) e ∙ ap (λ (o : Option ℕ). settled (want_at ws i) i a (budget - p.probes) o p) f

  pub put_hit : (a : List Range) (n : ℕ) → (want_at ws i).area ≡ some a → lowest p.cells (budget - p.probes) a ≡ some n
      → put ws budget i p ≡ entered (want_at ws i) i a n (suc n) p
  put_hit a n e f =
      ap (λ (o : Option (List Range)). placed_by budget (want_at ws i) o i p) e ∙ ap (λ (o : Option ℕ). settled (want_at ws i) i a (budget - p.probes) o p) f

-- ---- a member more

and_true : (s t : Bool) → t ≡ true → s ≡ s && t
and_true true t e = sym e
and_true false t e = refl

not_or : (s t : Bool) → not (s || t) ≡ not t && not s
not_or true true = refl
not_or true false = refl
not_or false true = refl
not_or false false = refl

pub join_area : (o : Option (List Range)) (a b : List Range) → joinable o a ≡ true → ((rs : List Range) → o ≡ some rs → Upright rs) → Upright a → Upright b
    → joinable (some (union (listed o) a)) b ≡ joinable (some a) b && joinable o b
join_area none a b e f u v = absurd (false≢true e)
join_area (some rs) a b e f u v = ap not (union_clashes rs a b (f rs refl) u v) ∙ not_or (clashes rs b) (clashes a b)

abbrev no_cell : Cell
no_cell = record { size = 0; align = 0; area = none }

module _ {w₁ : List ℕ} {t : Tables} (L : Lent w₁ t) (known : (q : ℕ) → q < t.n → order_at w₁ t q < t.n)
    {w : List ℕ} {budget k : ℕ} {s : Progress} {p : Plan} (H : Holds w₁ w t budget k s p)
    (i : ℕ) (i_is : i ≡ order_at w₁ t k) (k_lt : k < t.n) where
  here : i < t.n
  here = rw i_is (known k k_lt)

  word_is : get_or w (want_table t + i) 0 ≡ get_or w₁ (want_table t + i) 0
  word_is = H.tables (want_table t + i) (omega (arith, here))

  want_is : want_at (wants_in w₁ t) i ≡ want_in w₁ t i
  want_is = want_at_lem L i here

  size_is : size_of (get_or w (want_table t + i) 0) ≡ (want_at (wants_in w₁ t) i).size
  size_is = ap size_of word_is ∙ sym (ap (λ (x : Want). x.size) want_is)

  align_is : align_of (get_or w (want_table t + i) 0) ≡ (want_at (wants_in w₁ t) i).align
  align_is = ap align_of word_is ∙ sym (ap (λ (x : Want). x.align) want_is)

  neat_after : Neat (put (wants_in w₁ t) budget i p).cells
  neat_after = neat_put (wants_in w₁ t) (want_neat L) budget i p H.neat

  holds_open : (probes left' : ℕ) → left' + (p.probes + probes) ≡ budget → put (wants_in w₁ t) budget i p ≡ opened (want_at (wants_in w₁ t) i) i probes p
      → Holds w₁ (entered_in w t k i s.cells 0 (get_or w (want_table t + i) 0) (get_or w (t.items + i) 0)) t budget (k + 1) (record { cells = s.cells + 1; left = left'; top = s.top }) (opened (want_at (wants_in w₁ t) i) i probes p)
  holds_open probes left' spent is =
      subst (λ (m : ℕ). Holds w₁ (entered_in w t k i s.cells 0 (get_or w (want_table t + i) 0) (get_or w (t.items + i) 0)) t budget (k + 1)
      (record { cells = s.cells + 1; left = left'; top = s.top }) (record { cells = p.cells ++ (new ∷ []); cell = assign i m p.cell; probes = p.probes + probes }))
      H.cells_is
      (holds_enter L known H i s.cells 0 (get_or w (want_table t + i) 0) (get_or w (t.items + i) 0) i_is refl k_lt (omega arith) (omega arith) (p.cells ++ (new ∷ [])) (s.cells + 1) left' probes
      (omega (arith, longer, H.cells_is)) (omega (arith, H.cells_le)) (λ b h d. omega arith) spent
      (λ b h d. get_or-append p.cells (new ∷ []) no_cell b (rw H.cells_is at h))
      (size_is ∙ sym (ap (λ (x : Cell). x.size) seam)) (align_is ∙ sym (ap (λ (x : Cell). x.align) seam))
      (subst (λ (q : Plan). Neat q.cells) is neat_after)
      (λ a u. ap (λ (x : Cell). joinable x.area a) seam ∙ and_true _ _ (walk_end (next_at w t) (area_at w t) a 0 refl)))
    where
      new : Cell
      new = cell_of (want_at (wants_in w₁ t) i)

      longer : length (p.cells ++ (new ∷ [])) ≡ length p.cells + 1
      longer = simp length-append (omega arith)

      seam : cell_at (p.cells ++ (new ∷ [])) s.cells ≡ new
      seam = rw H.cells_is (get_or-append_seam p.cells new [] no_cell)

  pub open_none : (want_at (wants_in w₁ t) i).area ≡ none
      → Holds w₁ (entered_in w t k i s.cells 0 (get_or w (want_table t + i) 0) (get_or w (t.items + i) 0)) t budget (k + 1) (record { cells = s.cells + 1; left = s.left; top = s.top }) (put (wants_in w₁ t) budget i p)
  open_none e =
      let is = put_none (wants_in w₁ t) budget i p e in
      rw is (holds_open 0 s.left (omega (arith, H.left_is)) is)

  module _ (a : List Range) (e : (want_at (wants_in w₁ t) i).area ≡ some a) (most r : ℕ) (m : most ≡ min s.cells s.left) (P : Probed w t most a r) where
    upright : Upright a
    upright = apart_upright a (want_neat L i a e)

    pub open_miss : most ≤ r
        → Holds w₁ (entered_in w t k i s.cells 0 (get_or w (want_table t + i) 0) (get_or w (t.items + i) 0)) t budget (k + 1) (record { cells = s.cells + 1; left = s.left - most; top = s.top }) (put (wants_in w₁ t) budget i p)
    open_miss h =
        let is = put_miss (wants_in w₁ t) budget i p a e (search_miss L known H a upright most r m P h) in
        rw is (holds_open (min (length p.cells) (budget - p.probes)) (s.left - most) (omega (arith, H.left_is, H.cells_is)) is)

    pub join_hit : r < most → (word : ℕ) → size_of word ≡ max (size_of (get_or w (cell_table t + r) 0)) (size_of (get_or w (want_table t + i) 0))
        → align_of word ≡ max (align_of (get_or w (cell_table t + r) 0)) (align_of (get_or w (want_table t + i) 0))
        → Holds w₁ (entered_in w t k i r (head_at w t r) word (get_or w (t.items + i) 0)) t budget (k + 1) (record { cells = s.cells; left = s.left - (r + 1); top = s.top }) (put (wants_in w₁ t) budget i p)
    join_hit h word size align =
        rw is
        (holds_enter L known H i r (head_at w t r) word (get_or w (t.items + i) 0) i_is refl k_lt (omega arith) (H.heads r r-lt) (set p.cells r wide) s.cells (s.left - (r + 1)) (suc r)
        (H.cells_is ∙ sym (length-set p.cells r wide)) (omega (arith, H.cells_le)) (λ b l d. l) (omega (arith, H.left_is))
        (λ b l d. get_or-set_other p.cells r b wide no_cell d)
        (size ∙ ap (λ (x : ℕ). max x (size_of (get_or w (want_table t + i) 0))) (H.shown.size r r-in) ∙ ap (λ (x : ℕ). max (cell_at p.cells r).size x) size_is ∙ sym (ap (λ (x : Cell). x.size) seat))
        (align ∙ ap (λ (x : ℕ). max x (align_of (get_or w (want_table t + i) 0))) (H.shown.align r r-in) ∙ ap (λ (x : ℕ). max (cell_at p.cells r).align x) align_is ∙ sym (ap (λ (x : Cell). x.align) seat))
        (subst (λ (q : Plan). Neat q.cells) is neat_after)
        (λ b u. ap (λ (x : Cell). joinable x.area b) seat
        ∙ join_area (cell_at p.cells r).area a b (lowest_found a p.cells (budget - p.probes) r found).fits (λ rs f. apart_upright rs (H.neat r rs f)) upright u
        ∙ ap (λ (o : Option (List Range)). joinable o b && joinable (cell_at p.cells r).area b) (sym e)
        ∙ ap (λ (j : Bool). joinable (want_at (wants_in w₁ t) i).area b && j) (H.same r r-lt b u)))
      where
        wide : Cell
        wide = widened (cell_at p.cells r) (want_at (wants_in w₁ t) i) a

        r-lt : r < s.cells
        r-lt = omega arith

        r-in : r < length p.cells
        r-in = rw H.cells_is at r-lt

        found : lowest p.cells (budget - p.probes) a ≡ some r
        found = search_hit L known H a upright most r m P h

        is : put (wants_in w₁ t) budget i p ≡ entered (want_at (wants_in w₁ t) i) i a r (suc r) p
        is = put_hit (wants_in w₁ t) budget i p a r e found

        seat : cell_at (set p.cells r wide) r ≡ wide
        seat = get_or-set_same p.cells r wide no_cell r-in

-- What the cells of a plan are: their areas stay in order and apart, and an item clashes with a cell exactly when it clashes with a member.
use Prim.Native.Nat.{ℕ, suc, ◌+◌, ◌-◌, ◌<◌}
use native.Mathlib.Omega.{arith}
use native.Mathlib.Decide.{ℕ_discrete, dec_le}
use mathlib.Core.Path.{◌≡◌, refl, ap, sym, ◌∙◌}
use mathlib.Core.Logic.{◌⊎◌, inl, inr}
use mathlib.Core.Bool.{true, ◌||◌}
use mathlib.Core.Option.{Option, some, none, none-ne-some, some-injective}
use mathlib.Core.List.Memᴰ
use mathlib.Core.List.{List, [], ◌∷◌, ◌++◌}
use lib.ListN.{length, set, length-append, get_or-append, get_or-eq_default}
use lib.Seq.{get_or-set_same, get_or-set_other, get_or-append_seam}
use Rattle.words.proofs.Bools.{or_right, or_cases, both_ways}
use Rattle.ranges.specs.declared.Range.{Range}
use Rattle.ranges.specs.Points.{Point, Upright, Apart, listed}
use Rattle.ranges.specs.Merged.{union, clashes}
use Rattle.ranges.proofs.PointLaws.{apart_upright, upright_append}
use Rattle.ranges.proofs.MergeLaws.{merged_apart, merged_upright, union_left, union_right, union_only}
use Rattle.ranges.proofs.ClashLaws.{clashes_common, common_clashes}
use Rattle.fitting.specs.Wants.{Want, want_at}
use Rattle.fitting.specs.Plan.{Cell, cell_at, lowest, Plan, nothing, opened, widened, entered, settled, placed_by, put, fit, plan_of}
use Rattle.fitting.proofs.SearchLaws.{lowest_found}

-- ---- a clash with a union is a clash with one of the two

pub union_clashes : (rs ss a : List Range) → Upright rs → Upright ss → Upright a → clashes (union rs ss) a ≡ clashes rs a || clashes ss a
union_clashes rs ss a u v w = both_ways _ _ down up
  where
    split : (x : ℕ) → Point a x → Point rs x ⊎ Point ss x → clashes rs a || clashes ss a ≡ true
    split x q (inl p) = rw (common_clashes rs a (x, p, q))
    split x q (inr p) = or_right (clashes rs a) (clashes ss a) (common_clashes ss a (x, p, q))

    down : clashes (union rs ss) a ≡ true → clashes rs a || clashes ss a ≡ true
    down e =
        let (x, p, q) = clashes_common (union rs ss) a (merged_upright (rs ++ ss) (upright_append rs ss u v)) w e in
        split x q (union_only rs ss x p)

    back : (clashes rs a ≡ true) ⊎ (clashes ss a ≡ true) → clashes (union rs ss) a ≡ true
    back (inl e) =
        let (x, p, q) = clashes_common rs a u w e in
        common_clashes (union rs ss) a (x, union_left rs ss x p, q)
    back (inr e) =
        let (x, p, q) = clashes_common ss a v w e in
        common_clashes (union rs ss) a (x, union_right rs ss x p, q)

    up : clashes rs a || clashes ss a ≡ true → clashes (union rs ss) a ≡ true
    up e = back (or_cases (clashes rs a) (clashes ss a) e)

-- ---- the cells' areas

abbrev no_cell : Cell
no_cell = record { size = 0; align = 0; area = none }

-- every cell's area is in order and apart
abbrev pub Neat : List Cell → Type 0
Neat cs = (n : ℕ) (rs : List Range) → (cell_at cs n).area ≡ some rs → Apart rs

module _ (ws : List Want) (neat : (i : ℕ) (rs : List Range) → (want_at ws i).area ≡ some rs → Apart rs) where
  neat_open : (i probes : ℕ) (p : Plan) → Neat p.cells → Neat (opened (want_at ws i) i probes p).cells
  neat_open i probes p N n rs e = go (dec_le (suc n) (length p.cells)) (ℕ_discrete n (length p.cells))
    where
      c : Cell
      c = record { size = (want_at ws i).size; align = (want_at ws i).align; area = (want_at ws i).area }

      longer : length (p.cells ++ (c ∷ [])) ≡ length p.cells + 1
      longer = simp length-append (omega arith)

      go : Dec (n < length p.cells) → Dec (n ≡ length p.cells) → Apart rs
      go (yes h) d = N n rs (sym (ap (λ (k : Cell). k.area) (get_or-append p.cells (c ∷ []) no_cell n h)) ∙ e)
      go (no h) (yes z) =
          let s : cell_at (p.cells ++ (c ∷ [])) n ≡ c = rw z (get_or-append_seam p.cells c [] no_cell) in
          neat i rs (sym (ap (λ (k : Cell). k.area) s) ∙ e)
      go (no h) (no d) =
          let s : cell_at (p.cells ++ (c ∷ [])) n ≡ no_cell = get_or-eq_default (p.cells ++ (c ∷ [])) no_cell (omega (arith, longer)) in
          absurd (none-ne-some rs (sym (ap (λ (k : Cell). k.area) s) ∙ e))

  neat_enter : (i probes : ℕ) (p : Plan) → Neat p.cells → (a : List Range) → (want_at ws i).area ≡ some a → (m : ℕ) → m < length p.cells
      → Neat (entered (want_at ws i) i a m probes p).cells
  neat_enter i probes p N a z m h n rs e = go (ℕ_discrete n m)
    where
      c : Cell
      c = widened (cell_at p.cells m) (want_at ws i) a

      old : (o : Option (List Range)) → (cell_at p.cells m).area ≡ o → Upright (listed o)
      old none f = λ r k. absurd (Memᴰ.not-nil k)
      old (some held) f = apart_upright held (N m held f)

      go : Dec (n ≡ m) → Apart rs
      go (yes q) =
          let s : cell_at (set p.cells m c) n ≡ c = rw q (get_or-set_same p.cells m c no_cell h) in
          let f : some (union (listed (cell_at p.cells m).area) a) ≡ some rs = sym (ap (λ (k : Cell). k.area) s) ∙ e in
          rw (some-injective _ rs f) at (merged_apart (listed (cell_at p.cells m).area ++ a) (upright_append _ a (old (cell_at p.cells m).area refl) (apart_upright a (neat i a z))))
      go (no d) = N n rs (sym (ap (λ (k : Cell). k.area) (get_or-set_other p.cells m n c no_cell d)) ∙ e)

  module _ (budget : ℕ) where
    pub neat_put : (i : ℕ) (p : Plan) → Neat p.cells → Neat (put ws budget i p).cells
    neat_put i p N = go (want_at ws i).area refl
      where
        fitted : (a : List Range) → (want_at ws i).area ≡ some a → (left : ℕ) → (f : Option ℕ) → lowest p.cells left a ≡ f → Neat (settled (want_at ws i) i a left f p).cells
        fitted a z left none e = neat_open i 0 p N
        fitted a z left (some n) e = neat_enter i 0 p N a z n (lowest_found a p.cells left n e).there

        go : (o : Option (List Range)) → (want_at ws i).area ≡ o → Neat (placed_by budget (want_at ws i) o i p).cells
        go none z = neat_open i 0 p N
        go (some a) z = fitted a z (budget - p.probes) (lowest p.cells (budget - p.probes) a) refl

    neat_fit : (order : List ℕ) (p : Plan) → Neat p.cells → Neat (fit ws budget order p).cells
    unfolding fit
    neat_fit [] p N = N
    neat_fit (i ∷ order) p N = neat_fit order (put ws budget i p) (neat_put i p N)

    -- wants whose areas are in order and apart give cells whose areas are
    pub neat_plan : (order : List ℕ) → Neat (plan_of ws budget order).cells
    neat_plan order = neat_fit order nothing (λ n rs e. absurd (none-ne-some rs e))

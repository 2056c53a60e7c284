-- The three ways out of the checks, and what a verdict of fine gives.
use Prim.Native.Nat.{ℕ, ◌-◌, ◌/◌, ◌%◌, ◌≤◌}
use native.Mathlib.Omega.{arith}
use mathlib.Core.Path.{◌≡◌, refl, ◌∙◌}
use mathlib.Core.Bool.{Bool, true, false, not}
use mathlib.Core.List.{List, [], ◌∷◌}
use lib.ListN.{length}
use lib.Dec.{ltb, eqb}
use borrow.Author.Tests.{ltb-false, eqb-true, not-false}
use Rattle.refusals.specs.declared.Refusal.{Refusal}
use Rattle.refusals.specs.declared.Refusal.TheVariants.{Count, Space, Want as WantRefused}
use Rattle.refusals.specs.Verdicts.{in_order, check, Bad, Fine, Verdict}
use Rattle.refusals.proofs.Laws.{three_first, three_second, three_third, scan_fine}
use Rattle.words.specs.Rows.{whole_rows}
use Rattle.words.specs.Widths.{cell_width, item_width, range_width, range_count, want_width, want_count}
use Rattle.words.proofs.Bools.{or_neither}
use Rattle.ranges.specs.Forms.{areas_of}
use Rattle.want_checks.specs.Checks.{bad_want, wants_verdict, over_limit, bad_count, bad_space, space_of, verdict}
use Rattle.want_checks.specs.Inner.{Granted}

-- counts within their limits
pub limits : (wants ranges locals budget : ℕ) → over_limit wants ranges locals budget ≡ false → (wants ≤ 4096) × (ranges ≤ 65536)
limits wants ranges locals budget e =
    let (a, b) = or_neither (ltb wants locals) _ e in
    let (c, d) = or_neither (ltb 2048 locals) _ b in
    let (f, g) = or_neither (ltb 2048 (wants - locals)) _ d in
    let (h, k) = or_neither (ltb 65536 ranges) _ g in
    (omega (arith, ltb-false wants locals a, ltb-false 2048 locals c, ltb-false 2048 (wants - locals) f), ltb-false 65536 ranges h)

pub count_fine : (wants areas : List ℕ) (locals budget cells items : ℕ) → bad_count wants areas locals budget cells items ≡ false → (want_count wants ≤ 4096) × (range_count areas ≤ 65536)
count_fine wants areas locals budget cells items e =
    let (a, b) = or_neither (not (whole_rows want_width wants)) _ e in
    let (c, d) = or_neither (not (whole_rows range_width areas)) _ b in
    let (f, g) = or_neither (not (eqb (cells % cell_width) 0)) _ d in
    let (h, k) = or_neither (not (eqb (items % item_width) 0)) _ g in
    limits (want_count wants) (range_count areas) locals budget k

three_fine : (r q : Refusal) (b t : Bool) (v : Verdict) → in_order (check r b ∷ check q t ∷ v ∷ []) ≡ Fine → (b ≡ false) × (t ≡ false) × (v ≡ Fine)
three_fine r q true t v e = let f = three_first r q true t v refl in let z : ◌≡◌ {A = ℕ} 0 1 = cc in absurd (omega arith)
three_fine r q false true v e = let f = three_second r q false true v refl refl in let z : ◌≡◌ {A = ℕ} 0 1 = cc in absurd (omega arith)
three_fine r q false false v e = (refl, refl, three_third r q false false v refl refl ∙ e)

-- the three ways out of the checks
module _ (wants areas : List ℕ) (locals budget cells items offsets work : ℕ) where
  pub verdict_count : bad_count wants areas locals budget cells items ≡ true → Bad Count 0 ≡ verdict wants areas locals budget cells items offsets work
  unfolding verdict
  verdict_count e = three_first Count Space (bad_count wants areas locals budget cells items) (bad_space wants areas cells items offsets work) (wants_verdict areas wants) e

  pub verdict_space : bad_count wants areas locals budget cells items ≡ false → bad_space wants areas cells items offsets work ≡ true → Bad Space 0 ≡ verdict wants areas locals budget cells items offsets work
  unfolding verdict
  verdict_space e f = three_second Count Space (bad_count wants areas locals budget cells items) (bad_space wants areas cells items offsets work) (wants_verdict areas wants) e f

  pub verdict_wants : bad_count wants areas locals budget cells items ≡ false → bad_space wants areas cells items offsets work ≡ false → wants_verdict areas wants ≡ verdict wants areas locals budget cells items offsets work
  unfolding verdict
  verdict_wants e f = three_third Count Space (bad_count wants areas locals budget cells items) (bad_space wants areas cells items offsets work) (wants_verdict areas wants) e f

  pub granted : verdict wants areas locals budget cells items offsets work ≡ Fine → Granted wants areas cells items offsets work
  unfolding verdict
  granted e =
      let (a, b, c) = three_fine Count Space (bad_count wants areas locals budget cells items) (bad_space wants areas cells items offsets work) (wants_verdict areas wants) e in
      let (few', short') = count_fine wants areas locals budget cells items a in
      let (f, g) = or_neither (ltb work (space_of wants areas)) _ b in
      let (h, k) = or_neither (ltb (cells / cell_width) (want_count wants)) _ g in
      let (l, m) = or_neither (ltb (items / item_width) (want_count wants)) _ k in
      record {
        few = few';
        short = short';
        space = ltb-false work (space_of wants areas) f;
        in_cells = omega (arith, ltb-false (cells / cell_width) (want_count wants) h);
        in_items = omega (arith, ltb-false (items / item_width) (want_count wants) l);
        in_offsets = ltb-false offsets (want_count wants) m;
        fine = scan_fine WantRefused (bad_want (areas_of areas) wants) (want_count wants) c;
      }

  -- the counts that a query of the plan asks for
  pub record Counts : Type 0 where
    pub locals_in : locals ≤ want_count wants
    pub few_locals : locals ≤ 2048
    pub few_slots : want_count wants - locals ≤ 2048
    pub whole_areas : length areas % range_width ≡ 0

  pub counts_fine : verdict wants areas locals budget cells items offsets work ≡ Fine → Counts
  unfolding verdict
  counts_fine e =
      let (a, _, _) = three_fine Count Space (bad_count wants areas locals budget cells items) (bad_space wants areas cells items offsets work) (wants_verdict areas wants) e in
      let (f, b) = or_neither (not (whole_rows want_width wants)) _ a in
      let (w, d) = or_neither (not (whole_rows range_width areas)) _ b in
      let (g, h) = or_neither (not (eqb (cells % cell_width) 0)) _ d in
      let (k, l) = or_neither (not (eqb (items % item_width) 0)) _ h in
      let (m, n) = or_neither (ltb (want_count wants) locals) _ l in
      let (o, p) = or_neither (ltb 2048 locals) _ n in
      let (q, r) = or_neither (ltb 2048 (want_count wants - locals)) _ p in
      record {
        locals_in = ltb-false (want_count wants) locals m;
        few_locals = ltb-false 2048 locals o;
        few_slots = ltb-false 2048 (want_count wants - locals) q;
        whole_areas = eqb-true (length areas % range_width) 0 (not-false (whole_rows range_width areas) w);
      }

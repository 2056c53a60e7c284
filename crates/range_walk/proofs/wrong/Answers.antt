-- `wrong` meets its contract: one law for each way out.
use Prim.Native.Nat.{ℕ, ◌+◌, ◌-◌, ◌*◌, ◌<◌}
use native.Mathlib.Omega.{arith}
use mathlib.Core.Path.{◌≡◌, refl, ap, ◌∙◌}
use mathlib.Core.Bool.{true}
use mathlib.Core.List.{List}
use lib.ListN.{get_or, drop}
use Rattle.words.specs.Widths.{range_width, range_count}
use Rattle.ranges.specs.Points.{range, range_at}
use Rattle.ranges.specs.Forms.{areas_of}
use Rattle.ranges.proofs.LentLaws.{wrong_reversed, wrong_front, wrong_close}
use Rattle.range_walk.proofs.PartLaws.{from_at}
use Rattle.range_walk.proofs.wrong.Goals as goal

-- the end of the one before stands before the start
before_at : (s : List ℕ) (first i : ℕ) → (i ≡ 0 → ⊥) → first + i < range_count s
    → range_at (drop first (areas_of s)) (i - 1) ≡ range (get_or s (range_width * (first + (i - 1))) 0) (get_or s (range_width * (first + i) - 1) 0)
before_at s first i d h =
    let e : range_width * (first + (i - 1)) + 1 ≡ range_width * (first + i) - 1 = omega arith in
    from_at s first (i - 1) (omega arith) ∙ ap (λ (k : ℕ). range (get_or s (range_width * (first + (i - 1))) 0) (get_or s k 0)) e

pub returns-then-areas-at : goal.returns-then-areas-at
returns-then-areas-at c =
    let a = c.args in
    wrong_reversed (drop a.first (areas_of a.areas.now)) a.i _ _ (from_at a.areas.now a.first a.i c.requires) true c.if-areas-at.true

pub returns-then-i-eq0 : goal.returns-then-i-eq0
returns-then-i-eq0 c =
    let a = c.args in
    wrong_front (drop a.first (areas_of a.areas.now)) a.i _ _ (from_at a.areas.now a.first a.i c.requires) true c.if-areas-at.false refl c.if-i-eq0.true

pub returns : goal.returns
returns c =
    let a = c.args in
    let h = c.requires in
    wrong_close (drop a.first (areas_of a.areas.now)) a.i _ _ (from_at a.areas.now a.first a.i h) true
    c.if-areas-at.false refl c.if-i-eq0.false _ _ (before_at a.areas.now a.first a.i c.if-i-eq0.false h)

-- `cover_touch` meets its contract: a law for each way out, by how far the touch's last block is from its first.
use native.Mathlib.Omega.{arith}
use Prim.Native.Nat.{ℕ, ◌+◌}
use mathlib.Core.Path.{ap, ◌∙◌}
use mathlib.Core.List.{List}
use Rattle.ranges.specs.Inner.{unpack}
use Rattle.areas.specs.Blocks.{block_of, cover}
use Rattle.spots.specs.Spots.{line_of}
use Rattle.spots.specs.Inner.{ends_at}
use Rattle.area_ends.proofs.CoverLaws.{ends_set, covered_one, covered_two, covered_three}
use Rattle.area_ends.proofs.cover_touch.Goals as goal

pub returns-then-last-first : goal.returns-then-last-first
returns-then-last-first c =
    λ es. covered_one (line_of c.args.blocks.now es) c.requires.sound.0 (ends_at c.args.t c.args.work.now) c.args.s c.args.x c.args.m c.requires.sound.2 _ _
    (c.holding-first.ensures.is es ∙ ap (λ (y : ℕ). block_of (line_of c.args.blocks.now es) y)
    c.start_of.ensures) (c.holding-last.ensures.is es ∙ ap
    (λ (y : ℕ). block_of (line_of c.args.blocks.now es) y) c.end_of.ensures) c.args.work.now c.requires.count_bound.2 _
    c.cover-one.ensures (omega arith)

pub returns-then-last-first-2 : goal.returns-then-last-first-2
returns-then-last-first-2 c =
    λ es. covered_two (line_of c.args.blocks.now es) c.requires.sound.0 (ends_at c.args.t c.args.work.now) c.args.s c.args.x c.args.m c.requires.sound.2 _ _
    (c.holding-first.ensures.is es ∙ ap (λ (y : ℕ). block_of (line_of c.args.blocks.now es) y) c.start_of.ensures)
    (c.holding-last.ensures.is es ∙ ap (λ (y : ℕ). block_of (line_of c.args.blocks.now es) y) c.end_of.ensures) c.args.work.now c.requires.count_bound.2 _
    c.cover-one.ensures _ (c.cover-two.ensures ∙ ap (λ (l : List ℕ). cover (line_of c.args.blocks.now es) l c.holding-last.result.0 (unpack c.args.x))
    (ends_set c.args.t c.args.s.to c.args.work.now c.requires.sound.1 c.requires.count_bound.0 c.requires.count_bound.1 (c.args.s.to + c.args.m) c.cover-one.result
    (omega (arith, c.requires.count_bound.2)) (omega (arith, c.requires.count_bound.2)))) (omega arith) (omega arith)

pub returns : goal.returns
returns c =
    λ es. covered_three (line_of c.args.blocks.now es) c.requires.sound.0 (ends_at c.args.t c.args.work.now) c.args.s c.args.x c.args.m c.requires.sound.2 _ _
    (c.holding-first.ensures.is es ∙ ap (λ (y : ℕ). block_of (line_of c.args.blocks.now es) y) c.start_of.ensures)
    (c.holding-last.ensures.is es ∙ ap (λ (y : ℕ). block_of (line_of c.args.blocks.now es) y) c.end_of.ensures) c.args.work.now c.requires.count_bound.2 _
    c.cover-one.ensures _ (c.cover-two.ensures ∙ ap (λ (l : List ℕ). cover (line_of c.args.blocks.now es) l c.holding-last.result.0
    (unpack c.args.x)) (ends_set c.args.t c.args.s.to c.args.work.now c.requires.sound.1 c.requires.count_bound.0 c.requires.count_bound.1 (c.args.s.to + c.args.m) c.cover-one.result
    (omega (arith, c.requires.count_bound.2)) (omega (arith, c.requires.count_bound.2)))) _ c.between.ensures (omega arith)

-- `touch` meets its contract: a law for each way out, by how far the touch's last block is from its first.
use native.Mathlib.Omega.{arith}
use Prim.Native.Nat.{ℕ}
use mathlib.Core.Path.{ap, ◌∙◌}
use Rattle.areas.specs.Blocks.{block_of}
use Rattle.spots.specs.Spots.{line_of}
use Rattle.area_pieces.proofs.SpanLaws.{put_one, put_two, put_three}
use Rattle.area_pieces.proofs.touch.Goals as goal

pub returns-then-last-first : goal.returns-then-last-first
returns-then-last-first c =
    λ es. put_one (line_of c.args.blocks.now es) c.requires.0 c.args.s c.args.x c.args.m c.requires.2 _ _ _
    (c.holding-first.ensures.is es ∙ ap (λ (y : ℕ). block_of (line_of c.args.blocks.now es) y) c.start_of.ensures)
    (c.holding-last.ensures.is es ∙ ap (λ (y : ℕ). block_of (line_of c.args.blocks.now es) y) c.end_of.ensures) c.requires.1.wide c.holding-first.ensures.below
    c.holding-last.ensures.below c.requires.1.fits (omega arith) c.clip.ensures

pub returns-then-last-first-2 : goal.returns-then-last-first-2
returns-then-last-first-2 c =
    λ es. put_two (line_of c.args.blocks.now es) c.requires.0 c.args.s c.args.x c.args.m c.requires.2 _ _ _
    (c.holding-first.ensures.is es ∙ ap (λ (y : ℕ). block_of (line_of c.args.blocks.now es) y) c.start_of.ensures)
    (c.holding-last.ensures.is es ∙ ap (λ (y : ℕ). block_of (line_of c.args.blocks.now es) y) c.end_of.ensures) c.requires.1.wide c.holding-first.ensures.below
    c.holding-last.ensures.below c.requires.1.fits (omega arith) (omega arith) c.clip.ensures
    c.clip-2.ensures

pub returns : goal.returns
returns c =
    λ es. put_three (line_of c.args.blocks.now es) c.requires.0 c.args.s c.args.x c.args.m c.requires.2 _ _ _
    (c.holding-first.ensures.is es ∙ ap (λ (y : ℕ). block_of (line_of c.args.blocks.now es) y) c.start_of.ensures)
    (c.holding-last.ensures.is es ∙ ap (λ (y : ℕ). block_of (line_of c.args.blocks.now es) y) c.end_of.ensures) c.requires.1.wide c.holding-first.ensures.below
    c.holding-last.ensures.below _ c.requires.1.mark_fits c.requires.1.span_fits c.requires.1.fits (omega arith) c.between.ensures
    c.clip.ensures c.clip-2.ensures

-- `insts::checks::outside` meets its contract: by the block that the search finds.
use native.Mathlib.Omega.{arith}
use Prim.Native.Nat.{ℕ, ◌-◌, ◌*◌}
use mathlib.Core.Path.{◌≡◌, sym, ap, ◌∙◌}
use lib.ListN.{get_or}
use Rattle.insts.proofs.CheckLaws.{search_found, not_in, found_in}
use Rattle.words.specs.Widths.{block_width, block_start}
use borrow.Author.Tests.{leb-true}
use Rattle.graph.proofs.Line.{number_is}
use Rattle.insts.proofs.checks.outside.Goals as goal

pub returns-then-k-eq0 : goal.returns-then-k-eq0
returns-then-k-eq0 c =
    not_in (c.args.blocks.now) c.requires.0 c.args.number c.args.early c.args.late
    (λ k h e a b. let q = search_found (c.args.blocks.now) c.requires.0 _ k c.args.early c.requires.2 h a (omega arith) in omega arith)

pub overflow_mul-at : goal.overflow_mul-at
overflow_mul-at c = let w = c.requires.2.within in omega arith

pub offset_bounds-blocks-at : goal.offset_bounds-blocks-at
offset_bounds-blocks-at c = let w = c.requires.2.within in omega arith

pub bounds-blocks-at : goal.bounds-blocks-at
bounds-blocks-at c = let w = c.requires.2.within in omega arith

pub returns-then-blocks-at : goal.returns-then-blocks-at
returns-then-blocks-at c =
    not_in (c.args.blocks.now) c.requires.0 c.args.number c.args.early c.args.late (λ k h e a b. let q = search_found (c.args.blocks.now) c.requires.0 _ k
    c.args.early c.requires.2 h a (omega arith) in
    let z : c.args.k - 1 ≡ k = omega arith in
    c.if-blocks-at.true (ap (λ (j : ℕ). get_or (c.args.blocks.now) (block_width * j) 0) z ∙ sym (number_is (c.args.blocks.now) k h) ∙ e))

pub overflow_mul-result : goal.overflow_mul-result
overflow_mul-result c = let w = c.requires.2.within in omega arith

pub overflow_add-result : goal.overflow_add-result
overflow_add-result c = let w = c.requires.2.within in omega arith

pub offset_bounds-blocks-at-2 : goal.offset_bounds-blocks-at-2
offset_bounds-blocks-at-2 c = let w = c.requires.2.within in omega arith

pub bounds-blocks-at-2 : goal.bounds-blocks-at-2
bounds-blocks-at-2 c = let w = c.requires.2.within in omega arith

pub returns : goal.returns
returns c =
    let w = c.requires.2.within in
    found_in (c.args.blocks.now) c.requires.0 c.args.number c.args.early c.args.late (c.args.k - 1) (omega arith) c.if-blocks-at.false
    (leb-true (block_start (c.args.blocks.now) (c.args.k - 1)) c.args.early (c.requires.2.holds (c.args.k - 1) (omega arith)))

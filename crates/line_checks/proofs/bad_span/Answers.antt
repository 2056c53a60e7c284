-- `bad_span` meets its contract: a law for each way out.
use native.Mathlib.Omega.{arith}
use Prim.Native.Nat.{ℕ, ◌+◌, ◌-◌, ◌*◌, ◌<◌}
use mathlib.Core.Path.{◌≡◌, sym, ap, ◌∙◌}
use lib.ListN.{get_or}
use lib.Dec.{eqb, ltb}
use Rattle.line_checks.proofs.Refusals.{reversed, gap_next, gapped, at_end, inside, gap_first}
use Rattle.graph.proofs.Line.{start_is, end_is, blocks_length}
use Rattle.graph.specs.Line.{blocks_of, block_at, gap_at}
use mathlib.Core.Bool.{not, false}
use Rattle.words.specs.Widths.{block_width, block_start, block_end}
use Rattle.line_checks.proofs.bad_span.Goals as goal
use Rattle.line_checks.proofs.bad_span.Goals.{then-i-gt0+else-not-follows, else-i-gt0}

pub returns-then-end-start : goal.returns-then-end-start
returns-then-end-start c =
    let known : ((block_at (blocks_of c.args.blocks.now) c.args.i).start ≡ block_start c.args.blocks.now c.args.i) × ((block_at (blocks_of c.args.blocks.now) c.args.i).end ≡
    block_end c.args.blocks.now c.args.i) = (start_is c.args.blocks.now c.args.i (omega arith), end_is c.args.blocks.now c.args.i (omega arith)) in
    let b = known in reversed (blocks_of c.args.blocks.now) c.args.points c.args.i (omega arith)

pub returns-then-not-follows : goal.returns-then-not-follows
returns-then-not-follows c =
    let known : ((block_at (blocks_of c.args.blocks.now) c.args.i).start ≡ block_start c.args.blocks.now c.args.i) × ((block_at (blocks_of c.args.blocks.now) c.args.i).end ≡
    block_end c.args.blocks.now c.args.i) = (start_is c.args.blocks.now c.args.i (omega arith), end_is c.args.blocks.now c.args.i (omega arith)) in
    let before-is : 0 < c.args.i → eqb (block_start c.args.blocks.now c.args.i) (get_or c.args.blocks.now (block_width * c.args.i - 1) 0 + 1) ≡ eqb (block_at (blocks_of
    c.args.blocks.now) c.args.i).start ((block_at (blocks_of c.args.blocks.now) (c.args.i - 1)).end + 1) = λ h. let q : block_width * (c.args.i - 1) + 2 ≡ block_width *
    c.args.i - 1 = omega arith in
    let e = end_is c.args.blocks.now (c.args.i - 1) (omega arith) ∙ ap (λ (y : ℕ). get_or c.args.blocks.now y 0) q in
    sym (ap (λ (y : ℕ). eqb y ((block_at (blocks_of c.args.blocks.now) (c.args.i - 1)).end + 1)) (known).0 ∙ ap (λ (y : ℕ). eqb (block_start c.args.blocks.now c.args.i) (y + 1)) e) in
    let b = known in
    gapped (blocks_of c.args.blocks.now) c.args.points c.args.i (omega arith)
    (gap_next (blocks_of c.args.blocks.now) c.args.i (omega arith) c.follows.result (c.follows.ensures ∙ before-is (omega arith)) ∙ ap not c.if-not-follows.true)

pub returns-then-i-blocks : goal.returns-then-i-blocks
returns-then-i-blocks c =
    let known : ((block_at (blocks_of c.args.blocks.now) c.args.i).start ≡ block_start c.args.blocks.now c.args.i) × ((block_at (blocks_of c.args.blocks.now) c.args.i).end ≡
    block_end c.args.blocks.now c.args.i) = (start_is c.args.blocks.now c.args.i (omega arith), end_is c.args.blocks.now c.args.i (omega arith)) in
    let before-is : 0 < c.args.i → eqb (block_start c.args.blocks.now c.args.i) (get_or c.args.blocks.now (block_width * c.args.i - 1) 0 + 1) ≡ eqb (block_at (blocks_of
    c.args.blocks.now) c.args.i).start ((block_at (blocks_of c.args.blocks.now) (c.args.i - 1)).end + 1) = λ h. let q : block_width * (c.args.i - 1) + 2 ≡ block_width *
    c.args.i - 1 = omega arith in
    let e = end_is c.args.blocks.now (c.args.i - 1) (omega arith) ∙ ap (λ (y : ℕ). get_or c.args.blocks.now y 0) q in
    sym (ap (λ (y : ℕ). eqb y ((block_at (blocks_of c.args.blocks.now) (c.args.i - 1)).end + 1)) (known).0 ∙ ap (λ (y : ℕ). eqb (block_start c.args.blocks.now c.args.i) (y + 1)) e) in
    let no_gap : gap_at (blocks_of c.args.blocks.now) c.args.i ≡ false =
    elim c.if-i-gt0.branch [
      | then-i-gt0+else-not-follows w ↦ gap_next (blocks_of c.args.blocks.now) c.args.i w.if-i-gt0.true w.follows.result
          (w.follows.ensures ∙ before-is w.if-i-gt0.true) ∙ ap not w.if-not-follows.false
      | else-i-gt0 w ↦ gap_first (blocks_of c.args.blocks.now) c.args.points c.args.i w.if-i-gt0.false
    ] in
    let b = known in
    ap (ltb c.args.points) (sym b.1) ∙ at_end (blocks_of c.args.blocks.now) c.args.points c.args.i (omega arith) (no_gap)
    (omega (arith, blocks_length c.args.blocks.now))

pub returns : goal.returns
returns c =
    let known : ((block_at (blocks_of c.args.blocks.now) c.args.i).start ≡ block_start c.args.blocks.now c.args.i) × ((block_at (blocks_of c.args.blocks.now) c.args.i).end ≡
    block_end c.args.blocks.now c.args.i) = (start_is c.args.blocks.now c.args.i (omega arith), end_is c.args.blocks.now c.args.i (omega arith)) in
    let before-is : 0 < c.args.i → eqb (block_start c.args.blocks.now c.args.i) (get_or c.args.blocks.now (block_width * c.args.i - 1) 0 + 1) ≡ eqb (block_at (blocks_of
    c.args.blocks.now) c.args.i).start ((block_at (blocks_of c.args.blocks.now) (c.args.i - 1)).end + 1) = λ h. let q : block_width * (c.args.i - 1) + 2 ≡ block_width *
    c.args.i - 1 = omega arith in
    let e = end_is c.args.blocks.now (c.args.i - 1) (omega arith) ∙ ap (λ (y : ℕ). get_or c.args.blocks.now y 0) q in
    sym (ap (λ (y : ℕ). eqb y ((block_at (blocks_of c.args.blocks.now) (c.args.i - 1)).end + 1)) (known).0 ∙ ap (λ (y : ℕ). eqb (block_start c.args.blocks.now c.args.i) (y + 1)) e) in
    let no_gap : gap_at (blocks_of c.args.blocks.now) c.args.i ≡ false =
    elim c.if-i-gt0.branch [
      | then-i-gt0+else-not-follows w ↦ gap_next (blocks_of c.args.blocks.now) c.args.i w.if-i-gt0.true w.follows.result
          (w.follows.ensures ∙ before-is w.if-i-gt0.true) ∙ ap not w.if-not-follows.false
      | else-i-gt0 w ↦ gap_first (blocks_of c.args.blocks.now) c.args.points c.args.i w.if-i-gt0.false
    ] in
    let b = known in
    inside (blocks_of c.args.blocks.now) c.args.points c.args.i (omega arith) (no_gap) (omega (arith, blocks_length c.args.blocks.now))

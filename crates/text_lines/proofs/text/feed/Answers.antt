-- `feed` meets its contract: a byte more is read each turn.
use native.Mathlib.Omega.{arith}
use Rattle.text_lines.proofs.EndLaws.{fed_none, fed_more, ready_more, fed_all}
use Rattle.text_lines.proofs.text.feed.Goals as goal

pub loop-b-init : goal.loop-b-init
loop-b-init c = (omega arith, fed_none)

pub take_byte-q-requires : goal.take_byte-q-requires
take_byte-q-requires c =
    let a = c.args in
    (let h = c.requires.0 in let k = c.loop-b.invariant.1.fields_kept in omega arith, ready_more a.piece.now c.loop-b.b-index (omega arith) c.loop-b.invariant.1 c.requires.1)

pub loop-b-preserved : goal.loop-b-preserved
loop-b-preserved c =
    let a = c.args in
    (omega (arith, c.loop-b-test.true), fed_more a.piece.now c.loop-b.b-index c.loop-b-test.true c.loop-b.invariant.1 c.take_byte-q.ensures)

pub returns : goal.returns
returns c = fed_all c.args.piece.now c.loop-b.b-index (omega arith) c.loop-b.invariant.1

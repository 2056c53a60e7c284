-- `load_wants` meets its contract: a turn keeps `Done`.
use Rattle.words.proofs.RegionLaws.{done_start, done_more, done_all}
use Rattle.fit_tables.proofs.WantLaws.{want_word_lem}
use native.Mathlib.Omega.{arith}
use mathlib.Core.Path.{refl}
use Rattle.fit_tables.proofs.want_tables.load_wants.Goals as goal

pub loop-i-init : goal.loop-i-init
loop-i-init c = done_start _ _ _ _ (omega arith)

pub loop-i-preserved : goal.loop-i-preserved
loop-i-preserved c =
    done_more c.loop-i.invariant _ _ (omega arith) refl (want_word_lem c.args.wants.now c.loop-i.i)

pub returns : goal.returns
returns c = done_all c.loop-i.invariant (omega arith)

-- `follow::walks::take` meets its contract: a law for each way out.
use native.Mathlib.Omega.{arith}
use Rattle.follow.proofs.BeginLaws.{took_other, took_lost, took_new}
use Rattle.follow.proofs.walks.take.Goals as goal

pub returns-then-insts-i-ne1 : goal.returns-then-insts-i-ne1
returns-then-insts-i-ne1 c =
    took_other (c.args).lay (c.args).z (c.args).insts.now (c.args).work.now (c.args).i (c.args).b (c.requires).2 c.if-insts-i-ne1.true

pub returns-then-work-lay-eq0 : goal.returns-then-work-lay-eq0
returns-then-work-lay-eq0 c =
    took_lost (c.args).lay (c.args).z (c.args).insts.now (c.args).work.now (c.args).i (c.args).b (c.requires).2 (omega arith) c.if-work-lay-eq0.true

pub returns : goal.returns
returns c =
    took_new (c.args).lay (c.args).z (c.args).insts.now (c.args).work.now (c.args).i (c.args).b (c.join-n).ensures
    (omega arith) (c.if-work-lay-eq0).false

-- `tables` meets its contract: the code is prepared, then the ends are chained.
use native.Mathlib.Omega.{arith}
use mathlib.Core.Path.{refl}
use Rattle.job_locals.proofs.TableLaws.{tables_in}
use Rattle.job_locals.proofs.tables.Goals as goal

pub prepare-n-requires : goal.prepare-n-requires
prepare-n-requires c =
    record { adds_up = (c.requires.adds, c.requires.few_insts, c.requires.registers); laid = c.requires.laid; by_index = c.requires.ended }

pub fill-requires : goal.fill-requires
fill-requires c = omega (arith, c.requires.heads_fit, c.requires.nexts_fit, c.prepare-n.ensures.kept.len)

pub chain-requires : goal.chain-requires
chain-requires c =
    record { column_lt_width = (omega arith, refl, c.requires.heads_fit, omega (arith, c.requires.nexts_fit, c.fill.ensures.len, c.prepare-n.ensures.kept.len)); by_index = λ l h. c.fill.ensures.inside _ l refl h }

pub returns : goal.returns
returns c =
    let a = c.args in
    tables_in a.insts.now a.operands.now a.crossings.now a.addresses.now a.ends.now a.v a.locals a.lay a.p c.requires
    c.prepare-n.ensures c.fill.ensures
    c.chain.ensures

pub shape_of-work : goal.shape_of-work
shape_of-work c = (returns c).kept.len

-- `answer` meets its contract: the tables hold the wants, fitting leaves their plan there, and it is listed.
use Rattle.wants.proofs.LoadLaws.{first_small, lent, wants_are}
use Rattle.wants.proofs.EntryLaws.{listable, made, answered}
use lib.ListN.{length}
use native.Mathlib.Omega.{arith}
use Rattle.wants.proofs.answer.Goals as goal

pub load-requires : goal.load-requires
load-requires c =
    let a = c.args in
    (omega (arith, c.requires.space), omega arith, omega arith, c.requires.few, first_small a.wants.now a.areas.now c.requires.short c.requires.fine)

pub fit-f-requires : goal.fit-f-requires
fit-f-requires c = (
  lent c.load.ensures (λ x. (c.type_inv.areas x).fits) (λ x. (c.type_inv.wants x).fits) c.requires.few c.requires.short (omega (arith, c.requires.space)) c.requires.fine,
  omega arith,
  omega (arith, c.requires.space, c.load.ensures.len),
  omega (arith, c.requires.few, c.requires.short),
)

pub list-r-requires : goal.list-r-requires
list-r-requires c =
    let a = c.args in
    listable a.wants.now a.areas.now (length a.cells.now) (length a.items.now) (length a.offsets.now) a.work.now _ _ _ _ c.requires c.load.ensures c.fit-f.ensures

pub returns : goal.returns
returns c =
    let a = c.args in
    let the-load = c.load in
    let the-fit = c.fit-f in
    answered a.wants.now a.areas.now (length a.cells.now) (length a.items.now) (length a.offsets.now) a.work.now _ _ _ _ c.requires the-load.ensures the-fit.ensures
    (c.list-r.ensures _ (made a.wants.now a.areas.now (length a.cells.now) (length a.items.now) (length a.offsets.now) a.work.now _ _ _ _ c.requires the-load.ensures the-fit.ensures
    (wants_are the-load.ensures (λ x. (c.type_inv.areas x).fits) (λ x. (c.type_inv.wants x).fits) c.requires.few c.requires.short (omega (arith, c.requires.space)) c.requires.fine)))
    c.clear.ensures

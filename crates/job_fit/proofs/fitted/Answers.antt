-- `fitted` meets its contract: the wants' table is loaded, and fitting leaves their plan.
use native.Mathlib.Omega.{arith}
use Rattle.job_fit.proofs.FitLaws.{lent, fitted_for}
use Rattle.job_fit.proofs.fitted.Goals as goal

pub fit-requires : goal.fit-requires
fit-requires c = (
  lent c.args.locals.now c.args.slots.now (λ x. (c.type_inv.locals x).fits) (λ x. (c.type_inv.slots x).fits) c.load.ensures
      (omega (arith, c.requires.space, c.requires.inside)) c.requires.short c.requires,
  c.requires.space,
  omega (arith, c.requires.inside, c.load.ensures.len),
  c.requires.small,
)

pub returns : goal.returns
returns c =
    fitted_for c.args.locals.now c.args.slots.now (λ x. (c.type_inv.locals x).fits) (λ x. (c.type_inv.slots x).fits) c.load.ensures
    (omega (arith, c.requires.space, c.requires.inside)) c.requires.short c.requires.space c.fit.ensures

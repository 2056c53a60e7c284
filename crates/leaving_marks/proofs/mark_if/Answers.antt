-- `area_rows::marks::mark_if` meets its contract.
use mathlib.Core.Bool.{true}
use Rattle.area_rows.proofs.PutLaws.{put_as, put_none}
use native.Mathlib.Omega.{arith}
use Prim.Native.Nat.{ℕ}
use mathlib.Core.Path.{◌≡◌}
use Rattle.leaving_marks.proofs.mark_if.Goals as goal

pub returns-then-yes : goal.returns-then-yes
returns-then-yes c =
    put_as (λ j. (j ≡ c.args.k) × (c.args.yes ≡ true)) c.mark.ensures (λ j h e. (e, c.if-yes.true)) (λ j h p. p.0)

pub returns : goal.returns
returns c =
    put_as (λ j. (j ≡ c.args.k) × (c.args.yes ≡ true)) (put_none _ _ _) (λ j h e. absurd e)
    (λ j h p. absurd (let x = p.1 in let y = c.if-yes.false in let z : ◌≡◌ {A = ℕ} 0 1 = cc in omega arith))

-- The outcome of a plan: an answer is no refusal.
use Rattle.std.specs.Prelude.{Err}
use Prim.Native.Nat.{ℕ}
use native.Mathlib.Omega.{arith}
use mathlib.Core.Path.{◌≡◌, refl}
use Rattle.refusals.specs.Outcomes.{given, unless}
use Rattle.fitting.specs.Plan.{Plan}
use Rattle.wants.specs.Entry.{tally_of}
use Rattle.refusals.specs.Verdicts.{Fine, Verdict}
use Rattle.wants.specs.declared.Tally.{Tally}

pub not_refused : (v : Verdict) (p : Plan) (t : Tally) → given t ≡ tally_of (unless v p) → v ≡ Fine
not_refused Fine p t e = refl
not_refused (Err x) p t e = absurd (let z : ◌≡◌ {A = ℕ} 0 1 = cc in omega arith)

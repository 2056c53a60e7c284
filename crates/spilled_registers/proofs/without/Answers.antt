-- `spilled_registers::without` meets its contract: the places before n are written.
use native.Mathlib.Omega.{arith}
use Rattle.std.proofs.Common.{rules}
use Rattle.std.proofs.lemmas.List.{places}
use Rattle.spilled_registers.proofs.without.Goals as goal

pub returns : goal.returns
returns c = record {
  len = search (rules, places);
  inside = λ x i e h. search (rules, places);
  before = λ i h. absurd (omega arith);
  after = λ i h. search (rules, places);
}

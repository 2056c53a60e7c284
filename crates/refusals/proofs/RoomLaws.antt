-- A law for each way out of number 7.
use Prim.Native.Nat.{ℕ, ◌≤◌, ◌<◌}
use mathlib.Core.Path.{◌≡◌}
use borrow.Author.Tests.{lt-ltb, le-ltb}
use Rattle.refusals.specs.declared.Refusal.TheVariants.{Space}
use Rattle.refusals.specs.Verdicts.{room_verdict, Bad, Fine}

module _ (lent most work space : ℕ) where
  pub room_answer : lent < most → Bad Space 0 ≡ room_verdict lent most work space
  room_answer h = simp (lt-ltb lent most h)

  pub room_work : most ≤ lent → work < space → Bad Space 0 ≡ room_verdict lent most work space
  room_work h l = simp (le-ltb lent most h, lt-ltb work space l)

  pub room_fine : most ≤ lent → space ≤ work → Fine ≡ room_verdict lent most work space
  room_fine h l = simp (le-ltb lent most h, le-ltb work space l)

-- `probe` meets its contract: no cell before c takes the area.
use mathlib.Core.Bool.{false}
use Rattle.fit_tables.specs.Inner.{ranges_of, opens}
use Prim.Native.Nat.{ℕ, ◌<◌}
use mathlib.Core.Path.{◌≡◌}
use Rattle.fit_cells.proofs.probing.probe.Given as goal

abbrev pub invariant-loop-c : goal.invariant-loop-c
invariant-loop-c l = (j : ℕ) → j < l.c → opens l.w l.t (ranges_of l.w l.a) j ≡ false

-- Which refusals fitting alone gives before it fits, in which order: 1, 7, 10.
use Prim.Native.Nat.{ℕ}
use mathlib.Core.List.{List, [], ◌∷◌}
use Rattle.refusals.specs.declared.Refusal.TheVariants.{Count, Space, Want as WantRefused}
use Rattle.refusals.specs.Orders.{Giving}
use Rattle.refusals.proofs.Orders.{check_gives, scan_gives}
use Rattle.want_checks.specs.Checks.{bad_count, bad_space, fit_checks}

pub fit_gives : (wants areas : List ℕ) (locals budget cells items offsets work : ℕ) → Giving (Count ∷ Space ∷ WantRefused ∷ []) (fit_checks wants areas locals budget cells items offsets work)
fit_gives wants areas locals budget cells items offsets work =
    (check_gives Count (bad_count wants areas locals budget cells items), (check_gives Space (bad_space wants areas cells items offsets work), (scan_gives WantRefused _ _, tt)))

-- `insts::checks::address` meets its contract: no address before i is refused.
use Prim.Native.Nat.{◌≤◌}
use mathlib.Core.Path.{◌≡◌}
use Rattle.refusals.specs.Verdicts.{scan, Fine}
use Rattle.refusals.specs.declared.Refusal.TheVariants.{Stray}
use mathlib.Core.Bool.{not, ◌||◌}
use Rattle.carrying.specs.Insts.{insts_of, inst_at, is_set}
use Rattle.carrying.specs.Carried.{mentions_of}
use mathlib.Core.List.{[]}
use Rattle.carrying.specs.Checks.{absent, mention_at}
use Rattle.words.specs.Widths.{address_count}
use Rattle.insts.proofs.checks.address.Given as goal

abbrev pub invariant-loop-i : goal.invariant-loop-i
invariant-loop-i l = (l.n ≡ address_count l.addresses) × (l.i ≤ l.n) × (scan Stray (λ k. absent (insts_of l.insts []) (mention_at (mentions_of l.addresses) k).inst || not (is_set (inst_at (insts_of l.insts []) (mention_at (mentions_of l.addresses) k).inst).placed)) l.i ≡ Fine)

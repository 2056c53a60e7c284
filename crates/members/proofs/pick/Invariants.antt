-- `pick` meets its contract: the first s slots have been looked at.
use Rattle.members.proofs.MemberLaws.{Picking}
use Rattle.words.specs.Widths.{item_row_count}
use Rattle.members.specs.Inner.{crowded_slot}
use Prim.Native.Nat.{◌-◌}
use mathlib.Core.Path.{◌≡◌}
use Rattle.members.proofs.pick.Given as goal

abbrev pub invariant-loop-s : goal.invariant-loop-s
invariant-loop-s l = (l.n ≡ item_row_count l.items - l.locals) × Picking (crowded_slot l.items l.locals) (item_row_count l.items - l.locals) l.initial.out l.out l.k l.s

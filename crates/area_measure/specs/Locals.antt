-- The areas of all locals of touches lent by themselves, one behind another in item order, and their items.
use Rattle.std.specs.Prelude.{ℕ, List}
use Rattle.std.proofs.Math.Option.{Option}
use Rattle.ranges.specs.declared.Range.{Range}
use Rattle.areas.specs.Blocks.{Graph}
use Rattle.areas.specs.Job.{area_by}
use Rattle.local_spots.specs.Locals.{kind_for, touches_for, ends_for}

-- the area of local l, none of an unfollowed one
abbrev pub area_for : Graph → List ℕ → List ℕ → List ℕ → ℕ → Option (List Range)
area_for G kinds touches ends l = area_by G (kind_for kinds l) (touches_for touches l) (ends_for ends l)

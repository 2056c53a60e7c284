-- `local_marks::mark_one` meets its contract.
use Rattle.local_marks.proofs.BitLaws.{none_one, one_kept, marked_one}
use native.Mathlib.Omega.{arith}
use Rattle.graph.proofs.Within.{within_refl}
use Rattle.local_marks.proofs.mark_one.Goals as goal

pub returns-then-kind-eq0 : goal.returns-then-kind-eq0
returns-then-kind-eq0 c =
    record { within = within_refl _ _ _; marked_one = none_one c.requires.0 c.requires.1 c.args.kind (omega arith) }

pub returns : goal.returns
returns c = record {
  within = one_kept c.requires.0 c.requires.1 c.fetch-s.ensures c.mark_spots.ensures.within;
  marked_one = marked_one c.requires.0 c.requires.1 c.fetch-s.ensures c.mark_spots.ensures.within c.args.kind (omega arith) c.mark_spots.ensures.marking;
}

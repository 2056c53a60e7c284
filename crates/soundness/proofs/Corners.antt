-- The corners of the definitions, by computation: what an item of a job is to a walk and to fitting, and when a go empties it.
use mathlib.Core.Path.{◌≡◌, refl}
use mathlib.Core.Bool.{true, false}
use mathlib.Core.Option.{some, none}
use mathlib.Core.List.{[], ◌∷◌}
use Rattle.words.specs.Rows.{tabulate}
use Rattle.ranges.specs.Points.{range}
use Rattle.ranges.specs.Merged.{insert, sort, join, merged}
use Rattle.graph.specs.Line.{place_in}
use Rattle.carrying.specs.declared.Kind.TheVariants.{Unfollowed, Plain, Ending}
use Rattle.carrying.specs.Lists.{any, keep, gather}
use Rattle.carrying.specs.Carried.{kind_of}
use Rattle.areas.specs.Slots.{spilled}
use Rattle.areas.specs.Job.{Job}
use Rattle.soundness.specs.Walks.{unfollowed, plain, ending, slot, next, over, read, write, goes, wrote, emptied}
use Rattle.soundness.specs.Demand.{access_by, access_of, wants_of}

-- a local whose size is not its alignment, and two slots, the second of which is moved
abbrev job : Job
job = record {
  points = 29;
  blocks = record { number = 0; start = 5; end = 29 } ∷ [];
  jumps = [];
  code = record { numbered = 4; insts = []; crossings = []; addresses = []; ends = [] };
  locals = record { size = 8; align = 4 } ∷ [];
  slots = 2 ∷ 1 ∷ [];
  pieces = [];
  assigned = [];
  moves = record { kind = 2; number = 0; to = 1; from = 99 } ∷ [];
}

-- "items: locals, then slots (size and alignment = width)"
pub wants : wants_of job ≡ record { size = 8; align = 4; area = none } ∷ record { size = 2; align = 2; area = none } ∷ record { size = 1; align = 1; area = some (range 4 6 ∷ []) } ∷ []
unfolding tabulate any keep gather place_in insert sort join merged spilled kind_of
wants = refl

pub accesses : (access_of job 0 ≡ unfollowed) × (access_of job 1 ≡ slot) × (access_by Unfollowed (range 1 2 ∷ []) (3 ∷ []) ≡ unfollowed) × (access_by Plain (range 1 2 ∷ []) (3 ∷ []) ≡ plain (range 1 2 ∷ [])) × (access_by Ending (range 1 2 ∷ []) (3 ∷ []) ≡ ending (range 1 2 ∷ []) (3 ∷ []))
unfolding any keep kind_of
accesses = (refl, refl, refl, refl, refl)

-- "go empties each ending local that has a placed end at the point left, and each slot with an area that lacks the point reached", from 3 to 4
pub emptyings : (emptied (ending [] (3 ∷ [])) none 3 4 ≡ true) × (emptied (ending [] (4 ∷ [])) none 3 4 ≡ false) × (emptied slot (some (range 1 3 ∷ [])) 3 4 ≡ true) × (emptied slot (some (range 4 9 ∷ [])) 3 4 ≡ false)
    × (emptied slot none 3 4 ≡ false) × (emptied unfollowed none 3 4 ≡ false) × (emptied (plain (range 1 2 ∷ [])) (some []) 3 4 ≡ false)
unfolding any
emptyings = (refl, refl, refl, refl, refl, refl, refl)

-- a go is a step to the next point or over an edge; a write is of one byte of the item's unit
pub steps : (goes (some next) ≡ true) × (goes (some (over 0)) ≡ true) × (goes (some (read 1 2)) ≡ false) × (goes (some (write 1 2)) ≡ false) × (goes none ≡ false)
    × (wrote (λ i. i) (some (write 1 2)) 1 2 ≡ true) × (wrote (λ i. i) (some (write 1 2)) 1 3 ≡ false) × (wrote (λ i. i) (some (write 1 2)) 2 2 ≡ false) × (wrote (λ i. i) (some (read 1 2)) 1 2 ≡ false) × (wrote (λ i. 7) (some (write 1 2)) 7 2 ≡ true)
steps = (refl, refl, refl, refl, refl, refl, refl, refl, refl, refl)

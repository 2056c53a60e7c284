-- A plan by the rows that were written of it: the queries see that plan, and none refuses it.
use Rattle.std.specs.Prelude.{ℕ, ◌≤◌, ◌≡◌, List, length}
use Rattle.refusals.specs.Outcomes.{given}
use Rattle.ranges.specs.Forms.{areas_of}
use Rattle.fitting.specs.Queries.{Slots, slots_of, local, slot, saved, shared, crowded}
use Rattle.queries.specs.Entry.{local_of, slot_of, saved_by}
use Rattle.queries.specs.Shares.{shared_of, area_of, crowded_of}

-- what the queries say of the rows of plan S: the definition's answers, and no refusal (`crowded` has a list as long as the slots)
pub record PlanSeen (S : Slots) (locals : ℕ) (cells items areas : List ℕ) : Type 0 where
  pub rows : slots_of locals cells items areas ≡ S
  pub in_local : (i : ℕ) → local_of cells items locals i ≡ given (local S i)
  pub in_slot : (i : ℕ) → slot_of cells items locals i ≡ given (slot S i)
  pub in_saved : saved_by cells items locals ≡ given (saved S)
  pub in_shared : (i : ℕ) → area_of (areas_of areas) (shared_of cells items areas locals i) ≡ given (shared S i)
  pub in_crowded : (room : ℕ) → length S.slots ≤ room → crowded_of cells items locals room ≡ given (crowded S)

-- Which refusals `apart` gives, in which order: 1, 7.
use Prim.Native.Nat.{ℕ, ◌+◌}
use mathlib.Core.Path.{refl}
use mathlib.Core.List.{List, [], ◌∷◌}
use Rattle.refusals.specs.declared.Refusal.TheVariants.{Count, Space}
use Rattle.refusals.specs.Verdicts.{number_of}
use Rattle.refusals.specs.Orders.{Ordered}
use Rattle.refusals.proofs.Orders.{check_gives}
use Rattle.words.specs.Widths.{local_count, slot_count}
use Rattle.apart.specs.Apart.{apart_count, apart_space, apart_checks}

pub apart_ordered : (locals slots : List ℕ) (cells items : ℕ) → Ordered number_of (Count ∷ Space ∷ []) (apart_checks locals slots cells items)
apart_ordered locals slots cells items =
    record { gives = (check_gives Count (apart_count locals slots cells items), (check_gives Space (apart_space (local_count locals + slot_count slots) cells items), tt)); rises = refl }

-- `local_spots::fetch` meets its contract: two walks, and the ends sorted.
use Rattle.local_spots.proofs.FetchLaws.{touches_walkable, ends_walkable, fetched}
use native.Mathlib.Omega.{arith}
use Prim.Native.Nat.{◌*◌, ◌^◌, ◌<◌}
use lib.ListN.{length}
use Rattle.local_spots.proofs.Bounds.{ends_of_lem, fewer, ends_in}
use mathlib.Core.Path.{refl, ◌∙◌}
use mathlib.Core.Logic.{inl, inr}
use Rattle.local_spots.proofs.fetch.Goals as goal

pub overflow_add-top : goal.overflow_add-top
overflow_add-top c =
    let room : length c.args.work.now * 8 < 2 ^ 63 = omega (arith, c.well_formed) in
    (ends_of_lem c.requires.0 (room)).top

pub overflow_add-last : goal.overflow_add-last
overflow_add-last c =
    let room : length c.args.work.now * 8 < 2 ^ 63 = omega (arith, c.well_formed) in
    (ends_of_lem c.requires.0 (room)).last

pub walk-count-requires : goal.walk-count-requires
walk-count-requires c =
    (inr refl, touches_walkable c.requires.0 c.requires.1 c.requires.2 _ refl)

pub overflow_add-p : goal.overflow_add-p
overflow_add-p c =
    let room : length c.args.work.now * 8 < 2 ^ 63 = omega (arith, c.well_formed) in
    (ends_of_lem c.requires.0 (room)).past

pub overflow_add-p-2 : goal.overflow_add-p-2
overflow_add-p-2 c =
    let room : length c.args.work.now * 8 < 2 ^ 63 = omega (arith, c.well_formed) in
    (ends_of_lem c.requires.0 (room)).nexts

pub walk-stops-requires : goal.walk-stops-requires
walk-stops-requires c =
    (inl refl, ends_walkable c.requires.0 c.requires.1 c.requires.2 refl c.walk-count.ensures _ refl)

pub overflow_sub-first : goal.overflow_sub-first
overflow_sub-first c = fewer _ _ c.args.p.ends c.walk-stops.ensures.few

pub sort_part-requires : goal.sort_part-requires
sort_part-requires c =
    ends_in _ _ _ _ _ c.walk-stops.ensures.few (c.walk-stops.ensures.kept.len ∙ c.walk-count.ensures.kept.len)
    c.requires.0.ends_fit

pub overflow_sub-result : goal.overflow_sub-result
overflow_sub-result c =
    fewer _ _ c.args.p.at
    c.walk-count.ensures.few

pub shape_of-work : goal.shape_of-work
shape_of-work c = c.sort_part.ensures.len ∙ c.walk-stops.ensures.kept.len ∙ c.walk-count.ensures.kept.len

pub returns : goal.returns
returns c =
    fetched c.requires.0 c.requires.1 c.requires.2 refl c.walk-count.ensures refl
    c.walk-stops.ensures c.sort_part.ensures
    (λ i. let z = c.type_inv.touches i in
    omega arith) _ _ refl refl

-- `job_spots::fetch::fetch` meets its contract: the local is followed, then its touches and its ends are put there.
use native.Mathlib.Omega.{arith}
use Rattle.job_spots.proofs.FetchLaws.{unfollowed_fetched, pieces_asked, registers_asked, entries_asked, ends_asked, fetched}
use Rattle.job_spots.proofs.fetch.fetch.Goals as goal

pub follow-f-requires : goal.follow-f-requires
follow-f-requires c = (c.requires.0.walks, c.requires.1)

pub shape_of-work-then-unfollowed : goal.shape_of-work-then-unfollowed
shape_of-work-then-unfollowed c = c.follow-f.ensures.kept.len

pub returns-then-unfollowed : goal.returns-then-unfollowed
returns-then-unfollowed c =
    unfollowed_fetched c.requires.0 c.requires.1 c.follow-f.ensures (cc)

pub touches-count-requires : goal.touches-count-requires
touches-count-requires c =
    record { in_order = pieces_asked c.requires.0 c.requires.1 c.follow-f.ensures; distinct = registers_asked c.requires.0 c.requires.1 c.follow-f.ensures; linked = entries_asked c.requires.0 c.requires.1 c.follow-f.ensures }

pub ends-stops-requires : goal.ends-stops-requires
ends-stops-requires c = ends_asked c.requires.0 c.requires.1 c.follow-f.ensures c.touches-count.ensures

pub returns : goal.returns
returns c =
    fetched c.requires.0 c.requires.1 c.follow-f.ensures
    c.touches-count.ensures c.ends-stops.ensures
    (λ y. let x = c.type_inv.insts y in
    omega arith)

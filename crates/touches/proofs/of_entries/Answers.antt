-- `touches::of_entries` meets its contract: the entries behind `next` stand there.
use mathlib.Core.Path.{refl, sym, ap}
use mathlib.Core.List.{◌∷◌, []}
use Rattle.touches.proofs.EntryLaws.{walk_start, turn, link_stays, walk_more, walk_less, walk_done}
use Rattle.touches.proofs.of_entries.Goals as goal

pub loop-next-init : goal.loop-next-init
loop-next-init c = walk_start _ _ _ _ _ _ _ _ _ c.requires refl

pub loop-next-smaller : goal.loop-next-smaller
loop-next-smaller c =
    walk_less _ _ _ _ c.loop-next.invariant (turn _ _ _ _ c.loop-next.invariant _ c.loop-next-test.true refl) _
    (link_stays _ _ _ _ c.loop-next.invariant (turn _ _ _ _ c.loop-next.invariant _ c.loop-next-test.true refl) _ _ refl)

pub loop-next-preserved : goal.loop-next-preserved
loop-next-preserved c =
    walk_more _ _ _ _ c.loop-next.invariant (turn _ _ _ _ c.loop-next.invariant _ c.loop-next-test.true refl) _ (ap (λ z. z ∷ []) (sym c.pack.ensures)) _ _ refl
    (link_stays _ _ _ _ c.loop-next.invariant (turn _ _ _ _ c.loop-next.invariant _ c.loop-next-test.true refl) _ _ refl)

pub returns : goal.returns
returns c = walk_done _ _ _ _ c.loop-next.invariant c.loop-next-test.false

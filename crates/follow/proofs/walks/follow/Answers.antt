-- `follow::walks::follow` meets its contract: the walk finds what the definitions say.
use mathlib.Core.Path.{refl}
use Rattle.follow.proofs.WalkLaws.{walkable_still}
use Rattle.follow.proofs.FollowLaws.{follow_kept, follows}
use Rattle.follow.proofs.walks.follow.Goals as goal

pub walk-s-requires : goal.walk-s-requires
walk-s-requires c =
    (walkable_still (c.requires).0.tables (c.begin-b).ensures.grew, (c.begin-b).ensures.grew.held)

pub returns : goal.returns
returns c =
    record {
      kept = follow_kept (c.requires).0.tables (c.requires).0.unseen (c.begin-b).ensures (c.walk-s).ensures (c.unsee).ensures;
      code =
          λ operands crossings ends p. follows (c.args).insts.now operands crossings (c.args).addresses.now ends (c.args).lay (c.args).z (c.args).local
          (c.args).whole p (c.requires).0.tables ((c.requires).0.chain (c.args).local (c.requires).1) (c.begin-b).ensures (c.walk-s).ensures
          (c.unsee).ensures _ _ refl refl _ (c.kind).ensures;
    }

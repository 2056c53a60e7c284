-- The areas of a checked job are in order with a gap between any two ranges: every piece is upright, so `merged` leaves them so. Those with the same points are equal.
use Prim.Native.Nat.{ℕ, zero, suc, ◌-◌, ◌≤◌, ◌<◌}
use native.Mathlib.Omega.{arith}
use mathlib.Core.Path.{◌≡◌}
use mathlib.Core.Logic.{◌↔◌}
use mathlib.Core.Bool.{Bool, true, false, cond}
use mathlib.Core.Option.{Option, some, none, none-ne-some, some-injective}
use mathlib.Core.List.{List, [], ◌∷◌, ◌++◌}
use lib.ListN.{length}
use lib.Dec.{ltb}
use Rattle.ranges.specs.declared.Range.{Range}
use Rattle.ranges.specs.Points.{range, Upright, Apart, Gapped, Same}
use Rattle.ranges.proofs.PointLaws.{upright_none, upright_append}
use Rattle.ranges.proofs.MergeLaws.{merged_gapped}
use Rattle.ranges.proofs.GapLaws.{gapped_same}
use Rattle.graph.specs.Paths.{Between}
use Rattle.graph.specs.Line.{Sound}
use Rattle.carrying.specs.declared.Kind.{Kind}
use Rattle.carrying.specs.declared.Kind.TheVariants.{Unfollowed, Plain, Ending}
use Rattle.carrying.specs.Carried.{kind_of, ends_of, live_pieces}
use Rattle.areas.specs.Blocks.{Graph, top, bottom, until, AllInLine}
use Rattle.areas.specs.Pieces.{throughs, end_line, arrives_row, plain_area, ending_area}
use Rattle.areas.specs.Slots.{moved, spilled, live_area, slot_area}
use Rattle.areas.specs.Job.{Job, Checked, graph_of, touches_in, area_by, local_area, slot_area_in, item_area}
use Rattle.areas.specs.Upright.{UprightOf}
use Rattle.areas.proofs.PlainLaws.{line_upright}
use Rattle.areas.proofs.JobLaws.{job_line, job_edges, touches_in_lem}
use Rattle.areas.proofs.UprightLaws.{local_upright, job_upright}

module _ (G : Graph) (S : Sound G.blocks) (B : Between (length G.blocks) G.edges) (ts : List Range) (fine : AllInLine G.blocks ts) where
  pub plain_gapped : Gapped (plain_area G ts)
  unfolding plain_area
  plain_gapped = merged_gapped _ (upright_append (throughs G ts) _ (local_upright G S ts fine []).betweens (line_upright G S B ts fine (length G.blocks) (omega arith)))

  module _ (es : List ℕ) where
    U : UprightOf G ts es
    U = local_upright G S ts fine es

    arrival_upright : (k : ℕ) → k < length G.blocks → (t : Bool) → Upright (cond t (range (top G k) (until es (top G k) (bottom G k)) ∷ []) [])
    arrival_upright k l true = U.arrivals k l
    arrival_upright k l false = upright_none

    end_line_upright : (n : ℕ) → n ≤ length G.blocks → Upright (end_line G ts es (arrives_row G ts es) n)
    unfolding end_line
    end_line_upright zero h = upright_none
    end_line_upright (suc n) h =
        upright_append (end_line G ts es (arrives_row G ts es) n) _ (end_line_upright n (omega arith))
        (upright_append (cond (arrives_row G ts es n) (range (top G n) (until es (top G n) (bottom G n)) ∷ []) []) _ (arrival_upright n h (arrives_row G ts es n)) (U.covers n))

    pub end_gapped : Gapped (ending_area G ts es)
    unfolding ending_area
    end_gapped = merged_gapped _ (upright_append (throughs G ts) _ U.betweens (end_line_upright (length G.blocks) (omega arith)))

module _ (J : Job) (C : Checked J) (some_block : 0 < length J.blocks) where
  slot_gapped : (s : ℕ) (rs : List Range) → slot_area_in J s ≡ some rs → Gapped rs
  slot_gapped s rs e = go (spilled J.assigned s) (moved J.points J.blocks J.code.insts J.moves s) ((job_upright J C some_block).moves s) e
    where
      live : (ps ms : List Range) → Upright ps → Upright ms → live_area ps ms ≡ some rs → Gapped rs
      live [] ms u v e = absurd (none-ne-some rs e)
      live (p ∷ ps) ms u v e = rw (some-injective _ rs e) at (merged_gapped (p ∷ ps ++ ms) (upright_append (p ∷ ps) ms u v))

      go : (o : Option ℕ) (ms : List Range) → Upright ms → slot_area J.pieces o ms ≡ some rs → Gapped rs
      go (some r) ms v e = live (live_pieces J.pieces r) ms ((job_upright J C some_block).pieces r) v e
      go none [] v e = absurd (none-ne-some rs e)
      go none (m ∷ ms) v e = rw (some-injective _ rs e) at (merged_gapped (m ∷ ms) v)

  -- every item's area is in order with a gap between any two ranges
  pub areas_gapped : (i : ℕ) (rs : List Range) → item_area J i ≡ some rs → Gapped rs
  areas_gapped i rs e = go (ltb i (length J.locals)) e
    where
      by_kind : (k : Kind) → area_by (graph_of J) k (touches_in J i) (ends_of J.code i) ≡ some rs → Gapped rs
      by_kind Unfollowed e = absurd (none-ne-some rs e)
      by_kind Plain e =
          rw (some-injective _ rs e) at (plain_gapped (graph_of J) (job_line J C some_block) (job_edges J C some_block) (touches_in J i) (touches_in_lem J C some_block i))
      by_kind Ending e =
          rw (some-injective _ rs e) at (end_gapped (graph_of J) (job_line J C some_block) (job_edges J C some_block) (touches_in J i) (touches_in_lem J C some_block i) (ends_of J.code i))

      go : (t : Bool) → cond t (local_area J i) (slot_area_in J (i - length J.locals)) ≡ some rs → Gapped rs
      go true e = by_kind (kind_of J.code i) e
      go false e = slot_gapped (i - length J.locals) rs e

  pub areas_apart : (i : ℕ) (rs : List Range) → item_area J i ≡ some rs → Apart rs
  areas_apart i rs e = (areas_gapped i rs e).apart

  -- two items that have areas have the same list exactly when the same points are in their areas
  pub areas_same : (i j : ℕ) (rs ss : List Range) → item_area J i ≡ some rs → item_area J j ≡ some ss → (rs ≡ ss) ↔ Same rs ss
  areas_same i j rs ss a b = (
    (λ e x. (λ p. rw e at p, λ p. rw (← e) at p)),
    gapped_same rs ss (areas_gapped i rs a) (areas_gapped j ss b),
  )

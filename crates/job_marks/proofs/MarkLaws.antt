-- One local of a job: its marks by its kind, and by its touches and ends in whatever order they were fetched.
use Prim.Native.Nat.{ℕ, ◌+◌, ◌*◌, ◌<◌}
use native.Mathlib.Omega.{arith}
use mathlib.Core.Path.{◌≡◌, sym, ap, ◌∙◌, subst}
use mathlib.Core.Logic.{◌≢◌}
use mathlib.Core.Bool.{Bool, true≢false}
use mathlib.Core.List.{List}
use Rattle.words.specs.Widths.{block_count}
use Rattle.ranges.specs.declared.Range.{Range}
use Rattle.ranges.specs.Merged.{Permuted}
use Rattle.graph.specs.Paths.{Edge}
use Rattle.graph.specs.Inner.Work.{Within}
use Rattle.graph.proofs.Within.{within_trans, within_wider}
use Rattle.carrying.specs.declared.Kind.{Kind}
use Rattle.carrying.specs.declared.Kind.TheVariants.{Unfollowed, Plain, Ending}
use Rattle.carrying.specs.Carried.{Code, pieces_of, touches_of, ends_of}
use Rattle.areas.specs.Blocks.{Graph, touched, leaves, passes}
use Rattle.areas.proofs.PermuteLaws.{perm_member, touched_perm, leaves_perm}
use Rattle.reach.specs.declared.Lay.{Lay}
use Rattle.reach.specs.Prepared.{code_of}
use Rattle.follow.specs.declared.Sizes.{Sizes}
use Rattle.spots.specs.Spots.{line_of}
use Rattle.spots.specs.Inner.{touches_at, ends_at}
use Rattle.area_flow.specs.declared.Grid.{Grid}
use Rattle.job_spots.specs.declared.Places.{Places}
use Rattle.job_spots.specs.declared.JobLocal.{JobLocal}
use Rattle.job_spots.specs.Inner.{FetchedTo, FetchedAny}
use Rattle.local_marks.specs.Inner.{is_plain, is_ending, Marking, Standing}
use Rattle.local_marks.proofs.BitLaws.{marking_since, marking_none, marking_sorted}
use Rattle.job_marks.specs.Inner.{Ready, MarkingOf, MarkedOne}

pub plain_followed : {k : Kind} → k ≡ Plain → k ≢ Unfollowed
plain_followed e q = true≢false (ap is_plain (sym e ∙ q))

pub ending_followed : {k : Kind} → k ≡ Ending → k ≢ Unfollowed
ending_followed e q = true≢false (ap is_ending (sym e ∙ q))

-- the order of the touches does not matter
marking_permuted : {g : Grid} {n l : ℕ} {plain ending : Bool} (G : Graph) {ts ss : List Range} (es : List ℕ) {w₀ w : List ℕ} → Permuted ts ss → Marking g n l plain ending (touched G ts) (leaves G ts es) (passes G es) w₀ w
    → Marking g n l plain ending (touched G ss) (leaves G ss es) (passes G es) w₀ w
marking_permuted {g} {n} {l} {plain} {ending} G {ts} {ss} es {w₀} {w} p M =
    subst (λ (f : ℕ → Bool). Marking g n l plain ending f (leaves G ss es) (passes G es) w₀ w) (touched_perm G ts ss p)
    (subst (λ (f : ℕ → Bool). Marking g n l plain ending (touched G ts) f (passes G es) w₀ w) (leaves_perm G ts ss p es) M)

module _ {blocks insts addresses ends pieces : List ℕ} {lay : Lay} {p : Places} {z : Sizes} {g : Grid} {w₀ : List ℕ} (R : Ready blocks insts addresses ends pieces lay p z g w₀)
    {l : ℕ} (h : l < z.locals) {w₁ : List ℕ} {r : JobLocal} (F : FetchedAny insts addresses ends pieces lay p z l w₀ w₁ r) where
  bit_in : l < g.words * 64
  bit_in = let a = R.counted in let b = R.long in omega arith

  pub standing : r.kind ≢ Unfollowed → Standing blocks r.spots g l w₁
  standing u =
      let a = R.apart in let d = R.passes_fit in let k = F.kept.len in
      let x = F.at_is in let y = F.ends_is in let c = F.few in let e = F.few_ends in let o = R.locals.laid.at_fits in
      record {
        line = R.line;
        stand = F.stand;
        in_line = λ t m. R.in_line l h t (perm_member ((F.code R.locals.operands R.locals.crossings R.locals.prepared).touches u) t m);
        bit_in = bit_in;
        touches_apart = omega arith;
        ends_apart = omega arith;
        touched_fits = R.touched_fits;
        leaves_fit = R.leaves_fit;
        passes_fit = omega arith;
      }

  fetched_kept : Within lay.queue (g.passes + block_count blocks * g.words) w₀ w₁
  fetched_kept = let a = R.apart in let b = R.touched_fits in let c = R.leaves_fit in within_wider lay.queue (g.passes + block_count blocks * g.words) (omega arith) (omega arith) F.kept

  -- an unfollowed local
  pub unmarked : r.kind ≡ Unfollowed → MarkedOne blocks insts addresses ends pieces lay p z g l w₀ w₁
  unmarked u =
      let b = R.touched_fits in let c = R.leaves_fit in
      record {
        kept = fetched_kept;
        chains_kept = F.chains_kept;
        marks = λ operands crossings P es.
            let C : Code = code_of z.v insts operands crossings addresses ends in
            let G : Graph = line_of blocks es in
            subst (λ (k : Kind). Marking g (block_count blocks) l (is_plain k) (is_ending k) (touched G (touches_of C (pieces_of pieces) l)) (leaves G (touches_of C (pieces_of pieces) l) (ends_of C l)) (passes G (ends_of C l)) w₀ w₁)
            (sym u ∙ (F.code operands crossings P).kind)
            (marking_none F.kept R.apart (omega arith) (omega arith) bit_in);
      }

  -- a followed one, of kind k
  module _ {w : List ℕ} (k : Kind) (e : r.kind ≡ k) (u : r.kind ≢ Unfollowed) (K : Within g.touched (g.passes + block_count blocks * g.words) w₁ w)
      (M : (es : List Edge) → Marking g (block_count blocks) l (is_plain k) (is_ending k) (touched (line_of blocks es) (touches_at r.spots w₁)) (leaves (line_of blocks es) (touches_at r.spots w₁) (ends_at r.spots w₁)) (passes (line_of blocks es) (ends_at r.spots w₁)) w₁ w) where
    by_code : (C : Code) → FetchedTo C (pieces_of pieces) l w₁ r → (es : List Edge) → MarkingOf (line_of blocks es) pieces C g (block_count blocks) l w₀ w
    by_code C T es =
        let b = R.touched_fits in let c = R.leaves_fit in
        subst (λ (x : Kind). Marking g (block_count blocks) l (is_plain x) (is_ending x) (touched (line_of blocks es) (touches_of C (pieces_of pieces) l)) (leaves (line_of blocks es) (touches_of C (pieces_of pieces) l) (ends_of C l)) (passes (line_of blocks es) (ends_of C l)) w₀ w)
        (sym e ∙ T.kind)
        (marking_since F.kept R.apart (omega arith) (omega arith) bit_in
        (marking_permuted (line_of blocks es) (ends_of C l) (T.touches u)
        (marking_sorted (line_of blocks es) (touches_at r.spots w₁) (ends_of C l)
        (subst (λ (x : List ℕ). Marking g (block_count blocks) l (is_plain k) (is_ending k) (touched (line_of blocks es) (touches_at r.spots w₁)) (leaves (line_of blocks es) (touches_at r.spots w₁) x) (passes (line_of blocks es) x) w₁ w) (T.ends u) (M es)))))

    pub marked : MarkedOne blocks insts addresses ends pieces lay p z g l w₀ w
    marked =
        let a = R.apart in let b = R.locals.laid.at_fits in let c = R.locals.laid.nexts_fit in let d = R.locals.laid.heads_fit in let q = R.locals.laid.queue_fit in
        record {
          kept = within_trans fetched_kept (within_wider lay.queue (g.passes + block_count blocks * g.words) (omega arith) (omega arith) K);
          chains_kept = λ i x y. K.below i (omega arith) ∙ F.chains_kept i x y;
          marks = λ operands crossings P. by_code (code_of z.v insts operands crossings addresses ends) (F.code operands crossings P);
        }

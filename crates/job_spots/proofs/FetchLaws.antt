-- Laws of fetching: a local followed, then its touches, then its ends; and that the next local can be fetched.
use Prim.Native.Nat.{ℕ, ◌+◌, ◌^◌, ◌≤◌, ◌<◌}
use native.Mathlib.Omega.{arith}
use mathlib.Core.Path.{◌≡◌, refl, sym, ap, ◌∙◌}
use mathlib.Core.Logic.{inr}
use mathlib.Core.Bool.{true, false, true≢false}
use mathlib.Core.List.{List}
use lib.ListN.{length, get_or}
use Rattle.words.specs.Inner.{part, Kept}
use Rattle.words.specs.Sort.{Distinct}
use Rattle.words.specs.Widths.{address_count, end_count, piece_count}
use Rattle.words.proofs.RegionLaws.{kept_part_list}
use Rattle.ranges.specs.Inner.{unpacked}
use Rattle.ranges.specs.Merged.{Permuted}
use Rattle.graph.specs.Inner.Work.{Within}
use Rattle.graph.proofs.Within.{within_trans, within_wider}
use Rattle.carrying.specs.declared.Kind.{Kind}
use Rattle.carrying.specs.declared.Kind.TheVariants.{Unfollowed, Plain, Ending}
use Rattle.carrying.proofs.CarryLaws.{carries_below}
use Rattle.areas.proofs.PermuteLaws.{perm_is}
use Rattle.insts.proofs.DealtLaws.{insts_length}
use Rattle.reach.specs.declared.Lay.{Lay}
use Rattle.reach.specs.Inner.{latest, Prepared, row_local}
use Rattle.reach.specs.Prepared.{code_of}
use Rattle.reach.proofs.ReadyLaws.{mentions_count}
use Rattle.follow.specs.declared.Sizes.{Sizes}
use Rattle.follow.specs.declared.Followed.{Followed}
use Rattle.follow.specs.Inner.{FollowedTo, FollowsAny}
use Rattle.follow.specs.Inner as following
use Rattle.follow.proofs.KeptLaws as follow-laws
use Rattle.chains.proofs.ChainLaws.{chain_kept}
use Rattle.live.specs.Inner.{InOrder}
use Rattle.touches.specs.Inner.{Linked}
use Rattle.job_spots.specs.declared.Places.{Places}
use Rattle.job_spots.specs.declared.JobLocal.{JobLocal}
use Rattle.job_spots.specs.Inner.{TouchesIn, EndsIn, is_unfollowed, Laid, Ready, FetchedAny}
use Rattle.job_spots.proofs.FollowLaws.{once, touches_are, ends_are}

pub is_unfollowed_lem : (k : Kind) → is_unfollowed k ≡ true → k ≡ Unfollowed
is_unfollowed_lem Unfollowed e = refl
is_unfollowed_lem Plain e = absurd (true≢false (sym e))
is_unfollowed_lem Ending e = absurd (true≢false (sym e))

module _ {insts addresses ends pieces : List ℕ} {lay : Lay} {p : Places} {z : Sizes} {w₀ : List ℕ} (R : Ready insts addresses ends pieces lay p z w₀) where
  -- ---- while the keys, the tables and the chains of the ends stand

  module _ {w : List ℕ} (K : follow-laws.Stays p.keys lay.queue w₀ w) where
    in_tables : follow-laws.Stays lay.escapes lay.queue w₀ w
    in_tables = record { len = K.len; same = λ i a h. K.same i (let b = R.laid.keys_fit in omega arith) h }

    pub prepared_stays : (operands crossings : List ℕ) → Prepared (code_of z.v insts operands crossings addresses ends) lay w₀ z.locals z.edges
        → Prepared (code_of z.v insts operands crossings addresses ends) lay w z.locals z.edges
    prepared_stays operands crossings P =
        follow-laws.prepared_stays R.walks.tables in_tables (code_of z.v insts operands crossings addresses ends) refl (insts_length insts operands ∙ sym R.laid.insts_are)
        (let m = mentions_count addresses in let c = R.laid.entries_fit in omega arith) P

    keys_kept : InOrder pieces p.keys w
    keys_kept = record { keys = λ k h. K.same (p.keys + k) (omega arith) (let a = R.laid.keys_fit in let t = R.walks.tables.laid in omega arith) ∙ R.keys.keys k h }

    laid_kept : Laid insts addresses ends pieces lay p z w
    laid_kept = record {
      keys_fit = R.laid.keys_fit;
      entries_fit = R.laid.entries_fit;
      queue_fit = R.laid.queue_fit;
      heads_fit = R.laid.heads_fit;
      nexts_fit = R.laid.nexts_fit;
      at_fits = R.laid.at_fits;
      ends_fit = let a = R.laid.ends_fit in let b = K.len in omega arith;
      few_pieces = R.laid.few_pieces;
      insts_are = R.laid.insts_are;
      ends_found = R.laid.ends_found;
    }

    pub ready_stays : ((i : ℕ) → p.heads ≤ i → i < p.at → get_or w i 0 ≡ get_or w₀ i 0) → Ready insts addresses ends pieces lay p z w
    ready_stays s =
        let a = R.laid.heads_fit in let b = R.laid.nexts_fit in
        record {
          laid = laid_kept;
          walks = follow-laws.ready_stays R.walks in_tables;
          keys = keys_kept;
          stops = chain_kept R.stops (λ i x y. s i (omega arith) (omega arith)) (λ i x y. s i (omega arith) (omega arith));
          operands = R.operands;
          crossings = R.crossings;
          prepared = prepared_stays R.operands R.crossings R.prepared;
        }

  -- ---- while only words from the queue on change

  module _ {w : List ℕ} {hi : ℕ} (K : Within lay.queue hi w₀ w) where
    stays : follow-laws.Stays p.keys lay.queue w₀ w
    stays = record { len = K.len; same = λ i a h. K.below i h }

    pub prepared_kept : (operands crossings : List ℕ) → Prepared (code_of z.v insts operands crossings addresses ends) lay w₀ z.locals z.edges
        → Prepared (code_of z.v insts operands crossings addresses ends) lay w z.locals z.edges
    prepared_kept = prepared_stays stays

    -- and the chains of the ends stand
    pub ready_since : ((i : ℕ) → p.heads ≤ i → i < p.at → get_or w i 0 ≡ get_or w₀ i 0) → Ready insts addresses ends pieces lay p z w
    ready_since = ready_stays stays

  -- after a local was fetched the next can be
  pub ready_kept : {l : ℕ} {w : List ℕ} {r : JobLocal} → FetchedAny insts addresses ends pieces lay p z l w₀ w r → Ready insts addresses ends pieces lay p z w
  ready_kept F = ready_since F.kept F.chains_kept

  -- ---- one local

  module _ {l : ℕ} {w₁ : List ℕ} {f : Followed} (h : l < z.locals) (F : FollowsAny insts addresses lay z l false w₀ w₁ f) where
    told : FollowedTo (code_of z.v insts R.operands R.crossings addresses ends) lay z l false w₁ f
    told = F.code R.operands R.crossings ends R.prepared

    walks₁ : following.Ready lay z insts addresses w₁
    walks₁ = follow-laws.ready_kept R.walks F.kept

    queue_in : lay.queue + f.count ≤ p.heads
    queue_in = let a = told.few in let b = R.laid.queue_fit in omega arith

    apart : (p.heads ≤ p.at) × (p.at ≤ length w₁)
    apart = let a = R.laid.heads_fit in let b = R.laid.nexts_fit in let c = R.laid.at_fits in let d = R.laid.ends_fit in let e = F.kept.len in (omega arith, omega arith)

    -- an unfollowed local has no more
    pub unfollowed_fetched : is_unfollowed f.kind ≡ true → FetchedAny insts addresses ends pieces lay p z l w₀ w₁ (record { kind = f.kind; spots = record { at = p.at; count = 0; ends = p.ends; stops = 0 } })
    unfollowed_fetched u =
        let a = apart in let b = R.laid.ends_fit in let c = R.laid.at_fits in let d = F.kept.len in let q = R.laid.queue_fit in
        record {
          kept = within_wider lay.queue (p.ends + end_count ends) (omega arith) (omega arith) F.kept;
          chains_kept = λ i x y. F.kept.past i (omega arith);
          stand = record { touches_fit = omega arith; ends_fit = omega arith; rising = λ i g. absurd (omega arith) };
          at_is = refl;
          ends_is = refl;
          few = omega arith;
          few_ends = omega arith;
          code = λ operands crossings P. record {
            kind = (F.code operands crossings ends P).kind;
            touches = λ g. absurd (g (is_unfollowed_lem f.kind u));
            ends = λ g. absurd (g (is_unfollowed_lem f.kind u));
          };
        }

    -- what the touches need
    pub pieces_asked : InOrder pieces p.keys w₁ × (piece_count pieces ≤ 65536) × (p.keys + piece_count pieces ≤ p.at) × (lay.queue + f.count ≤ p.at) × (p.at + (piece_count pieces + piece_count pieces) ≤ length w₁)
    pieces_asked =
        let a = apart in let b = R.laid.ends_fit in let c = R.laid.at_fits in let d = F.kept.len in let t = R.walks.tables.laid in let k = R.laid.keys_fit in let q = queue_in in
        (keys_kept (stays F.kept), R.laid.few_pieces, omega arith, omega arith, omega arith)

    pub registers_asked : Distinct (part lay.queue f.count w₁) × ((k : ℕ) → k < f.count → get_or w₁ (lay.queue + k) 0 < 2 ^ 32)
    registers_asked = (
      once lay w₁ f.count (let a = apart in let q = queue_in in omega arith) told.once,
      λ k g. let b = carries_below (code_of z.v insts R.operands R.crossings addresses ends) l (get_or w₁ (lay.queue + k) 0) (told.only k g) in let c = R.walks.tables.registers in omega arith,
    )

    pub entries_asked : Linked insts addresses lay.heads lay.nexts l p.at w₁ × (p.at + piece_count pieces + address_count addresses ≤ length w₁)
    entries_asked =
        let a = apart in let b = R.laid.ends_fit in let c = R.laid.at_fits in let d = F.kept.len in let t = R.walks.tables.laid in let q = R.laid.queue_fit in let x = R.laid.entries_fit in let y = R.laid.insts_are in (
          record {
            found = λ i g. let s = (walks₁.chain l h).found i g in omega arith;
            head_fits = omega arith;
            nexts_fit = omega arith;
            room = omega arith;
            head = (walks₁.chain l h).head;
            next = (walks₁.chain l h).next;
          },
          omega arith,
        )

    module _ {w₂ : List ℕ} {n : ℕ} (T : TouchesIn insts addresses pieces lay.queue f.count l p.at w₁ w₂ n) where
      low : p.at + n ≤ p.ends
      low = let a = T.count_le in let c = R.laid.at_fits in omega arith

      before_at : (i : ℕ) → p.heads ≤ i → i < p.at → get_or w₂ i 0 ≡ get_or w₀ i 0
      before_at i x y = T.kept.below i y ∙ F.kept.past i (let q = R.laid.queue_fit in omega arith)

      pub ends_asked : Linked insts ends p.heads p.nexts l p.ends w₂
      ends_asked =
          let a = R.laid.heads_fit in let b = R.laid.nexts_fit in let c = R.laid.at_fits in let d = R.laid.ends_fit in let e = F.kept.len in let g = T.kept.len in
          record {
            found = R.laid.ends_found;
            head_fits = omega arith;
            nexts_fit = omega arith;
            room = omega arith;
            head = before_at (p.heads + l) (omega arith) (omega arith) ∙ R.stops.head l h;
            next = λ i x y. before_at (p.nexts + i) (omega arith) (omega arith) ∙ R.stops.next i x (omega arith) ∙ ap (λ (m : ℕ). latest (row_local ends) m i) y;
          }

      module _ {w : List ℕ} {m : ℕ} (E : EndsIn insts ends l p.ends w₂ w m) (small : (y : ℕ) → get_or insts y 0 < 2 ^ 32) where
        touches-stand : part p.at n w ≡ part p.at n w₂
        touches-stand =
            let K : Kept w₂ w p.at n = record { same = λ i x y. E.kept.below i (let b = low in omega arith) } in
            kept_part_list K (let b = low in let d = R.laid.ends_fit in let e = F.kept.len in let g = T.kept.len in omega arith) E.kept.len

        pub fetched : FetchedAny insts addresses ends pieces lay p z l w₀ w (record { kind = f.kind; spots = record { at = p.at; count = n; ends = p.ends; stops = m } })
        fetched =
            let a = apart in let b = low in let c = R.laid.at_fits in let d = R.laid.ends_fit in let e = F.kept.len in let g = T.kept.len in let o = E.kept.len in let s = E.count_le in let q = R.laid.queue_fit in
            record {
              kept = within_trans (within_wider lay.queue (p.ends + end_count ends) (omega arith) (omega arith) F.kept)
                  (within_trans (within_wider lay.queue (p.ends + end_count ends) (omega arith) (omega arith) T.kept)
                  (within_wider lay.queue (p.ends + end_count ends) (omega arith) (omega arith) E.kept));
              chains_kept = λ i x y. E.kept.below i (omega arith) ∙ before_at i x y;
              stand = record { touches_fit = omega arith; ends_fit = omega arith; rising = E.rising };
              at_is = refl;
              ends_is = refl;
              few = T.count_le;
              few_ends = E.count_le;
              code = λ operands crossings P.
                  let G = F.code operands crossings ends P in
                  record {
                    kind = G.kind;
                    touches = λ u. Permuted.then (perm_is (ap unpacked touches-stand))
                        (touches_are z.v insts operands crossings addresses ends pieces lay z l false G (inr u) (let q = queue_in in omega arith)
                        (λ i x. let s = (walks₁.chain l h).found i x in let y = R.laid.insts_are in omega arith) small T);
                    ends = λ u. ends_are z.v insts operands crossings addresses ends pieces lay z l R.laid.ends_found E;
                  };
            }

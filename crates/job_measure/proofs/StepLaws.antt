-- One local of a job: fetched, and its area put behind those so far; its rows and what is read for the others stand.
use Prim.Native.Nat.{ℕ, ◌+◌, ◌-◌, ◌*◌, ◌/◌, ◌%◌, ◌≤◌, ◌<◌}
use native.Mathlib.Omega.{arith}
use mathlib.Core.Path.{◌≡◌, refl, sym, ap, ◌∙◌}
use mathlib.Core.Logic.{◌≢◌, ◌⊎◌, inl, inr, ⊎_elim}
use mathlib.Core.Bool.{Bool, true, false, ◌&&◌, true≢false}
use mathlib.Core.Option.{Option, some, none}
use mathlib.Core.List.{List}
use lib.ListN.{length, get_or, set, length-set}
use Rattle.words.specs.Sort.{sort_of}
use Rattle.words.specs.Inner.{part}
use Rattle.words.specs.Widths.{block_count, address_count, end_count, piece_count}
use Rattle.words.proofs.Points.{stored}
use Rattle.words.proofs.RegionLaws.{row_before}
use Rattle.bits.specs.Bits.{bit, bit_of}
use Rattle.ranges.specs.declared.Range.{Range}
use Rattle.ranges.specs.Inner.{unpacked}
use Rattle.ranges.specs.Merged.{Permuted}
use Rattle.graph.specs.Paths.{Edge}
use Rattle.graph.specs.Rounds.{reached_row, reaching_row, arriving_row}
use Rattle.graph.proofs.Line.{blocks_length}
use Rattle.carrying.specs.declared.Kind.{Kind}
use Rattle.carrying.specs.declared.Kind.TheVariants.{Unfollowed, Plain, Ending}
use Rattle.carrying.specs.Carried.{Code, Piece, pieces_of, kind_of, touches_of, ends_of}
use Rattle.areas.specs.Blocks.{Graph, passes}
use Rattle.areas.specs.Pieces.{before_row, after_row, arrives_row}
use Rattle.areas.specs.Job.{area_by, ranges_in}
use Rattle.areas.proofs.PermuteLaws.{perm_member, touched_perm, leaves_perm, plain_permuted, end_permuted}
use Rattle.reach.specs.declared.Lay.{Lay}
use Rattle.reach.specs.Prepared.{code_of}
use Rattle.reach.specs.Inner.{Prepared}
use Rattle.follow.specs.declared.Sizes.{Sizes}
use Rattle.spots.specs.Spots.{line_of}
use Rattle.spots.specs.Inner.{touches_at, ends_at}
use Rattle.kind_numbers.specs.Numbers.{kind_number, kind_by}
use Rattle.kind_numbers.proofs.KindLaws.{kind_told, plain_number, ending_number}
use Rattle.local_spots.proofs.OrderLaws.{arrives_sorted, ending_sorted}
use Rattle.area_pieces.proofs.PushLaws.{set_other}
use Rattle.area_flow.specs.declared.Grid.{Grid}
use Rattle.area_flow.specs.Inner.{row_bit, block_bit}
use Rattle.area_measure.specs.declared.Listing.{Listing}
use Rattle.area_measure.specs.Inner.Measure.{item_word, RowsFor, Measurable, Listable, Measured}
use Rattle.ranges.specs.Points.{listed}
use Rattle.area_measure.specs.Inner.Locals.{word_of, local_at}
use Rattle.area_measure.proofs.ListLaws.{listed_more}
use Rattle.job_spots.specs.declared.Places.{Places}
use Rattle.job_spots.specs.declared.JobLocal.{JobLocal}
use Rattle.job_spots.specs.Inner.{is_unfollowed, FetchedTo, FetchedAny}
use Rattle.job_spots.proofs.FetchLaws.{prepared_stays, ready_stays, is_unfollowed_lem}
use Rattle.job_measure.specs.Inner.{most_in, Fits, RowsOf, Ready, Spared, area_in, Next}

-- ---- kinds

followed : (k : Kind) → is_unfollowed k ≡ false → k ≢ Unfollowed
followed Unfollowed e = λ _. true≢false e
followed Plain e = λ q. true≢false (sym (ap is_unfollowed q))
followed Ending e = λ q. true≢false (sym (ap is_unfollowed q))

number_some : (k : Kind) → is_unfollowed k ≡ false → 0 < kind_number k
number_some Unfollowed e = absurd (true≢false e)
number_some Plain e = omega arith
number_some Ending e = omega arith

-- ---- the order of touches and ends does not matter

module _ (G : Graph) (ts us : List Range) (es : List ℕ) (q : Permuted ts us) where
  area_same : (k : Kind) → area_by G k ts (sort_of es) ≡ area_by G k us es
  area_same Unfollowed = refl
  area_same Plain = ap (λ (l : List Range). some l) (plain_permuted G ts us q)
  area_same Ending = ap (λ (l : List Range). some l) (ending_sorted G es ts ∙ end_permuted G ts us q es)

  before_same : before_row G ts ≡ before_row G us
  before_same = ap (reached_row (length G.blocks) G.edges) (touched_perm G ts us q)

  after_same : after_row G ts ≡ after_row G us
  after_same = ap (reaching_row (length G.blocks) G.edges) (touched_perm G ts us q)

  arrives_same : arrives_row G ts (sort_of es) ≡ arrives_row G us es
  arrives_same = arrives_sorted G es ts ∙ ap (λ (f : ℕ → Bool). arriving_row (length G.blocks) G.edges f (passes G es)) (leaves_perm G ts us q es)

present : (G : Graph) (ts : List Range) (es : List ℕ) (k : Kind) → is_unfollowed k ≡ false → (rs : List Range) × (area_by G k ts es ≡ some rs)
present G ts es Unfollowed u = absurd (true≢false u)
present G ts es Plain u = (_, refl)
present G ts es Ending u = (_, refl)

module _ (blocks insts addresses ends pieces : List ℕ) (lay : Lay) (p : Places) (z : Sizes) (g : Grid) (mark : ℕ) (o : Listing) where
  abbrev n : ℕ
  n = block_count blocks

  abbrev ps : List Piece
  ps = pieces_of pieces

  abbrev code : List ℕ → List ℕ → Code
  code operands crossings = code_of z.v insts operands crossings addresses ends

  -- ---- what stays when the rows are spared

  module _ {w₀ : List ℕ} (w : List ℕ) (F : Fits blocks addresses ends pieces p z g mark o w₀) (S : (i : ℕ) → p.ends + end_count ends ≤ i → i < mark → get_or w i 0 ≡ get_or w₀ i 0) where
    written_kept : (k l : ℕ) → k < n → l < g.words * 64 → row_bit g g.written w k l ≡ row_bit g g.written w₀ k l
    written_kept k l h m =
        let r = row_before k n g.words h in
        ap (λ (y : ℕ). bit_of y (l % 64)) (S (g.written + k * g.words + l / 64) (omega (arith, F.spots_fit)) (omega (arith, F.written_fits, F.read_fits, F.to_fits)))

    read_kept : (k l : ℕ) → k < n → l < g.words * 64 → row_bit g g.read w k l ≡ row_bit g g.read w₀ k l
    read_kept k l h m =
        let r = row_before k n g.words h in
        ap (λ (y : ℕ). bit_of y (l % 64)) (S (g.read + k * g.words + l / 64) (omega (arith, F.spots_fit, F.written_fits)) (omega (arith, F.read_fits, F.to_fits)))

    block_kept : (l b : ℕ) → l < z.locals → b < g.width * 64 → block_bit g w l b ≡ block_bit g w₀ l b
    block_kept l b h m =
        let r = row_before l z.locals g.width h in
        ap (λ (y : ℕ). bit_of y (b % 64)) (S (g.to + l * g.width + b / 64) (omega (arith, F.spots_fit, F.written_fits, F.read_fits)) (omega (arith, F.to_fits)))

    pub rows_kept : (C : Code) (es : List Edge) (l : ℕ) → l < z.locals → RowsOf C ps (line_of blocks es) g n l w₀ → RowsOf C ps (line_of blocks es) g n l w
    rows_kept C es l h R = record {
      written = λ e k m. written_kept k l (omega (arith, blocks_length blocks)) (omega (arith, F.long)) ∙ R.written e k m;
      read = λ e k m. read_kept k l (omega (arith, blocks_length blocks)) (omega (arith, F.long)) ∙ R.read e k m;
      both = λ e k m. block_kept l k h (omega (arith, F.wide)) ∙ R.both e k m
          ∙ sym (ap (λ (x : Bool). x && row_bit g g.read w k l) (written_kept k l m (omega (arith, F.long)))
          ∙ ap (λ (x : Bool). row_bit g g.written w₀ k l && x) (read_kept k l m (omega (arith, F.long))));
      arrives = λ e k m. block_kept l k h (omega (arith, F.wide, blocks_length blocks)) ∙ R.arrives e k m;
      rest = λ b a m. block_kept l b h m ∙ R.rest b a m;
    }

    fits_kept : length w ≡ length w₀ → Fits blocks addresses ends pieces p z g mark o w
    fits_kept e = record {
      areas_fit = F.areas_fit;
      items_fit = F.items_fit;
      spots_fit = F.spots_fit;
      written_fits = F.written_fits;
      read_fits = F.read_fits;
      to_fits = F.to_fits;
      fits = omega (arith, F.fits);
      small = F.small;
      wide = F.wide;
      narrow = F.narrow;
      long = F.long;
      few = F.few;
    }

  module _ {w₀ w : List ℕ} (R : Ready blocks insts addresses ends pieces lay p z g mark o w₀) (S : Spared blocks addresses ends pieces lay p g mark o w₀ w) where
    pub ready_kept : ((c : ℕ) → c < g.width * 64 → bit w mark c ≡ false) → Ready blocks insts addresses ends pieces lay p z g mark o w
    ready_kept u = record {
      sound = R.sound;
      laid = fits_kept w R.laid S.rows S.len;
      spots = ready_stays R.spots (record { len = S.len; same = S.tables }) S.chains;
      unmarked = u;
      edges = R.edges;
      operands = R.operands;
      crossings = R.crossings;
      prepared = prepared_stays R.spots (record { len = S.len; same = S.tables }) R.operands R.crossings R.prepared;
      rows = λ l h. rows_kept w R.laid S.rows _ R.edges l h (R.rows l h);
      in_line = R.in_line;
    }

  -- ---- one local

  module _ (l total : ℕ) {w₀ w₁ : List ℕ} {f : JobLocal} (R : Ready blocks insts addresses ends pieces lay p z g mark o w₀) (h : l < z.locals)
      (few : total ≤ l * most_in blocks addresses pieces) (C : FetchedAny insts addresses ends pieces lay p z l w₀ w₁ f) where
    F : Fits blocks addresses ends pieces p z g mark o w₀
    F = R.laid

    -- one part behind another
    pub record Order : Type 0 where
      pub keys_by : o.items + z.locals ≤ p.keys
      pub queue_by : p.keys ≤ lay.queue
      pub heads_by : lay.queue ≤ p.heads
      pub at_by : p.heads ≤ p.at
      pub ends_by : p.at + (piece_count pieces + address_count addresses) ≤ p.ends
      pub mark_by : p.ends + end_count ends ≤ mark
      pub to_by : mark + g.width + n + most_in blocks addresses pieces ≤ length w₀

    pub order : Order
    order =
        let L = R.spots.laid in
        let t = R.spots.walks.tables.laid in
        record {
          keys_by = F.items_fit;
          queue_by = omega (arith, L.keys_fit, t.escapes_fits, t.dead_fits, t.seen_fits, t.defs_fits, t.firsts_fits, t.edges_fits, t.heads_fits, t.nexts_fits, t.ended_fits);
          heads_by = omega (arith, L.queue_fit);
          at_by = omega (arith, L.heads_fit, L.nexts_fit);
          ends_by = omega (arith, L.at_fits);
          mark_by = omega (arith, F.spots_fit, F.written_fits, F.read_fits, F.to_fits);
          to_by = F.fits;
        }

    fetch_spares : Spared blocks addresses ends pieces lay p g mark o w₀ w₁
    fetch_spares =
        let q = order in
        record {
          len = C.kept.len;
          below = λ i b. C.kept.below i (omega (arith, F.areas_fit, q.keys_by, q.queue_by));
          tables = λ i a b. C.kept.below i b;
          chains = C.chains_kept;
          rows = λ i a b. C.kept.past i a;
          past = λ i a. C.kept.past i (omega (arith, q.mark_by));
        }

    marks_stay : (c : ℕ) → c < g.width * 64 → bit w₁ mark c ≡ false
    marks_stay c m = ap (λ (y : ℕ). bit_of y (c % 64)) (C.kept.past (mark + c / 64) (omega (arith, order.mark_by))) ∙ R.unmarked c m

    pub count_in_lem : f.spots.count ≤ piece_count pieces + address_count addresses
    count_in_lem = C.few

    -- the areas and items stand before all that the others read
    module _ {w : List ℕ} (len : length w ≡ length w₁) (same : (i : ℕ) → (i < o.areas) ⊎ (p.keys ≤ i) → (i < mark) ⊎ (mark + g.width + n + most_in blocks addresses pieces ≤ i) → get_or w i 0 ≡ get_or w₁ i 0) where
      pub spared : Spared blocks addresses ends pieces lay p g mark o w₀ w
      spared =
          let q = order in
          let T = fetch_spares in
          record {
            len = len ∙ T.len;
            below = λ i b. same i (inl b) (inl (omega (arith, F.areas_fit, q.keys_by, q.queue_by, q.heads_by, q.at_by, q.ends_by, q.mark_by))) ∙ T.below i b;
            tables = λ i a b. same i (inr a) (inl (omega (arith, q.heads_by, q.at_by, q.ends_by, q.mark_by))) ∙ T.tables i a b;
            chains = λ i a b. same i (inr (omega (arith, q.queue_by, q.heads_by))) (inl (omega (arith, q.ends_by, q.mark_by))) ∙ T.chains i a b;
            rows = λ i a b. same i (inr (omega (arith, q.queue_by, q.heads_by, q.at_by, q.ends_by))) (inl b) ∙ T.rows i a b;
            past = λ i a. same i (inr (omega (arith, q.queue_by, q.heads_by, q.at_by, q.ends_by, q.mark_by))) (inr a) ∙ T.past i a;
          }

    back : (i : ℕ) → i < p.keys → get_or w₁ i 0 ≡ get_or w₀ i 0
    back i b = C.kept.below i (omega (arith, order.queue_by))

    pub item_in : o.items + l < length w₁
    item_in = let q = order in omega (arith, q.keys_by, q.queue_by, q.heads_by, q.at_by, q.ends_by, q.mark_by, q.to_by, C.kept.len)

    -- ---- unfollowed

    module _ (u : is_unfollowed f.kind ≡ true) where
      abbrev at : ℕ
      at = o.items + l

      stays : (i : ℕ) → (i ≡ at → ⊥) → get_or (set w₁ at 0) i 0 ≡ get_or w₁ i 0
      stays i d = set_other w₁ at 0 i item_in d

      no_area : (operands crossings : List ℕ) → Prepared (code operands crossings) lay w₀ z.locals z.edges → (G : Graph) → area_in G (code operands crossings) ps l ≡ none
      no_area operands crossings P G = ap (λ (k : Kind). area_by G k (touches_of (code operands crossings) ps l) (ends_of (code operands crossings) l)) (sym (C.code operands crossings P).kind ∙ is_unfollowed_lem f.kind u)

      pub next_none : Next blocks insts addresses ends pieces lay p z g mark o l total w₀ (set w₁ at 0) total
      next_none =
          let q = order in
          record {
            spared = spared (length-set w₁ at 0) (λ i a b. stays i (λ e. absurd (⊎_elim (λ x. omega (arith, F.areas_fit)) (λ x. omega (arith, q.keys_by)) a)));
            unmarked = λ c m. ap (λ (y : ℕ). bit_of y (c % 64)) (stays (mark + c / 64) (λ e. absurd (omega (arith, q.keys_by, q.queue_by, q.heads_by, q.at_by, q.ends_by, q.mark_by)))) ∙ marks_stay c m;
            most = omega arith;
            listed = λ operands crossings P es Q A e D.
                let none_is = e ∙ no_area operands crossings P (line_of blocks es) in
                let empty : total - total ≡ 0 = omega arith in
                listed_more word_of o A (set w₁ at 0) total D (length-set w₁ at 0 ∙ C.kept.len) F.areas_fit (omega (arith, item_in, C.kept.len)) (omega arith)
                (λ i b c. stays i (λ x. absurd (omega arith)) ∙ back i (omega (arith, q.keys_by)))
                (λ i b. stays (o.items + i) (λ x. absurd (omega arith)) ∙ back (o.items + i) (omega (arith, q.keys_by)))
                (stored (λ y. y ≡ word_of total (A l)) w₁ at 0 at item_in (λ _. sym (ap (word_of total) none_is)) (λ d. absurd (d refl)))
                (omega (arith, ap ranges_in none_is)) (λ _. ap listed none_is ∙ sym (ap (λ (k : ℕ). unpacked (part (o.areas + total) k (set w₁ at 0))) empty));
          }

    -- ---- followed

    module _ (u : is_unfollowed f.kind ≡ false) where
      abbrev kind : ℕ
      kind = kind_number f.kind

      abbrev C₀ : Code
      C₀ = code R.operands R.crossings

      told : FetchedTo C₀ ps l w₁ f
      told = C.code R.operands R.crossings R.prepared

      rows₁ : RowsOf C₀ ps (line_of blocks R.edges) g n l w₁
      rows₁ = rows_kept w₁ F fetch_spares.rows C₀ R.edges l h (R.rows l h)

      pub measurable : Measurable blocks kind f.spots (local_at g n mark l) w₁
      measurable =
          let q = order in
          let r = row_before l z.locals g.width h in
          record {
            followed = number_some f.kind u;
            laid = record {
              free = record {
                wide = F.wide;
                small = omega (arith, F.narrow);
                mark_fits = omega arith;
                span_fits = omega arith;
                fits = omega (arith, q.to_by, count_in_lem, C.kept.len);
              };
              touches_fit = omega (arith, C.at_is, count_in_lem, q.ends_by, q.mark_by);
              ends_fit = omega (arith, C.ends_is, C.few_ends, q.mark_by);
              row_fits = omega (arith, F.to_fits);
            };
            flowing = record { written_fits = omega (arith, F.written_fits, F.read_fits, F.to_fits); read_fits = omega (arith, F.read_fits, F.to_fits); bit_in = omega (arith, F.long) };
            stand = C.stand;
            unmarked = record { none = marks_stay };
            bounded = record { past = rows₁.rest };
            both = λ e. record { bits = rows₁.both (sym told.kind ∙ plain_number f.kind e); bounded = record { past = rows₁.rest } };
            in_line = λ t m. R.in_line l h t (perm_member (told.touches (followed f.kind u)) t m);
          }

      pub listable : Listable blocks f.spots (local_at g n mark l) o total
      listable =
          let q = order in
          let m : l * most_in blocks addresses pieces + most_in blocks addresses pieces ≤ z.locals * most_in blocks addresses pieces = row_before l z.locals (most_in blocks addresses pieces) h in
          record {
            areas_fit = F.areas_fit;
            items_fit = omega (arith, q.keys_by, q.queue_by, q.heads_by, q.at_by, q.ends_by, q.mark_by);
            small = omega (arith, F.few, count_in_lem);
          }

      module _ (operands crossings : List ℕ) (P : Prepared (code operands crossings) lay w₀ z.locals z.edges) (es : List Edge) (Q : RowsOf (code operands crossings) ps (line_of blocks es) g n l w₀) where
        abbrev G : Graph
        G = line_of blocks es

        abbrev ts : List Range
        ts = touches_at f.spots w₁

        abbrev us : List Range
        us = touches_of (code operands crossings) ps l

        abbrev stops : List ℕ
        stops = ends_of (code operands crossings) l

        tells : FetchedTo (code operands crossings) ps l w₁ f
        tells = C.code operands crossings P

        turned : Permuted ts us
        turned = tells.touches (followed f.kind u)

        ended : ends_at f.spots w₁ ≡ sort_of stops
        ended = tells.ends (followed f.kind u)

        rows₂ : RowsOf (code operands crossings) ps (line_of blocks es) g n l w₁
        rows₂ = rows_kept w₁ F fetch_spares.rows (code operands crossings) es l h Q

        pub rows_for_lem : RowsFor G kind (local_at g n mark l) ts (ends_at f.spots w₁) w₁
        rows_for_lem = record {
          plain = λ e.
              let k = sym tells.kind ∙ plain_number f.kind e in
              record {
                written = λ j m. rows₂.written k j m ∙ ap (λ (b : ℕ → Bool). b j) (sym (before_same G ts us stops turned));
                read = λ j m. rows₂.read k j m ∙ ap (λ (b : ℕ → Bool). b j) (sym (after_same G ts us stops turned));
              };
          ending = λ e.
              let k = sym tells.kind ∙ ending_number f.kind e in
              record { arriving = λ j m. rows₂.arrives k j m ∙ ap (λ (b : ℕ → Bool). b j) (sym (ap (arrives_row G ts) ended ∙ arrives_same G ts us stops turned)) };
        }

        pub area_is : area_by G (kind_by kind) ts (ends_at f.spots w₁) ≡ area_in G (code operands crossings) ps l
        area_is =
            ap (λ (k : Kind). area_by G k ts (ends_at f.spots w₁)) (kind_told f.kind ∙ tells.kind)
            ∙ ap (area_by G (kind_of (code operands crossings) l) ts) ended
            ∙ area_same G ts us stops turned (kind_of (code operands crossings) l)

        pub some_area : (rs : List Range) × (area_in G (code operands crossings) ps l ≡ some rs)
        some_area = present G us stops (kind_of (code operands crossings) l) (ap is_unfollowed (sym tells.kind) ∙ u)

      pub next_some : {w : List ℕ} {r : ℕ} → Measured blocks kind f.spots (local_at g n mark l) o total w₁ w r → Next blocks insts addresses ends pieces lay p z g mark o l total w₀ w r
      next_some {w} {r} M =
          let q = order in
          let low : o.items + l < p.keys = omega (arith, q.keys_by) in
          let top : p.keys ≤ mark = omega (arith, q.queue_by, q.heads_by, q.at_by, q.ends_by, q.mark_by) in
          let most : f.spots.count ≤ piece_count pieces + address_count addresses = count_in_lem in
          record {
            spared = spared M.len (λ i a b. M.same i (⊎_elim (λ x. inl (omega arith)) (λ x. inr (omega (arith, F.areas_fit, low))) a) (λ e. absurd (⊎_elim (λ x. omega (arith, F.areas_fit)) (λ x. omega (arith, low)) a)) (⊎_elim (λ x. inl x) (λ x. inr (omega arith)) b));
            unmarked = M.unmarked.none;
            most = omega (arith, M.most);
            listed = λ operands crossings P es Q A e D.
                let same_area = area_is operands crossings P es Q in
                let rows = rows_for_lem operands crossings P es Q in
                let (rs, is) = some_area operands crossings P es Q in
                let counted : r ≡ total + length rs = M.count es rows ∙ ap (λ (a : Option (List Range)). total + ranges_in a) (same_area ∙ is) in
                let has = e ∙ is in
                listed_more word_of o A w r D (M.len ∙ C.kept.len) F.areas_fit (omega (arith, item_in, C.kept.len)) M.least
                (λ i b c. M.same i (inl b) (λ x. absurd (omega arith)) (inl (omega arith)) ∙ back i (omega arith))
                (λ i b. M.same (o.items + i) (inr (omega (arith, F.areas_fit))) (λ x. absurd (omega arith)) (inl (omega arith)) ∙ back (o.items + i) (omega arith))
                (M.word ∙ ap (item_word total) (omega (arith, counted)) ∙ sym (ap (word_of total) has))
                (counted ∙ sym (ap (λ (a : Option (List Range)). total + ranges_in a) has))
                (λ x. ap listed (e ∙ sym same_area ∙ M.put es rows x));
          }

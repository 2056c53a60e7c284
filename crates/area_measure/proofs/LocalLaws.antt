-- Local after local: what is fetched and measured leaves the rows of the others, and puts one area more.
use Prim.Native.Nat.{ℕ, zero, suc, ◌+◌, ◌-◌, ◌*◌, ◌/◌, ◌%◌, ◌≤◌, ◌<◌}
use native.Mathlib.Omega.{arith}
use mathlib.Core.Path.{◌≡◌, refl, sym, ap, ◌∙◌}
use mathlib.Core.Logic.{inl, inr}
use mathlib.Core.Bool.{Bool, false, ◌&&◌}
use mathlib.Core.Option.{Option, some, none}
use mathlib.Core.List.{List}
use lib.ListN.{length, get_or, set, length-set}
use Rattle.words.specs.Sort.{sort_of}
use Rattle.words.specs.Inner.{part, touch_count, stop_count}
use Rattle.words.specs.Widths.{block_count}
use Rattle.words.proofs.Points.{stored}
use Rattle.words.proofs.RegionLaws.{row_before}
use Rattle.bits.specs.Bits.{bit, bit_of}
use Rattle.ranges.specs.declared.Range.{Range}
use Rattle.ranges.specs.Inner.{unpacked}
use Rattle.graph.specs.Paths.{Edge}
use Rattle.graph.proofs.Line.{blocks_length}
use Rattle.carrying.specs.declared.Kind.{Kind}
use Rattle.carrying.specs.declared.Kind.TheVariants.{Unfollowed, Plain, Ending}
use Rattle.areas.specs.Blocks.{Graph}
use Rattle.areas.specs.Job.{area_by, ranges_in}
use Rattle.spots.specs.declared.Spots.{Spots}
use Rattle.spots.specs.Spots.{line_of}
use Rattle.spots.specs.Inner.{touches_at, ends_at}
use Rattle.area_pieces.proofs.PushLaws.{set_other}
use Rattle.area_flow.specs.declared.Grid.{Grid}
use Rattle.area_flow.specs.Inner.{row_bit, block_bit}
use Rattle.local_spots.specs.declared.Places.{Places}
use Rattle.kind_numbers.specs.Numbers.{kind_by}
use Rattle.local_spots.specs.Locals.{touches_for, ends_for}
use Rattle.local_spots.specs.Inner.{Laid, Chains, Fetched}
use Rattle.local_spots.proofs.OrderLaws.{arrives_sorted, ending_sorted}
use Rattle.area_measure.specs.declared.Listing.{Listing}
use Rattle.area_measure.specs.Inner.Measure.{item_word, RowsFor, Measurable, Listable, Measured}
use Rattle.ranges.specs.Points.{listed}
use Rattle.area_measure.specs.Locals.{area_for}
use Rattle.area_measure.specs.Inner.Locals.{word_of, local_at, most_in, Fits, Ready, RowsOf, Spared, Next, ListedFor, MeasuredAll}
use Rattle.area_measure.proofs.ListLaws.{listed_none, listed_more}

-- the order of its ends does not matter
area_sorted : (G : Graph) (K : Kind) (ts : List Range) (es : List ℕ) → area_by G K ts (sort_of es) ≡ area_by G K ts es
area_sorted G Unfollowed ts es = refl
area_sorted G Plain ts es = refl
area_sorted G Ending ts es = ap (λ (l : List Range). some l) (ending_sorted G es ts)

-- a plain or ending local has an area
present : (G : Graph) (ts : List Range) (es : List ℕ) (n : ℕ) → 0 < n → (rs : List Range) × (area_by G (kind_by n) ts es ≡ some rs)
present G ts es zero h = absurd (omega arith)
present G ts es (suc zero) h = (_, refl)
present G ts es (suc (suc n)) h = (_, refl)

-- the chains, where their words stay
pub chains_kept : (touches ends : List ℕ) (p : Places) {w₀ w : List ℕ} → Laid p (touch_count touches) (stop_count ends) w₀ → ((i : ℕ) → p.heads ≤ i → i < p.at → get_or w i 0 ≡ get_or w₀ i 0) → Chains p touches ends w₀ → Chains p touches ends w
chains_kept touches ends p L S C = record {
  touches_chain = record {
    head = λ l h. S (p.heads + l) (omega arith) (omega (arith, L.heads_fit, L.nexts_fit)) ∙ C.touches_chain.head l h;
    next = λ i h m. S (p.nexts + i) (omega (arith, L.heads_fit)) (omega (arith, L.nexts_fit)) ∙ C.touches_chain.next i h m;
  };
  ends_chain = record {
    head = λ l h. S (p.heads + p.locals + l) (omega arith) (omega (arith, L.heads_fit, L.nexts_fit)) ∙ C.ends_chain.head l h;
    next = λ i h m. S (p.nexts + touch_count touches + i) (omega (arith, L.heads_fit)) (omega (arith, L.nexts_fit)) ∙ C.ends_chain.next i h m;
  };
}

module _ (blocks kinds touches ends : List ℕ) (p : Places) (g : Grid) (mark : ℕ) (o : Listing) where
  abbrev n : ℕ
  n = block_count blocks

  -- ---- what stays when the rows are spared

  module _ {w₀ w : List ℕ} (F : Fits blocks kinds touches ends p g mark o w₀) (S : Spared blocks touches ends p g mark w₀ w) where
    written_kept : (k l : ℕ) → k < n → l < g.words * 64 → row_bit g g.written w k l ≡ row_bit g g.written w₀ k l
    written_kept k l h m =
        let r = row_before k n g.words h in
        ap (λ (y : ℕ). bit_of y (l % 64)) (S.rows (g.written + k * g.words + l / 64) (omega (arith, F.spots_fit)) (omega (arith, F.written_fits, F.read_fits, F.to_fits)))

    read_kept : (k l : ℕ) → k < n → l < g.words * 64 → row_bit g g.read w k l ≡ row_bit g g.read w₀ k l
    read_kept k l h m =
        let r = row_before k n g.words h in
        ap (λ (y : ℕ). bit_of y (l % 64)) (S.rows (g.read + k * g.words + l / 64) (omega (arith, F.spots_fit, F.written_fits)) (omega (arith, F.read_fits, F.to_fits)))

    block_kept : (l b : ℕ) → l < length kinds → b < g.width * 64 → block_bit g w l b ≡ block_bit g w₀ l b
    block_kept l b h m =
        let r = row_before l (length kinds) g.width h in
        ap (λ (y : ℕ). bit_of y (b % 64)) (S.rows (g.to + l * g.width + b / 64) (omega (arith, F.spots_fit, F.written_fits, F.read_fits)) (omega (arith, F.to_fits)))

    pub fits_kept : Fits blocks kinds touches ends p g mark o w
    fits_kept = record {
      locals_are = F.locals_are;
      areas_fit = F.areas_fit;
      items_fit = F.items_fit;
      spots = record { heads_fit = F.spots.heads_fit; nexts_fit = F.spots.nexts_fit; at_fits = F.spots.at_fits; ends_fit = omega (arith, F.spots.ends_fit, S.len) };
      spots_fit = F.spots_fit;
      written_fits = F.written_fits;
      read_fits = F.read_fits;
      to_fits = F.to_fits;
      fits = omega (arith, F.fits, S.len);
      small = F.small;
      wide = F.wide;
      narrow = F.narrow;
      long = F.long;
      few = F.few;
    }

    pub rows_kept : (es : List Edge) (l : ℕ) → l < length kinds → RowsOf blocks kinds touches ends g mark w₀ es l → RowsOf blocks kinds touches ends g mark w es l
    rows_kept es l h R = record {
      plain = λ e. record {
        written = λ k m. written_kept k l (omega (arith, blocks_length blocks)) (omega (arith, F.long)) ∙ (R.plain e).written k m;
        read = λ k m. read_kept k l (omega (arith, blocks_length blocks)) (omega (arith, F.long)) ∙ (R.plain e).read k m;
      };
      ending = λ e. record { arriving = λ k m. block_kept l k h (omega (arith, F.wide, blocks_length blocks)) ∙ (R.ending e).arriving k m };
    }

  module _ {w₀ w : List ℕ} (D : Ready blocks kinds touches ends p g mark o w₀) (S : Spared blocks touches ends p g mark w₀ w) (u : (c : ℕ) → c < g.width * 64 → bit w mark c ≡ false) where
    pub ready_kept : Ready blocks kinds touches ends p g mark o w
    ready_kept =
        let F = D.laid in
        record {
          laid = fits_kept F S;
          chains = chains_kept touches ends p F.spots S.chains D.chains;
          unmarked = u;
          rest = λ l b h m q. block_kept F S l b h q ∙ D.rest l b h m q;
          both = λ l k h e m.
              block_kept F S l k h (omega (arith, F.wide)) ∙ D.both l k h e m
              ∙ sym (ap (λ (x : Bool). x && row_bit g g.read w k l) (written_kept F S k l m (omega (arith, F.long)))
              ∙ ap (λ (x : Bool). row_bit g g.written w₀ k l && x) (read_kept F S k l m (omega (arith, F.long))));
          in_line = D.in_line;
        }

  -- ---- an unfollowed local

  module _ (l total : ℕ) {w₀ : List ℕ} (D : Ready blocks kinds touches ends p g mark o w₀) (h : l < length kinds) (u : get_or kinds l 0 ≡ 0) where
    abbrev at : ℕ
    at = o.items + l

    before_heads : at < p.heads
    before_heads = omega (arith, D.laid.items_fit)

    heads_before : p.heads ≤ mark
    heads_before =
        let F = D.laid in
        let L = F.spots in
        omega (arith, L.heads_fit, L.nexts_fit, L.at_fits, F.spots_fit, F.written_fits, F.read_fits, F.to_fits)

    pub item_in : at < length w₀
    item_in = omega (arith, before_heads, heads_before, D.laid.fits)

    stays : (i : ℕ) → (i ≡ at → ⊥) → get_or (set w₀ at 0) i 0 ≡ get_or w₀ i 0
    stays i d = set_other w₀ at 0 i item_in d

    no_area : (G : Graph) → area_for G kinds touches ends l ≡ none
    no_area G = ap (λ (n : ℕ). area_by G (kind_by n) (touches_for touches l) (ends_for ends l)) u

    pub next_none : Next blocks kinds touches ends p g mark o l total w₀ (set w₀ at 0) total
    next_none =
        let F = D.laid in
        let L = F.spots in
        let empty : total - total ≡ 0 = omega arith in
        record {
          spared = record {
            len = length-set w₀ at 0;
            chains = λ i a b. stays i (λ e. absurd (omega (arith, before_heads)));
            rows = λ i a b. stays i (λ e. absurd (omega (arith, before_heads, L.heads_fit, L.nexts_fit, L.at_fits)));
            past = λ i a. stays i (λ e. absurd (omega (arith, before_heads, heads_before)));
          };
          unmarked = λ c m. ap (λ (y : ℕ). bit_of y (c % 64)) (stays (mark + c / 64) (λ e. absurd (omega (arith, before_heads, heads_before)))) ∙ D.unmarked c m;
          least = omega arith;
          most = omega arith;
          word = λ es R. stored (λ y. y ≡ word_of total (area_for (line_of blocks es) kinds touches ends l)) w₀ at 0 at item_in (λ _. sym (ap (word_of total) (no_area (line_of blocks es)))) (λ d. absurd (d refl));
          same = λ i a d b. stays i d;
          count = λ es R. omega (arith, ap ranges_in (no_area (line_of blocks es)));
          put = λ es R q. ap listed (no_area (line_of blocks es)) ∙ sym (ap (λ (k : ℕ). unpacked (part (o.areas + total) k (set w₀ at 0))) empty);
        }

  -- ---- a plain or ending one

  module _ (l total : ℕ) {w₀ w₁ : List ℕ} {t : Spots} (D : Ready blocks kinds touches ends p g mark o w₀) (h : l < length kinds) (fo : 0 < get_or kinds l 0) (few : total ≤ l * most_in blocks touches) (C : Fetched p touches ends l w₀ w₁ t) where
    fetch_spares : Spared blocks touches ends p g mark w₀ w₁
    fetch_spares =
        let F = D.laid in
        record {
          len = C.kept.len;
          chains = λ i a b. C.kept.below i b;
          rows = λ i a b. C.kept.past i a;
          past = λ i a. C.kept.past i (omega (arith, F.spots_fit, F.written_fits, F.read_fits, F.to_fits));
        }

    marks_stay : (c : ℕ) → c < g.width * 64 → bit w₁ mark c ≡ false
    marks_stay c m =
        let F = D.laid in
        ap (λ (y : ℕ). bit_of y (c % 64)) (C.kept.past (mark + c / 64) (omega (arith, F.spots_fit, F.written_fits, F.read_fits, F.to_fits))) ∙ D.unmarked c m

    pub next_ready : Ready blocks kinds touches ends p g mark o w₁
    next_ready = ready_kept D fetch_spares marks_stay

    pub count_in_lem : t.count ≤ touch_count touches
    count_in_lem = omega (arith, C.touches_low, C.touches_high)

    pub next_measurable : Measurable blocks (get_or kinds l 0) t (local_at g n mark l) w₁
    next_measurable =
        let E = next_ready in
        let F = E.laid in
        let r = row_before l (length kinds) g.width h in
        record {
          followed = fo;
          laid = record {
            free = record {
              wide = F.wide;
              small = omega (arith, F.narrow);
              mark_fits = omega arith;
              span_fits = omega arith;
              fits = omega (arith, F.fits, count_in_lem);
            };
            touches_fit = omega (arith, C.touches_high, F.spots.at_fits, F.spots_fit, F.written_fits, F.read_fits, F.to_fits);
            ends_fit = omega (arith, C.ends_high, F.spots_fit, F.written_fits, F.read_fits, F.to_fits);
            row_fits = omega (arith, F.to_fits);
          };
          flowing = record { written_fits = omega (arith, F.written_fits, F.read_fits, F.to_fits); read_fits = omega (arith, F.read_fits, F.to_fits); bit_in = omega (arith, F.long) };
          stand = C.stand;
          unmarked = record { none = λ c m. E.unmarked c m };
          bounded = record { past = λ c a b. E.rest l c h a b };
          both = λ e. record { bits = λ k m. E.both l k h e m; bounded = record { past = λ c a b. E.rest l c h a b } };
          in_line = rw C.touches_are (E.in_line l);
        }

    pub next_listable : Listable blocks t (local_at g n mark l) o total
    next_listable =
        let F = D.laid in
        let m : l * most_in blocks touches + most_in blocks touches ≤ length kinds * most_in blocks touches = row_before l (length kinds) (most_in blocks touches) h in
        record {
          areas_fit = F.areas_fit;
          items_fit = omega (arith, F.items_fit, F.spots.heads_fit, F.spots.nexts_fit, F.spots.at_fits, F.spots_fit, F.written_fits, F.read_fits, F.to_fits);
          small = omega (arith, F.few, count_in_lem);
        }

    module _ {w : List ℕ} {r : ℕ} (M : Measured blocks (get_or kinds l 0) t (local_at g n mark l) o total w₁ w r) where
      as-fetched : (es : List Edge) → RowsOf blocks kinds touches ends g mark w₀ es l → RowsFor (line_of blocks es) (get_or kinds l 0) (local_at g n mark l) (touches_at t w₁) (ends_at t w₁) w₁
      as-fetched es R =
          let K = rows_kept D.laid fetch_spares es l h R in
          rw (C.touches_are, C.ends_are) (record {
            plain = K.plain;
            ending = λ e. record { arriving = λ k m. (K.ending e).arriving k m ∙ ap (λ (f : ℕ → Bool). f k) (sym (arrives_sorted (line_of blocks es) (ends_for ends l) (touches_for touches l))) };
          })

      is-fetched : (es : List Edge) → area_by (line_of blocks es) (kind_by (get_or kinds l 0)) (touches_at t w₁) (ends_at t w₁) ≡ area_for (line_of blocks es) kinds touches ends l
      is-fetched es =
          ap (λ (ts : List Range). area_by (line_of blocks es) (kind_by (get_or kinds l 0)) ts (ends_at t w₁)) C.touches_are
          ∙ ap (λ (e : List ℕ). area_by (line_of blocks es) (kind_by (get_or kinds l 0)) (touches_for touches l) e) C.ends_are
          ∙ area_sorted (line_of blocks es) (kind_by (get_or kinds l 0)) (touches_for touches l) (ends_for ends l)

      pub next_done : Next blocks kinds touches ends p g mark o l total w₀ w r
      next_done =
          let F = D.laid in
          let L = F.spots in
          record {
            spared = record {
              len = M.len ∙ C.kept.len;
              chains = λ i a b. M.same i (inr (omega (arith, F.areas_fit, F.items_fit))) (λ e. absurd (omega (arith, F.items_fit))) (inl (omega (arith, L.at_fits, F.spots_fit, F.written_fits, F.read_fits, F.to_fits))) ∙ C.kept.below i b;
              rows = λ i a b. M.same i (inr (omega (arith, F.areas_fit, F.items_fit, L.heads_fit, L.nexts_fit, L.at_fits))) (λ e. absurd (omega (arith, F.items_fit, L.heads_fit, L.nexts_fit, L.at_fits))) (inl b) ∙ C.kept.past i a;
              past = λ i a. M.same i (inr (omega (arith, F.areas_fit, F.items_fit, L.heads_fit, L.nexts_fit, L.at_fits, F.spots_fit, F.written_fits, F.read_fits, F.to_fits)))
                  (λ e. absurd (omega (arith, F.items_fit, L.heads_fit, L.nexts_fit, L.at_fits, F.spots_fit, F.written_fits, F.read_fits, F.to_fits))) (inr (omega (arith, count_in_lem)))
                  ∙ C.kept.past i (omega (arith, F.spots_fit, F.written_fits, F.read_fits, F.to_fits));
            };
            unmarked = λ c m. M.unmarked.none c m;
            least = M.least;
            most = omega (arith, M.most, count_in_lem);
            word = λ es R.
                let (rs, is) = present (line_of blocks es) (touches_for touches l) (ends_for ends l) (get_or kinds l 0) fo in
                let counted : r ≡ total + length rs = M.count es (as-fetched es R) ∙ ap (λ (a : Option (List Range)). total + ranges_in a) (is-fetched es ∙ is) in
                M.word ∙ ap (item_word total) (omega (arith, counted)) ∙ sym (ap (word_of total) is);
            same = λ i a d b. M.same i a d (inl (omega (arith, L.heads_fit, L.nexts_fit, L.at_fits, F.spots_fit, F.written_fits, F.read_fits, F.to_fits))) ∙ C.kept.below i (omega (arith, L.heads_fit, L.nexts_fit));
            count = λ es R. M.count es (as-fetched es R) ∙ ap (λ (a : Option (List Range)). total + ranges_in a) (is-fetched es);
            put = λ es R q. ap listed (sym (is-fetched es) ∙ M.put es (as-fetched es R) q);
          }

  -- ---- all of them

  -- the first l locals are measured
  pub record Going (w₀ w : List ℕ) (l total : ℕ) : Type 0 where
    pub l_le : l ≤ length kinds
    pub begun : Ready blocks kinds touches ends p g mark o w₀
    pub spared : Spared blocks touches ends p g mark w₀ w
    pub unmarked : (c : ℕ) → c < g.width * 64 → bit w mark c ≡ false
    pub most : total ≤ l * most_in blocks touches
    pub listed : ListedFor blocks kinds touches ends g mark o l w₀ w total

  pub going_start : (w : List ℕ) → Ready blocks kinds touches ends p g mark o w → Going w w 0 0
  going_start w D = record {
    l_le = omega arith;
    begun = D;
    spared = record { len = refl; chains = λ i a b. refl; rows = λ i a b. refl; past = λ i a. refl };
    unmarked = D.unmarked;
    most = omega arith;
    listed = record { is = λ es R. listed_none word_of o (area_for (line_of blocks es) kinds touches ends) w };
  }

  module _ {w₀ w : List ℕ} {l total : ℕ} (G : Going w₀ w l total) where
    pub going_ready : Ready blocks kinds touches ends p g mark o w
    going_ready = ready_kept G.begun G.spared G.unmarked

    pub going_more : {w' : List ℕ} {r : ℕ} → l < length kinds → Next blocks kinds touches ends p g mark o l total w w' r → Going w₀ w' (l + 1) r
    going_more {w'} {r} h N =
        let F = going_ready.laid in
        let L = F.spots in
        record {
          l_le = omega arith;
          begun = G.begun;
          spared = record {
            len = N.spared.len ∙ G.spared.len;
            chains = λ i a b. N.spared.chains i a b ∙ G.spared.chains i a b;
            rows = λ i a b. N.spared.rows i a b ∙ G.spared.rows i a b;
            past = λ i a. N.spared.past i a ∙ G.spared.past i a;
          };
          unmarked = N.unmarked;
          most = let z : (l + 1) * most_in blocks touches ≡ l * most_in blocks touches + most_in blocks touches = omega arith in omega (arith, N.most, G.most);
          listed = record {
            is = λ es R.
                let row = rows_kept G.begun.laid G.spared es l h (R l h) in
                listed_more word_of o (area_for (line_of blocks es) kinds touches ends) w' r (G.listed.is es R) N.spared.len F.areas_fit (omega (arith, F.items_fit, L.heads_fit, L.nexts_fit, L.at_fits, L.ends_fit)) N.least
                (λ i b c. N.same i (inl b) (λ e. absurd (omega arith)) (omega (arith, F.items_fit)))
                (λ i b. N.same (o.items + i) (inr (omega (arith, F.areas_fit))) (λ e. absurd (omega arith)) (omega (arith, F.items_fit)))
                (N.word es row) (N.count es row) (λ q. N.put es row q);
          };
        }

    pub going_done : length kinds ≤ l → MeasuredAll blocks kinds touches ends p g mark o w₀ w total
    going_done h =
        let e : l ≡ length kinds = omega (arith, G.l_le) in
        record {
          spared = G.spared;
          most = rw e at G.most;
          listed = rw e at G.listed;
        }

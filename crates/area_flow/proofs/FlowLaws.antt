-- Laws of the rows of the areas: each engine in the one work space, and the three of them one after another.
use Prim.Native.Nat.{ℕ, ◌+◌, ◌*◌, ◌/◌, ◌%◌, ◌≤◌, ◌<◌}
use native.Mathlib.Omega.{arith}
use mathlib.Core.Path.{◌≡◌, refl, sym, ap, ◌∙◌}
use mathlib.Core.Logic.{◌⊎◌, inl, inr, ⊎_elim, ◌↔◌}
use mathlib.Core.Bool.{Bool, true, false}
use mathlib.Core.List.{List}
use lib.ListN.{length, get_or}
use Rattle.words.proofs.RegionLaws.{row_before}
use Rattle.bits.specs.Bits.{bit, bit_of}
use Rattle.graph.specs.Paths.{Edge, Between}
use Rattle.graph.specs.Inner.Work.{EdgeRows, Neighbours}
use Rattle.tarjan.specs.Inner.Components.{Walkable, Found}
use Rattle.flow_rows.specs.declared.Flow.{Flow}
use Rattle.flow.specs.declared.Over.{Over}
use Rattle.flow.specs.declared.Over.TheVariants.{Predecessors, Successors}
use Rattle.flow_rows.specs.Inner.{order, Flowed, Laid as FlowLaid}
use Rattle.flow.specs.Inner.{way_of}
use Rattle.flow.proofs.Ways.{flows_as}
use Rattle.graph.proofs.Within.{rows_moved}
use Rattle.graph.proofs.RoundLaws.{reached, reaching, arriving as arriving-row}
use Rattle.flow_rows.proofs.Moved.{reaching_as}
use Rattle.spread_rows.specs.declared.Layout.{Layout}
use Rattle.postorder.specs.Settling.{Settling}
use Rattle.postorder.specs.Inner.{Ordered, Walkable as Orderable}
use Rattle.spread_rows.specs.Inner.{Arrived, Laid as SpreadLaid}
use Rattle.spread_rows.proofs.Turns.{arrives_as}
use Rattle.area_flow.specs.declared.Grid.{Grid}
use Rattle.area_flow.specs.Inner.{row_bit, arriving, Laid, Outside, Linked, FlowedOver, ArrivedAt, Flowing}

-- two tests that hold together are one
pub both_ways : {A : Type 0} (s t : Bool) → (s ≡ true) ↔ A → (t ≡ true) ↔ A → s ≡ t
both_ways true t (f, g) (h, k) = sym (k (f refl))
both_ways false true (f, g) (h, k) = g (h refl)
both_ways false false f g = refl

pub laid_kept : {g : Grid} {n e : ℕ} {w₀ w : List ℕ} → length w ≡ length w₀ → Laid g n e w₀ → Laid g n e w
laid_kept q L = record {
  few = L.few;
  edges_fit = L.edges_fit;
  tarjan_fits = L.tarjan_fits;
  touched_fits = L.touched_fits;
  leaves_fit = L.leaves_fit;
  passes_fit = L.passes_fit;
  written_fits = L.written_fits;
  read_fits = L.read_fits;
  wait_fits = L.wait_fits;
  to_fits = let f = L.to_fits in omega arith;
  wide = L.wide;
  long = L.long;
}

-- rows apart from what has changed
pub bit_outside : {lo hi lo' hi' : ℕ} {w₀ w : List ℕ} (from n words : ℕ) → Outside lo hi lo' hi' w₀ w → (from + n * words ≤ lo) ⊎ (hi ≤ from) → (from + n * words ≤ lo') ⊎ (hi' ≤ from)
    → (k l : ℕ) → k < n → l < words * 64 → bit w (from + k * words) l ≡ bit w₀ (from + k * words) l
bit_outside from n words K a b k l h m =
    let r = row_before k n words h in
    ap (λ (y : ℕ). bit_of y (l % 64)) (K.same (from + k * words + l / 64)
    (⊎_elim (λ x. inl (omega arith)) (λ x. inr (omega arith)) a) (⊎_elim (λ x. inl (omega arith)) (λ x. inr (omega arith)) b))

-- ---- flowed

module _ (over : Over) (es : List Edge) (g : Grid) (n e out : ℕ) (w₀ w₁ : List ℕ) (L : Laid g n e w₀) (low : g.touched + n * g.words ≤ out) (fits : out + n * g.words ≤ length w₀)
    (N : Neighbours (way_of over es) n e g.base w₀ w₁) where
  abbrev f : Flow
  f = record { n = n; at = g.base + e + e; base = g.tarjan; words = g.words; touched = g.touched; out = out }

  pub walkable : Walkable n (g.base + e + e) g.tarjan w₁
  walkable = record { edges = way_of over es; between = N.between; rows = N.rows; below = omega (arith, N.count, L.edges_fit); room = omega (arith, N.kept.len, L.tarjan_fits) }

  module _ {w₂ : List ℕ} {count : ℕ} (F : Found n (g.base + e + e) g.tarjan w₁ w₂ count) where
    rows₂ : EdgeRows (way_of over es) n (g.base + e + e) w₂
    rows₂ = rows_moved N.between (omega (arith, N.count, L.edges_fit)) (λ i h. F.kept.below i h) N.rows

    pub flow_laid : FlowLaid f w₂
    flow_laid = record {
      rising = rows₂.rising;
      rows_fit = λ u h. omega (arith, rows₂.ends u h, N.count, L.edges_fit);
      below = omega (arith, L.edges_fit);
      nodes = λ u k h a b. N.between.to _ (rows₂.only u k h a b);
      listed = F.order.listed;
      base_fits = omega (arith, L.tarjan_fits);
      out_fits = omega (arith, N.kept.len, F.kept.len);
      touched_fits = omega (arith, N.kept.len, F.kept.len);
      apart = inl low;
    }

    module _ {w₃ : List ℕ} (X : Flowed f w₂ w₃) where
      below : (i : ℕ) → i < out → get_or w₃ i 0 ≡ get_or w₂ i 0
      below i h = X.kept.below i h

      touched_is : (k l : ℕ) → k < n → l < g.words * 64 → row_bit g g.touched w₂ k l ≡ row_bit g g.touched w₀ k l
      touched_is k l h m =
          let r = row_before k n g.words h in
          ap (λ (y : ℕ). bit_of y (l % 64)) (F.kept.past (g.touched + k * g.words + l / 64) (omega (arith, L.tarjan_fits)) ∙ N.kept.past (g.touched + k * g.words + l / 64) (omega (arith, L.tarjan_fits, L.edges_fit)))

      kept : (i : ℕ) → (i < g.base) ⊎ (g.tarjan + n + n + n + n + n + n ≤ i) → (i < out) ⊎ (out + n * g.words ≤ i) → get_or w₃ i 0 ≡ get_or w₀ i 0
      kept i a b =
          ⊎_elim (λ x. X.kept.below i x) (λ x. X.kept.past i x) b
          ∙ ⊎_elim (λ x. F.kept.below i (omega (arith, L.edges_fit)) ∙ N.kept.below i x) (λ x. F.kept.past i x ∙ N.kept.past i (omega (arith, L.edges_fit))) a

      pub flowed_over : FlowedOver over es g n e out w₀ w₃
      flowed_over = record {
        kept = record { len = X.kept.len ∙ F.kept.len ∙ N.kept.len; same = kept };
        between = N.between;
        count = N.count;
        rows = rows_moved N.between (omega (arith, N.count, L.edges_fit, L.tarjan_fits)) below rows₂;
        bits = λ k l h m.
            let r = X.bits (way_of over es) count N.between rows₂ (F.components (way_of over es) N.between N.rows) k l h m in
            let t = flows_as over es (λ j. row_bit g g.touched w₀ j l) k in (
              (λ o. t.0 (reaching_as N.between (λ j a. touched_is j l a m) (r.0 o))),
              (λ o. r.1 (reaching_as N.between (λ j a. sym (touched_is j l a m)) (t.1 o))),
            );
      }

-- ---- spread

module _ (g : Grid) (n e : ℕ) (w₀ : List ℕ) (L : Laid g n e w₀) (K : Linked g n e w₀) where
  pub orderable : Orderable n (g.base + e + e) g.tarjan w₀
  orderable = record {
    edges = K.edges;
    between = K.between;
    rows = K.rows;
    below = omega (arith, L.edges_fit, K.count);
    room = omega (arith, L.tarjan_fits, L.touched_fits, L.leaves_fit, L.passes_fit, L.written_fits, L.read_fits, L.wait_fits, L.to_fits);
  }

  abbrev s : Layout
  s = record { n = n; at = g.base + e + e; order = g.tarjan; rank = g.tarjan + n; words = g.words; leaves = g.leaves; passes = g.passes; wait = g.wait }

  module _ {w₁ : List ℕ} (P : Ordered n (g.base + e + e) g.tarjan w₀ w₁) where
    moved : (es : List Edge) → Between n es → length es ≡ e → EdgeRows es n (g.base + e + e) w₀ → EdgeRows es n (g.base + e + e) w₁
    moved es B c R = rows_moved B (omega (arith, L.edges_fit)) (λ i h. P.kept.below i h) R

    rows₁ : EdgeRows K.edges n (g.base + e + e) w₁
    rows₁ = moved K.edges K.between K.count K.rows

    order_is : Settling K.edges n (λ i. get_or w₁ (g.tarjan + i) 0)
    order_is = P.settling K.edges K.between K.rows

    -- the place of a rank, and the rank of a place
    ranked_at : (v : ℕ) → v < n → (i : ℕ) × (i < n) × (get_or w₁ (g.tarjan + i) 0 ≡ v) × (get_or w₁ (g.tarjan + n + v) 0 ≡ i)
    ranked_at v h =
        let (i, a, b) = order_is.every v h in
        (i, a, b, ap (λ (y : ℕ). get_or w₁ (g.tarjan + n + y) 0) (sym b) ∙ P.ranks i a)

    pub spread_laid : SpreadLaid s w₁
    spread_laid = record {
      few = L.few;
      rising = rows₁.rising;
      rows_fit = λ u h. omega (arith, rows₁.ends u h, K.count, L.edges_fit, L.tarjan_fits, L.touched_fits, L.leaves_fit, L.passes_fit, L.written_fits, L.read_fits);
      below = omega (arith, L.edges_fit, L.tarjan_fits, L.touched_fits, L.leaves_fit, L.passes_fit, L.written_fits, L.read_fits);
      nodes = λ u k h a b. K.between.to _ (rows₁.only u k h a b);
      order_fits = omega (arith, L.tarjan_fits, L.touched_fits, L.leaves_fit, L.passes_fit, L.written_fits, L.read_fits);
      rank_fits = omega (arith, L.tarjan_fits, L.touched_fits, L.leaves_fit, L.passes_fit, L.written_fits, L.read_fits);
      leaves_fit = omega (arith, L.leaves_fit, L.passes_fit, L.written_fits, L.read_fits);
      passes_fit = omega (arith, L.passes_fit, L.written_fits, L.read_fits);
      out_fits = omega (arith, L.wait_fits, L.to_fits, P.kept.len);
      placed = order_is.listed;
      ranked = λ v h. let r = ranked_at v h in omega (arith, r.1, r.3);
      rank_of_lem = P.ranks;
      order_of_lem = λ v h. let r = ranked_at v h in ap (λ (y : ℕ). get_or w₁ (g.tarjan + y) 0) r.3 ∙ r.2;
    }

    module _ {w₂ : List ℕ} (X : Arrived s w₁ w₂) where
      -- the rows lent stand past the order
      lent : (from k l : ℕ) → g.tarjan + n + n + n + n ≤ from → k < n → l < g.words * 64 → row_bit g from w₁ k l ≡ row_bit g from w₀ k l
      lent from k l a h m = ap (λ (y : ℕ). bit_of y (l % 64)) (P.kept.past (from + k * g.words + l / 64) (omega arith))

      pub arrived_at : ArrivedAt g n e w₀ w₂
      arrived_at = record {
        kept = record {
          len = X.kept.len ∙ P.kept.len;
          same = λ i a b. ⊎_elim (λ x. X.kept.below i x) (λ x. X.kept.past i x) b ∙ ⊎_elim (λ x. P.kept.below i x) (λ x. P.kept.past i x) a;
        };
        bits = λ es B c R k l h m.
            let r = X.bits es B (moved es B c R) k l h m in
            let u : g.tarjan + n + n + n + n ≤ g.leaves = omega (arith, L.tarjan_fits, L.touched_fits) in
            let v : g.tarjan + n + n + n + n ≤ g.passes = omega (arith, L.tarjan_fits, L.touched_fits, L.leaves_fit) in (
              (λ o. arrives_as es B (λ j a. lent g.leaves j l u a m) (λ j a. lent g.passes j l v a m) (r.0 o)),
              (λ o. r.1 (arrives_as es B (λ j a. sym (lent g.leaves j l u a m)) (λ j a. sym (lent g.passes j l v a m)) o)),
            );
      }

-- ---- the three one after another

module _ (es : List Edge) (g : Grid) (n e : ℕ) {w₀ w₁ w₂ : List ℕ} (L : Laid g n e w₀) (A : FlowedOver Predecessors es g n e g.written w₀ w₁) (B : FlowedOver Successors es g n e g.read w₁ w₂) where
  pub linked : Linked g n e w₂
  linked = record { edges = es; between = B.between; count = B.count; rows = B.rows }

  touched_bit_lem : (k l : ℕ) → k < n → l < g.words * 64 → row_bit g g.touched w₁ k l ≡ row_bit g g.touched w₀ k l
  touched_bit_lem = bit_outside g.touched n g.words A.kept (inr L.tarjan_fits) (inl (omega (arith, L.touched_fits, L.leaves_fit, L.passes_fit)))

  lent_bit : (from : ℕ) → g.tarjan + n + n + n + n + n + n ≤ from → from + n * g.words ≤ g.written → (k l : ℕ) → k < n → l < g.words * 64 → row_bit g from w₂ k l ≡ row_bit g from w₀ k l
  lent_bit from x y k l h m =
      bit_outside from n g.words B.kept (inr x) (inl (omega (arith, L.written_fits))) k l h m
      ∙ bit_outside from n g.words A.kept (inr x) (inl y) k l h m

  module _ {w₃ : List ℕ} (C : ArrivedAt g n e w₂ w₃) where
    all_kept : (i : ℕ) → (i < g.base) ⊎ (g.tarjan + n + n + n + n + n + n ≤ i) → (i < g.written) ⊎ (arriving g n + n * g.words ≤ i) → get_or w₃ i 0 ≡ get_or w₀ i 0
    all_kept i a b =
        C.kept.same i (⊎_elim (λ x. inl (omega (arith, L.edges_fit))) (λ x. inr (omega arith)) a) (⊎_elim (λ x. inl (omega (arith, L.written_fits, L.read_fits))) (λ x. inr x) b)
        ∙ B.kept.same i a (⊎_elim (λ x. inl (omega (arith, L.written_fits))) (λ x. inr (omega (arith, L.read_fits))) b)
        ∙ A.kept.same i a (⊎_elim (λ x. inl x) (λ x. inr (omega (arith, L.written_fits, L.read_fits))) b)

    pub flowing : Flowing es g n w₀ w₃
    flowing = record {
      kept = record { len = C.kept.len ∙ B.kept.len ∙ A.kept.len; same = all_kept };
      between = B.between;
      written = λ k l h m.
          bit_outside g.written n g.words C.kept (inr (omega (arith, L.tarjan_fits, L.touched_fits, L.leaves_fit, L.passes_fit))) (inl (omega (arith, L.written_fits, L.read_fits))) k l h m
          ∙ bit_outside g.written n g.words B.kept (inr (omega (arith, L.tarjan_fits, L.touched_fits, L.leaves_fit, L.passes_fit))) (inl L.written_fits) k l h m
          ∙ both_ways _ _ (A.bits k l h m) (reached es n B.between (λ j. row_bit g g.touched w₀ j l) k);
      read = λ k l h m.
          let r = B.bits k l h m in
          bit_outside g.read n g.words C.kept (inr (omega (arith, L.tarjan_fits, L.touched_fits, L.leaves_fit, L.passes_fit, L.written_fits))) (inl L.read_fits) k l h m
          ∙ both_ways _ _ (
            (λ o. reaching_as B.between (λ j a. touched_bit_lem j l a m) (r.0 o)),
            (λ o. r.1 (reaching_as B.between (λ j a. sym (touched_bit_lem j l a m)) o)),
          ) (reaching es n B.between (λ j. row_bit g g.touched w₀ j l) k);
      arrives = λ k l h m.
          let r = C.bits es B.between B.count B.rows k l h m in
          let u = lent_bit g.leaves (omega (arith, L.tarjan_fits, L.touched_fits)) (omega (arith, L.leaves_fit, L.passes_fit)) in
          let v = lent_bit g.passes (omega (arith, L.tarjan_fits, L.touched_fits, L.leaves_fit)) L.passes_fit in
          both_ways _ _ (
            (λ o. arrives_as es B.between (λ j a. u j l a m) (λ j a. v j l a m) (r.0 o)),
            (λ o. r.1 (arrives_as es B.between (λ j a. sym (u j l a m)) (λ j a. sym (v j l a m)) o)),
          ) (arriving-row es n B.between (λ j. row_bit g g.leaves w₀ j l) (λ j. row_bit g g.passes w₀ j l) k);
    }

-- Rows by rounds are the rows by paths, both ways, for any graph; as many rounds as there are blocks are enough, and one more changes nothing.
use Prim.Native.Nat.{ℕ, zero, suc, ◌+◌, ◌≤◌, ◌<◌}
use native.Mathlib.Omega.{arith}
use native.Mathlib.Decide.{ℕ_discrete, dec_le}
use mathlib.Core.Path.{◌≡◌, refl, ap, sym, ◌∙◌}
use mathlib.Core.Logic.{◌⊎◌, inl, inr, ◌↔◌}
use mathlib.Core.Bool.{Bool, true, false, ◌&&◌, ◌||◌, false≢true}
use mathlib.Core.List.Memᴰ
use mathlib.Core.List.{List, [], ◌∷◌, Memᴰ}
use lib.Dec.{eqb}
use borrow.Author.Tests.{eq-eqb, eqb-true}
use Rattle.words.proofs.Bools.{or_right, and_both, or_cases, or_left, and_pair, both_ways}
use Rattle.graph.specs.Paths.{Edge, edge, Link, Route, one, more, turned, Between}
use Rattle.graph.specs.Flow.{Reached, Reaching, Arrives, left, passed}
use Rattle.graph.specs.Rounds.{brings, fed, round, reached_row, reaching_row, arriving_row}

pub last_or_less : (m n : ℕ) → m < suc n → (m ≡ n) ⊎ (m < n)
last_or_less m n h = elim (ℕ_discrete m n) [ yes e ↦ inl e | no d ↦ inr (omega arith) ]

-- ---- counting the bits of a row

-- a row has all the bits of another, at the first n places
abbrev pub Below : ℕ → (ℕ → Bool) → (ℕ → Bool) → Type 0
Below n r s = (k : ℕ) → k < n → r k ≡ true → s k ≡ true

abbrev bit : Bool → ℕ
bit true = 1
bit false = 0

unfoldable pub count : ℕ → (ℕ → Bool) → ℕ
count zero r = 0
count (suc n) r = bit (r n) + count n r

bit_one : (t : Bool) → bit t ≤ 1
bit_one true = omega arith
bit_one false = omega arith

pub count_le : (n : ℕ) (r : ℕ → Bool) → count n r ≤ n
unfolding count
count_le zero r = omega arith
count_le (suc n) r = omega (arith, bit_one (r n), count_le n r)

bit_le : (s t : Bool) → (s ≡ true → t ≡ true) → bit s ≤ bit t
bit_le true true f = omega arith
bit_le true false f = absurd (false≢true (f refl))
bit_le false t f = omega arith

pub count_mono : (n : ℕ) (r s : ℕ → Bool) → Below n r s → count n r ≤ count n s
unfolding count
count_mono zero r s b = omega arith
count_mono (suc n) r s b = omega (arith, bit_le (r n) (s n) (b n (omega arith)), count_mono n r s (λ k h. b k (omega arith)))

-- with as many bits it has no more
pub count_same : (n : ℕ) (r s : ℕ → Bool) → Below n r s → count n s ≤ count n r → Below n s r
unfolding count
count_same zero r s b h k l e = absurd (omega arith)
count_same (suc n) r s b h k l e = go (last_or_less k n l) (count_same n r s (λ j m. b j (omega arith)))
  where
    low : Below n r s
    low k l = b k (omega arith)

    last : (t u : Bool) → (t ≡ true → u ≡ true) → bit u + count n s ≤ bit t + count n r → u ≡ true → t ≡ true
    last true u f h e = refl
    last false true f h e = absurd (omega (arith, count_mono n r s low))
    last false false f h e = e

    go : (k ≡ n) ⊎ (k < n) → (count n s ≤ count n r → Below n s r) → r k ≡ true
    go (inl z) ih = rw z (last (r n) (s n) (b n (omega arith)) h (rw z at e))
    go (inr m) ih = ih (omega (arith, bit_le (r n) (s n) (b n (omega arith)))) k m e

-- a row with one bit more has a higher count
pub count_more : (n : ℕ) (r s : ℕ → Bool) → Below n r s → (j : ℕ) → j < n → r j ≡ false → s j ≡ true → suc (count n r) ≤ count n s
count_more n r s b j h f t = elim (dec_le (suc (count n r)) (count n s))
    [ yes l ↦ l | no l ↦ absurd (false≢true (sym f ∙ count_same n r s b (omega arith) j h t)) ]

-- ---- rounds

module _ (leaves passes : ℕ → Bool) where
  brings_mono : (r s : ℕ → Bool) (d : Edge) → (r d.src ≡ true → s d.src ≡ true) → brings leaves passes r d ≡ true → brings leaves passes s d ≡ true
  brings_mono r s d f h = go (or_cases (leaves d.src) (r d.src && passes d.src) h)
    where
      go : (leaves d.src ≡ true) ⊎ (r d.src && passes d.src ≡ true) → brings leaves passes s d ≡ true
      go (inl p) = or_left (leaves d.src) (s d.src && passes d.src) p
      go (inr p) =
          let (x, y) = and_both (r d.src) (passes d.src) p in
          or_right (leaves d.src) (s d.src && passes d.src) (and_pair (s d.src) (passes d.src) (f x) y)

  -- what feeds a place is an edge to it that brings the bit
  pub fed_edge : (r : ℕ → Bool) (es : List Edge) (k : ℕ) → fed leaves passes es r k ≡ true
      → (d : Edge) × Memᴰ d es × (d.dst ≡ k) × (brings leaves passes r d ≡ true)
  unfolding fed
  fed_edge r [] k e = absurd (false≢true e)
  fed_edge r (c ∷ es) k e = go (or_cases (eqb c.dst k && brings leaves passes r c) (fed leaves passes es r k) e) (fed_edge r es k)
    where
      go : (eqb c.dst k && brings leaves passes r c ≡ true) ⊎ (fed leaves passes es r k ≡ true)
          → (fed leaves passes es r k ≡ true → (d : Edge) × Memᴰ d es × (d.dst ≡ k) × (brings leaves passes r d ≡ true))
          → (d : Edge) × Memᴰ d (c ∷ es) × (d.dst ≡ k) × (brings leaves passes r d ≡ true)
      go (inl p) ih =
          let (x, y) = and_both (eqb c.dst k) (brings leaves passes r c) p in
          (c, Memᴰ.head refl, eqb-true _ _ x, y)
      go (inr p) ih =
          let (d, m, x, y) = ih p in
          (d, Memᴰ.tail m, x, y)

  pub edge_fed : (r : ℕ → Bool) (es : List Edge) (d : Edge) → Memᴰ d es → brings leaves passes r d ≡ true → fed leaves passes es r d.dst ≡ true
  unfolding fed
  edge_fed r [] d m h = absurd (Memᴰ.not-nil m)
  edge_fed r (c ∷ es) d m h = go (Memᴰ.cases_cons m) (edge_fed r es d)
    where
      go : (d ≡ c) ⊎ Memᴰ d es → (Memᴰ d es → brings leaves passes r d ≡ true → fed leaves passes es r d.dst ≡ true)
          → eqb c.dst d.dst && brings leaves passes r c || fed leaves passes es r d.dst ≡ true
      go (inl z) ih =
          rw (← z) (or_left (eqb d.dst d.dst && brings leaves passes r d) (fed leaves passes es r d.dst)
          (and_pair (eqb d.dst d.dst) (brings leaves passes r d) (eq-eqb d.dst d.dst refl) h))
      go (inr n) ih = or_right (eqb c.dst d.dst && brings leaves passes r c) (fed leaves passes es r d.dst) (ih n h)

  fed_mono : (n : ℕ) (r s : ℕ → Bool) → Below n r s → (es : List Edge) → ((e : Edge) → Memᴰ e es → e.src < n)
      → (k : ℕ) → fed leaves passes es r k ≡ true → fed leaves passes es s k ≡ true
  fed_mono n r s b es f k e =
      let (d, m, x, y) = fed_edge r es k e in
      rw x at (edge_fed s es d m (brings_mono r s d (b d.src (f d m)) y))

  module _ (es : List Edge) (size : ℕ) (B : Between size es) where
    rises : (n : ℕ) → Below size (round es leaves passes n) (round es leaves passes (suc n))
    unfolding round
    rises zero k h e = absurd (false≢true e)
    rises (suc n) k h e = fed_mono size (round es leaves passes n) (round es leaves passes (suc n)) (rises n) es B.from k e

    -- from a round that changed nothing on, nothing changes
    abbrev Still : ℕ → Type 0
    Still n = Below size (round es leaves passes (suc n)) (round es leaves passes n)

    still_on : (n : ℕ) → Still n → Still (suc n)
    unfolding round
    still_on n s k h e = fed_mono size (round es leaves passes (suc n)) (round es leaves passes n) s es B.from k e

    -- a round adds a bit, or nothing changes any more
    climbs : (n : ℕ) → Still n ⊎ (n ≤ count size (round es leaves passes n))
    climbs zero = inr (omega arith)
    climbs (suc n) = go (climbs n)
      where
        go : Still n ⊎ (n ≤ count size (round es leaves passes n)) → Still (suc n) ⊎ (suc n ≤ count size (round es leaves passes (suc n)))
        go (inl s) = inl (still_on n s)
        go (inr h) = elim (dec_le (count size (round es leaves passes (suc n))) (count size (round es leaves passes n))) [
          | yes l ↦ inl (still_on n (count_same size (round es leaves passes n) (round es leaves passes (suc n)) (rises n) l))
          | no l ↦ inr (omega arith)
        ]

    -- as many rounds as blocks are enough
    still : Still size
    still = go (climbs size)
      where
        go : Still size ⊎ (size ≤ count size (round es leaves passes size)) → Still size
        go (inl s) = s
        go (inr h) =
            count_same size (round es leaves passes size) (round es leaves passes (suc size)) (rises size)
            (omega (arith, count_le size (round es leaves passes (suc size))))

    -- the bit of a row that an edge brings, at any place
    pub closed : (j k : ℕ) → Link es j k → leaves j || round es leaves passes size j && passes j ≡ true → round es leaves passes size k ≡ true
    unfolding round
    closed j k m e = still k (B.to (edge j k) m) (edge_fed (round es leaves passes size) es (edge j k) m e)

    -- "the first round that changes no bit is the last": rounds beyond the block count change nothing
    pub settled : (k : ℕ) → round es leaves passes (suc size) k ≡ round es leaves passes size k
    unfolding round
    settled k = both_ways _ _ down up
      where
        down : round es leaves passes (suc size) k ≡ true → round es leaves passes size k ≡ true
        down e =
            let (d, m, x, y) = fed_edge (round es leaves passes size) es k e in
            rw x at (closed d.src d.dst m y)

        up : round es leaves passes size k ≡ true → round es leaves passes (suc size) k ≡ true
        up e = rise size e
          where
            rise : (n : ℕ) → round es leaves passes n k ≡ true → round es leaves passes (suc n) k ≡ true
            rise zero e = absurd (false≢true e)
            rise (suc n) e = fed_mono size (round es leaves passes n) (round es leaves passes (suc n)) (rises n) es B.from k e

    -- ---- `spread`

    pub arrives_round : (k : ℕ) → Arrives es leaves passes k → round es leaves passes size k ≡ true
    arrives_round k (left {j} l h) = closed j k l (or_left (leaves j) _ h)
    arrives_round k (passed {j} l a p) =
        closed j k l (or_right (leaves j) _ (and_pair (round es leaves passes size j) (passes j) (arrives_round j a) p))

  pub round_arrives : (es : List Edge) (n k : ℕ) → round es leaves passes n k ≡ true → Arrives es leaves passes k
  unfolding round
  round_arrives es zero k e = absurd (false≢true e)
  round_arrives es (suc n) k e =
      let (d, m, x, y) = fed_edge (round es leaves passes n) es k e in
      rw x at (go d m (or_cases (leaves d.src) _ y) (round_arrives es n d.src))
    where
      go : (d : Edge) → Memᴰ d es → (leaves d.src ≡ true) ⊎ (round es leaves passes n d.src && passes d.src ≡ true)
          → (round es leaves passes n d.src ≡ true → Arrives es leaves passes d.src) → Arrives es leaves passes d.dst
      go d m (inl h) ih = left m h
      go d m (inr h) ih =
          let (x, y) = and_both (round es leaves passes n d.src) (passes d.src) h in
          passed m (ih x) y

-- `spread` by rounds is `spread` by paths
pub arriving : (es : List Edge) (n : ℕ) → Between n es → (leaves passes : ℕ → Bool) (k : ℕ)
    → (arriving_row n es leaves passes k ≡ true) ↔ Arrives es leaves passes k
arriving es n B leaves passes k = (round_arrives leaves passes es n k, arrives_round leaves passes es n B k)

-- ---- `flowed`: what nothing stops arrives exactly where a path leads

module _ (es : List Edge) (touched : ℕ → Bool) where
  reached_arrives : {j k : ℕ} → touched j ≡ true → Route es j k → Arrives es touched (λ i. true) k
  reached_arrives t (one l) = left l t
  reached_arrives t (more r l) = passed l (reached_arrives t r) refl

  arrives_reached : {k : ℕ} → Arrives es touched (λ i. true) k → Reached es touched k
  arrives_reached (left {j} l h) = (j, h, one l)
  arrives_reached (passed l a p) =
      let (j, t, r) = arrives_reached a in
      (j, t, more r l)

-- over predecessors
pub reached : (es : List Edge) (n : ℕ) → Between n es → (touched : ℕ → Bool) (k : ℕ) → (reached_row n es touched k ≡ true) ↔ Reached es touched k
reached es n B touched k = (
  λ e. arrives_reached es touched (round_arrives touched (λ i. true) es n k e),
  λ r. arrives_round touched (λ i. true) es n B k (reached_arrives es touched r.1 r.2),
)

-- ---- the edges the other way round

pub turned_link : (es : List Edge) {j k : ℕ} → Link es j k → Link (turned es) k j
turned_link [] m = absurd (Memᴰ.not-nil m)
turned_link (e ∷ es) {j} {k} m = go (Memᴰ.cases_cons m) (turned_link es)
  where
    go : (edge j k ≡ e) ⊎ Memᴰ (edge j k) es → (Memᴰ (edge j k) es → Memᴰ (edge k j) (turned es)) → Memᴰ (edge k j) (edge e.dst e.src ∷ turned es)
    go (inl z) ih = Memᴰ.head (ap (λ (d : Edge). edge d.dst d.src) z)
    go (inr n) ih = Memᴰ.tail (ih n)

pub link_turned : (es : List Edge) {j k : ℕ} → Link (turned es) k j → Link es j k
link_turned [] m = absurd (Memᴰ.not-nil m)
link_turned (e ∷ es) {j} {k} m = go (Memᴰ.cases_cons m) (link_turned es)
  where
    go : (edge k j ≡ edge e.dst e.src) ⊎ Memᴰ (edge k j) (turned es) → (Memᴰ (edge k j) (turned es) → Memᴰ (edge j k) es) → Memᴰ (edge j k) (e ∷ es)
    go (inl z) ih = Memᴰ.head (ap (λ (d : Edge). edge d.dst d.src) z)
    go (inr n) ih = Memᴰ.tail (ih n)

pub turned_between : (n : ℕ) (es : List Edge) → Between n es → Between n (turned es)
turned_between n es B = record {
  from = λ e m. B.to (edge e.dst e.src) (link_turned es m);
  to = λ e m. B.from (edge e.dst e.src) (link_turned es m);
}

-- a path with an edge in front
pub cons_route : {es : List Edge} {j k l : ℕ} → Link es j k → Route es k l → Route es j l
cons_route a (one b) = more (one a) b
cons_route a (more r b) = more (cons_route a r) b

pub turned_route : (es : List Edge) {j k : ℕ} → Route es j k → Route (turned es) k j
turned_route es (one l) = one (turned_link es l)
turned_route es (more r l) = cons_route (turned_link es l) (turned_route es r)

pub route_turned : (es : List Edge) {j k : ℕ} → Route (turned es) k j → Route es j k
route_turned es (one l) = one (link_turned es l)
route_turned es (more r l) = cons_route (link_turned es l) (route_turned es r)

-- over successors
pub reaching : (es : List Edge) (n : ℕ) → Between n es → (touched : ℕ → Bool) (k : ℕ) → (reaching_row n es touched k ≡ true) ↔ Reaching es touched k
reaching es n B touched k =
    let r = reached (turned es) n (turned_between n es B) touched k in
    (λ e. let (l, t, p) = r.0 e in (l, t, route_turned es p), λ p. r.1 (p.0, p.1, turned_route es p.2))

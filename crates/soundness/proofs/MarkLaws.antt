-- What a mark tells, for any tests of writing and of emptying.
use mathlib.Core.Path.{◌≡◌, refl, sym, ◌∙◌}
use mathlib.Core.Logic.{◌⊎◌, inl, inr}
use mathlib.Core.Bool.{Bool, true, false, cond, false≢true}
use mathlib.Core.Option.{Option, some, none, none-ne-some, some-injective}
use Prim.Native.Nat.{ℕ, zero, suc, ◌<◌}
use native.Mathlib.Omega.{arith}
use borrow.Author.Tests.{eqb-true, eq-eqb}
use Rattle.words.proofs.Bools.{and_both}
use Rattle.graph.proofs.RoundLaws.{last_or_less}
use Rattle.soundness.specs.Walks.{Step, next, over, read, write, mark, wrote}

-- what holds at all places between q and n holds between q and n + 1, if it holds at n
pub grow : (P : ℕ → Type 0) (q n : ℕ) → P n → ((m : ℕ) → q < m → m < n → P m) → (m : ℕ) → q < m → m < suc n → P m
grow P q n now h m a b = go (last_or_less m n b)
  where
    go : (m ≡ n) ⊎ (m < n) → P m
    go (inl e) = rw e now
    go (inr c) = h m a c

module _ (f g : ℕ → Bool) where
  -- q is the last place before n that wrote, and nothing emptied since
  pub record Last (n q : ℕ) : Type 0 where
    pub before : q < n
    pub wrote_it : f q ≡ true
    pub sole : (m : ℕ) → q < m → m < n → f m ≡ false
    pub still : (m : ℕ) → q < m → m < n → g m ≡ false

  pub mark_last : (n q : ℕ) → mark f g n ≡ some q → Last n q
  unfolding mark
  mark_last zero q e = absurd (none-ne-some q e)
  mark_last (suc n) q e = go (f n) (g n) refl refl e (mark_last n q)
    where
      go : (t u : Bool) → f n ≡ t → g n ≡ u → cond t (some n) (cond u none (mark f g n)) ≡ some q
          → (mark f g n ≡ some q → Last n q) → Last (suc n) q
      go true u a b e ih =
          let z : n ≡ q = some-injective n q e in
          record {
            before = omega arith;
            wrote_it = rw (← z) a;
            sole = λ m h k. absurd (omega arith);
            still = λ m h k. absurd (omega arith);
          }
      go false true a b e ih = absurd (none-ne-some q e)
      go false false a b e ih =
          let r : Last n q = ih e in
          record {
            before = omega arith;
            wrote_it = r.wrote_it;
            sole = grow (λ m. f m ≡ false) q n a r.sole;
            still = grow (λ m. g m ≡ false) q n b r.still;
          }

  pub last_mark : (n q : ℕ) → Last n q → mark f g n ≡ some q
  unfolding mark
  last_mark zero q r = absurd (omega arith)
  last_mark (suc n) q r = go (last_or_less q n r.before) (last_mark n q)
    where
      go : (q ≡ n) ⊎ (q < n) → (Last n q → mark f g n ≡ some q) → mark f g (suc n) ≡ some q
      go (inl e) ih =
          let t : f n ≡ true = rw (← e) r.wrote_it in
          rw (t, e)
      go (inr h) ih =
          let a : f n ≡ false = r.sole n h (omega arith) in
          let b : g n ≡ false = r.still n h (omega arith) in
          rw (a, b) (ih (record {
            before = h;
            wrote_it = r.wrote_it;
            sole = λ m x y. r.sole m x (omega arith);
            still = λ m x y. r.still m x (omega arith);
          }))

  -- a place that wrote, with nothing emptied since, leaves some mark
  pub mark_there : (n q : ℕ) → q < n → f q ≡ true → ((m : ℕ) → q < m → m < n → g m ≡ false) → (r : ℕ) × (mark f g n ≡ some r)
  unfolding mark
  mark_there zero q h t s = absurd (omega arith)
  mark_there (suc n) q h t s = go (f n) refl (last_or_less q n h) (mark_there n q)
    where
      go : (u : Bool) → f n ≡ u → (q ≡ n) ⊎ (q < n)
          → (q < n → f q ≡ true → ((m : ℕ) → q < m → m < n → g m ≡ false) → (r : ℕ) × (mark f g n ≡ some r))
          → (r : ℕ) × (mark f g (suc n) ≡ some r)
      go true e c ih = (n, rw e)
      go false e (inl z) ih = absurd (false≢true (sym e ∙ rw (← z) t))
      go false e (inr k) ih =
          let b : g n ≡ false = s n k (omega arith) in
          rw (e, b) (ih k t (λ m x y. s m x (omega arith)))

  -- no place that wrote leaves no mark
  pub mark_none : (n : ℕ) → ((m : ℕ) → m < n → f m ≡ false) → mark f g n ≡ none
  unfolding mark
  mark_none zero h = refl
  mark_none (suc n) h = go (g n) refl (mark_none n (λ m k. h m (omega arith)))
    where
      go : (u : Bool) → g n ≡ u → mark f g n ≡ none → mark f g (suc n) ≡ none
      go true e ih = rw (h n (omega arith), e)
      go false e ih = rw (h n (omega arith), e) ih

-- the test of a step
module _ (unit : ℕ → ℕ) where
  pub wrote_true : (s : Option Step) (c b : ℕ) → wrote unit s c b ≡ true → (j : ℕ) × (s ≡ some (write j b)) × (unit j ≡ c)
  wrote_true none c b e = absurd (false≢true e)
  wrote_true (some next) c b e = absurd (false≢true e)
  wrote_true (some (over k)) c b e = absurd (false≢true e)
  wrote_true (some (read j d)) c b e = absurd (false≢true e)
  wrote_true (some (write j d)) c b e =
      let h = and_both _ _ e in
      (j, rw (eqb-true d b h.1), eqb-true (unit j) c h.0)

  pub wrote_it : (s : Option Step) (j b : ℕ) → s ≡ some (write j b) → wrote unit s (unit j) b ≡ true
  wrote_it s j b e = rw (e, eq-eqb (unit j) (unit j) refl, eq-eqb b b refl)

-- an item as its own unit
pub wrote_own : (s : Option Step) (i b : ℕ) → wrote (λ j. j) s i b ≡ true → s ≡ some (write i b)
wrote_own s i b e =
    let (j, z, q) = wrote_true (λ j. j) s i b e in
    rw q at z

-- Cases on numbers, functions with one value changed, and counts.
-- Assumes nothing.
use mathlib.Core.Path.{◌≡◌, refl, sym, ap}
use mathlib.Core.Logic.{◌≢◌}
use Prim.Native.Nat.{ℕ, zero, suc, ◌+◌, ◌-◌, ◌≤◌, ◌<◌}
use native.Mathlib.Nat.{lt_of_not-le}
use native.Mathlib.Decide.{dec_le, ℕ_discrete}
use native.Mathlib.Omega.{arith}
use Rattle.words.proofs.Points.{same}
use Rattle.tarjan.specs.Inner.Walk.{one, seen}
use Rattle.tarjan.specs.Inner.Moves.{pick, upd, shut_at, pasted}

pub upd_case : (P : ℕ → Type 0) (f : ℕ → ℕ) (i x j : ℕ) → (j ≡ i → P x) → (j ≢ i → P (f j)) → P (upd f i x j)
unfolding upd
upd_case P f i x j a b = go (ℕ_discrete j i)
  where
    go : (t : Dec (j ≡ i)) → P (pick t x (f j))
    go (yes h) = a h
    go (no h) = b h

pub upd_at : (f : ℕ → ℕ) (i x j : ℕ) → j ≡ i → upd f i x j ≡ x
upd_at f i x j e = upd_case (λ y. y ≡ x) f i x j (λ _. refl) (λ h. absurd (h e))

pub upd_off : (f : ℕ → ℕ) (i x j : ℕ) → j ≢ i → upd f i x j ≡ f j
upd_off f i x j e = upd_case (λ y. y ≡ f j) f i x j (λ h. absurd (e h)) (λ _. refl)

pub shut_case : (P : ℕ → Type 0) (n p x : ℕ) (f : ℕ → ℕ) (j : ℕ) → (p < f j → f j ≤ n → P x) → (f j ≤ p → P (f j)) → (n < f j → P (f j)) → P (shut_at n p x f j)
unfolding shut_at
shut_case P n p x f j a b c = go (dec_le (f j) p) (dec_le (f j) n)
  where
    go : (t : Dec (f j ≤ p)) (u : Dec (f j ≤ n)) → P (pick t (f j) (pick u x (f j)))
    go (yes h) u = b h
    go (no h) (yes k) = a (lt_of_not-le h) k
    go (no h) (no k) = c (lt_of_not-le k)

-- ---- counts
one_le : (x : ℕ) → one x ≤ 1
one_le zero = omega arith
one_le (suc x) = omega arith

pub one_pos : (x : ℕ) → 0 < x → one x ≡ 1
one_pos zero h = absurd (omega arith)
one_pos (suc x) h = refl

one_mono : (x y : ℕ) → (0 < x → 0 < y) → one x ≤ one y
one_mono zero y f = omega arith
one_mono (suc x) y f = omega (arith, one_pos y (f (omega arith)))

pub seen_mono : (m : ℕ) (f g : ℕ → ℕ) → ((v : ℕ) → v < m → 0 < f v → 0 < g v) → seen m f ≤ seen m g
unfolding seen
seen_mono zero f g h = omega arith
seen_mono (suc m) f g h = omega (arith, one_mono (f m) (g m) (h m (omega arith)), seen_mono m f g (λ v l. h v (omega arith)))

pub seen_more : (m : ℕ) (f g : ℕ → ℕ) (v : ℕ) → ((v : ℕ) → v < m → 0 < f v → 0 < g v) → v < m → f v ≡ 0 → 0 < g v → seen m f < seen m g
unfolding seen
seen_more zero f g v h l a b = absurd (omega arith)
seen_more (suc m) f g v h l a b =
    same v m
    (λ e. let a' : f m ≡ 0 = rw e at a in let b' : 0 < g m = rw e at b in
    omega (arith, ap one a', one_pos (g m) b', seen_mono m f g (λ v l. h v (omega arith))))
    (λ e. omega (arith, one_mono (f m) (g m) (h m (omega arith)), seen_more m f g v (λ v l. h v (omega arith)) (omega arith) a b))

pub seen_le : (m : ℕ) (f : ℕ → ℕ) → seen m f ≤ m
unfolding seen
seen_le zero f = omega arith
seen_le (suc m) f = omega (arith, one_le (f m), seen_le m f)

pub seen_lt : (m : ℕ) (f : ℕ → ℕ) (v : ℕ) → v < m → f v ≡ 0 → seen m f < m
seen_lt m f v l e = omega (arith, seen_more m f (λ _. 1) v (λ _ _ _. omega arith) l e (omega arith), seen_le m (λ _. 1))

pub seen_same : (m : ℕ) (f g : ℕ → ℕ) → ((v : ℕ) → v < m → 0 < f v → 0 < g v) → ((v : ℕ) → v < m → 0 < g v → 0 < f v) → seen m g ≡ seen m f
seen_same m f g a b = omega (arith, seen_mono m f g a, seen_mono m g f b)

pub seen_upd : (m : ℕ) (f : ℕ → ℕ) (v x : ℕ) → v < m → f v ≡ 0 → 0 < x → seen m (upd f v x) ≡ suc (seen m f)
unfolding seen
seen_upd zero f v x l e h = absurd (omega arith)
seen_upd (suc m) f v x l e h = same v m
    (λ q. let r : upd f v x m ≡ x = upd_at f v x m (sym q) in
    let a : f m ≡ 0 = rw q at e in
    omega (
      arith,
      one_pos (upd f v x m) (omega arith),
      ap one a,
      seen_same m f (upd f v x) (λ y k. upd_case (λ t. 0 < f y → 0 < t) f v x y (λ _ _. h) (λ _ o. o))
          (λ y k. upd_case (λ t. 0 < t → 0 < f y) f v x y (λ o _. absurd (omega arith)) (λ _ o. o)),
    ))
    (λ q. omega (arith, ap one (upd_off f v x m (λ o. q (sym o))), seen_upd m f v x (omega arith) e h))

pub pasted_old : (f : ℕ → ℕ) (e : ℕ) (g : ℕ → ℕ) (p i : ℕ) → i < e → pasted f e g p i ≡ f i
unfolding pasted
pasted_old f e g p i h = go (dec_le e i)
  where
    go : (t : Dec (e ≤ i)) → pick t (g (p + (i - e))) (f i) ≡ f i
    go (yes k) = absurd (omega arith)
    go (no k) = refl

pub pasted_new : (f : ℕ → ℕ) (e : ℕ) (g : ℕ → ℕ) (p i q : ℕ) → e ≤ i → q ≡ p + (i - e) → pasted f e g p i ≡ g q
unfolding pasted
pasted_new f e g p i q h r = go (dec_le e i)
  where
    go : (t : Dec (e ≤ i)) → pick t (g (p + (i - e))) (f i) ≡ g q
    go (yes k) = ap g (sym r)
    go (no k) = absurd (k h)

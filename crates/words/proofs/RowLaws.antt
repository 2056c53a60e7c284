-- Laws of `tabulate` and of the rows of a list.
use mathlib.Core.Path.{◌≡◌, refl, sym, ap, ◌∙◌}
use mathlib.Core.Logic.{◌≢◌, ⊎_elim}
use mathlib.Core.List.Memᴰ
use mathlib.Core.List.{List, [], ◌∷◌, ◌++◌, map, Memᴰ}
use Prim.Native.Nat.{ℕ, zero, suc, ◌+◌, ◌-◌, ◌*◌, ◌≤◌, ◌<◌}
use native.Mathlib.Nat.{suc-add, zero-add, mul-le-mul_left, div-add-mod}
use native.Mathlib.Omega.{arith}
use lib.ListN.{length, get_or, take, drop, set, replicate}
use Rattle.words.specs.Rows.{tabulate, row_count, field, records}

module _ {A : Type 0} where
  pub length_tabulate : (n : ℕ) (f : ℕ → A) → length (tabulate n f) ≡ n
  unfolding tabulate
  length_tabulate zero f = refl
  length_tabulate (suc n) f = ap suc (length_tabulate n (λ i. f (suc i)))

  pub get_d_tabulate : (n : ℕ) (f : ℕ → A) (i : ℕ) (d : A) → i < n → get_or (tabulate n f) i d ≡ f i
  unfolding tabulate
  get_d_tabulate zero f i d h = absurd (omega arith)
  get_d_tabulate (suc n) f zero d h = refl
  get_d_tabulate (suc n) f (suc i) d h = get_d_tabulate n (λ j. f (suc j)) i d (omega arith)

  -- of equal functions
  pub tabulate_eq : (n : ℕ) (f g : ℕ → A) → ((i : ℕ) → i < n → f i ≡ g i) → tabulate n f ≡ tabulate n g
  unfolding tabulate
  tabulate_eq zero f g h = refl
  tabulate_eq (suc n) f g h =
      ap (λ (x : A). x ∷ tabulate n (λ i. f (suc i))) (h 0 (omega arith))
      ∙ ap (λ (l : List A). g 0 ∷ l) (tabulate_eq n (λ i. f (suc i)) (λ i. g (suc i)) (λ i q. h (suc i) (omega arith)))

  -- one more at the end
  pub tabulate_suc : (n : ℕ) (f : ℕ → A) → tabulate (suc n) f ≡ tabulate n f ++ (f n ∷ [])
  unfolding tabulate
  tabulate_suc zero f = refl
  tabulate_suc (suc n) f = ap (λ (l : List A). f 0 ∷ l) (tabulate_suc n (λ i. f (suc i)))

  pub tabulate_add : (m n : ℕ) (f : ℕ → A) → tabulate (m + n) f ≡ tabulate m f ++ tabulate n (λ i. f (m + i))
  unfolding tabulate
  tabulate_add zero n f =
      ap (λ (k : ℕ). tabulate k f) (zero-add n) ∙ tabulate_eq n f (λ i. f (0 + i)) (λ i h. ap f (sym (zero-add i)))
  tabulate_add (suc m) n f =
      ap (λ (k : ℕ). tabulate k f) (suc-add m n)
      ∙ ap (λ (l : List A). f 0 ∷ l) (tabulate_add m n (λ i. f (suc i))
      ∙ ap (λ (l : List A). tabulate m (λ i. f (suc i)) ++ l) (tabulate_eq n (λ i. f (suc (m + i))) (λ i. f (suc m + i)) (λ i h. ap f (sym (suc-add m i)))))

  pub take_tabulate : (k n : ℕ) (f : ℕ → A) → k ≤ n → take k (tabulate n f) ≡ tabulate k f
  unfolding tabulate
  take_tabulate zero n f h = refl
  take_tabulate (suc k) zero f h = absurd (omega arith)
  take_tabulate (suc k) (suc n) f h = ap (λ (l : List A). f 0 ∷ l) (take_tabulate k n (λ i. f (suc i)) (omega arith))

  pub drop_tabulate : (k n : ℕ) (f : ℕ → A) → k ≤ n → drop k (tabulate n f) ≡ tabulate (n - k) (λ i. f (k + i))
  unfolding tabulate
  drop_tabulate zero n f h =
      let e : n ≡ n - 0 = omega arith in
      ap (λ (k : ℕ). tabulate k f) e ∙ tabulate_eq (n - 0) f (λ i. f (0 + i)) (λ i q. ap f (sym (zero-add i)))
  drop_tabulate (suc k) zero f h = absurd (omega arith)
  drop_tabulate (suc k) (suc n) f h =
      let e : n - k ≡ suc n - suc k = omega arith in
      drop_tabulate k n (λ i. f (suc i)) (omega arith)
      ∙ tabulate_eq (n - k) (λ i. f (suc (k + i))) (λ i. f (suc k + i)) (λ i q. ap f (sym (suc-add k i)))
      ∙ ap (λ (m : ℕ). tabulate m (λ i. f (suc k + i))) e

  -- what stands in it
  pub mem_tabulate : (n : ℕ) (f : ℕ → A) (i : ℕ) → i < n → Memᴰ (f i) (tabulate n f)
  unfolding tabulate
  mem_tabulate zero f i h = absurd (omega arith)
  mem_tabulate (suc n) f zero h = Memᴰ.head refl
  mem_tabulate (suc n) f (suc i) h = Memᴰ.tail (mem_tabulate n (λ j. f (suc j)) i (omega arith))

  pub mem_of_tabulate : {a : A} (n : ℕ) (f : ℕ → A) → Memᴰ a (tabulate n f) → (i : ℕ) × (i < n) × (a ≡ f i)
  unfolding tabulate
  mem_of_tabulate zero f m = absurd (Memᴰ.not-nil m)
  mem_of_tabulate {a} (suc n) f m =
      let ih = mem_of_tabulate {a = a} n (λ i. f (suc i)) in
      ⊎_elim (λ e. (0, omega arith, e)) (λ q. let r = ih q in let l = r.1 in (suc r.0, omega arith, r.2)) (Memᴰ.cases_cons m)

  pub tabulate_get_d : (l : List A) (d : A) → tabulate (length l) (λ i. get_or l i d) ≡ l
  unfolding tabulate
  tabulate_get_d [] d = refl
  tabulate_get_d (x ∷ l) d = ap (λ (r : List A). x ∷ r) (tabulate_get_d l d)

  -- a store of what g has at i, where g is f elsewhere
  pub tabulate_set : (n : ℕ) (f g : ℕ → A) (i : ℕ) → ((j : ℕ) → j < n → j ≢ i → f j ≡ g j) → set (tabulate n f) i (g i) ≡ tabulate n g
  unfolding tabulate
  tabulate_set zero f g i h = refl
  tabulate_set (suc n) f g zero h = ap (λ (l : List A). g 0 ∷ l) (tabulate_eq n (λ j. f (suc j)) (λ j. g (suc j)) (λ j q. h (suc j) (omega arith) (omega arith)))
  tabulate_set (suc n) f g (suc i) h =
      ap (λ (x : A). x ∷ set (tabulate n (λ j. f (suc j))) i (g (suc i))) (h 0 (omega arith) (omega arith))
      ∙ ap (λ (l : List A). g 0 ∷ l) (tabulate_set n (λ j. f (suc j)) (λ j. g (suc j)) i (λ j q e. h (suc j) (omega arith) (omega arith)))

  pub tabulate_replicate : (n : ℕ) (a : A) → tabulate n (λ _. a) ≡ replicate n a
  unfolding tabulate
  tabulate_replicate zero a = refl
  tabulate_replicate (suc n) a = ap (λ (l : List A). a ∷ l) (tabulate_replicate n a)

  pub map_tabulate : {B : Type 0} (g : A → B) (n : ℕ) (f : ℕ → A) → map g (tabulate n f) ≡ tabulate n (λ i. g (f i))
  unfolding tabulate
  map_tabulate g zero f = refl
  map_tabulate {B} g (suc n) f = ap (λ (l : List B). g (f 0) ∷ l) (map_tabulate g n (λ i. f (suc i)))

  -- ---- the rows of a list

  pub length_records : (w : ℕ) (make : (ℕ → ℕ) → A) (s : List ℕ) → length (records w make s) ≡ row_count w s
  length_records w make s = length_tabulate (row_count w s) (λ i. make (field w s i))

  pub get_d_records : (w : ℕ) (make : (ℕ → ℕ) → A) (s : List ℕ) (i : ℕ) (d : A) → i < row_count w s → get_or (records w make s) i d ≡ make (field w s i)
  get_d_records w make s i d h = get_d_tabulate (row_count w s) (λ j. make (field w s j)) i d h

-- a field of one of n rows is within the list, and the n rows that a list has
pub field_within : (w n i f m : ℕ) → i < n → f < w → w * n ≤ m → w * i + f < m
field_within w n i f m h l k = omega (arith, mul-le-mul_left w h)

pub rows_within : (w : ℕ) (s : List ℕ) → w * row_count w s ≤ length s
rows_within w s = omega (arith, div-add-mod (length s) w)

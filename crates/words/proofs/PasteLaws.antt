-- A list written in order from a place on: `paste d at s n` is d with the n elements from index `at` on replaced by s's first n.
use mathlib.Core.Path.{◌≡◌, refl, sym, ap, ◌∙◌}
use mathlib.Core.List.{List, ◌++◌, append_assoc}
use Prim.Native.Nat.{ℕ, ◌+◌, ◌-◌, ◌≤◌, ◌<◌}
use native.Mathlib.Omega.{arith}
use native.Mathlib.Numerals.{add-one}
use lib.ListN.{length, take, drop, get_or, set, length-set}
use lib.Seq.{paste, paste-zero, drop-paste, get_or-drop, paste-suc, slice, take-append-le, take-take, length-take-le, get_or-take, take-length}

pub take_below : (d s : List ℕ) (at n m : ℕ) → m ≤ at → at ≤ length d → take m (paste d at s n) ≡ take m d
take_below d s at n m h k =
    let l : m ≤ length (take at d) = rw (length-take-le at d k) h in
    ap (take m) (append_assoc (take at d) (take n s) (drop (at + n) d))
    ∙ take-append-le m (take at d) (take n s ++ drop (at + n) d) l ∙ take-take m at d h

pub slice_below : (d s : List ℕ) (at n f m : ℕ) → m ≤ at → at ≤ length d → slice f m (paste d at s n) ≡ slice f m d
slice_below d s at n f m h k = ap (drop f) (take_below d s at n m h k)

pub get_d_below : (d s : List ℕ) (at n i : ℕ) → i < at → at ≤ length d → get_or (paste d at s n) i 0 ≡ get_or d i 0
get_d_below d s at n i h k =
    sym (get_or-take at (paste d at s n) i 0 h) ∙ ap (λ (l : List ℕ). get_or l i 0) (take_below d s at n at (omega arith) k) ∙ get_or-take at d i 0 h

-- one store more
pub paste_more : (d s : List ℕ) (at j v : ℕ) → at + j < length d → j < length s → v ≡ get_or s j 0 → set (paste d at s j) (at + j) v ≡ paste d at s (j + 1)
paste_more d s at j v h k e =
    ap (set (paste d at s j) (at + j)) e ∙ paste-suc d at s j 0 h k ∙ ap (paste d at s) (sym (add-one j))

pub get_d_above : (d s : List ℕ) (at n i : ℕ) → at + n ≤ i → at ≤ length d → n ≤ length s → get_or (paste d at s n) i 0 ≡ get_or d i 0
get_d_above d s at n i h k l =
    let e : at + n + (i - (at + n)) ≡ i = omega arith in
    rw (← e) (sym (get_or-drop (at + n) (paste d at s n) (i - (at + n)) 0) ∙ ap (λ (q : List ℕ). get_or q (i - (at + n)) 0) (drop-paste d at s n k l) ∙ get_or-drop (at + n) d (i - (at + n)) 0)

-- the whole of s at the front: an answer list afterwards
pub paste_front : (d s : List ℕ) → paste d 0 s (length s) ≡ s ++ drop (length s) d
paste_front d s = let e : 0 + length s ≡ length s = omega arith in ap (λ (n : ℕ). take (length s) s ++ drop n d) e ∙ ap (λ (l : List ℕ). l ++ drop (length s) d) (take-length s)

-- A loop that fills the n places from `at` on with m's first n, in order: the list is s after k of them, and was d.
pub record Filling (d : List ℕ) (at : ℕ) (m : List ℕ) (n : ℕ) (s : List ℕ) (k : ℕ) : Type 0 where
  pub room : at + n ≤ length d
  pub source : n ≤ length m
  pub k_le : k ≤ n
  pub len : length s ≡ length d
  pub filled : s ≡ paste d at m k

pub fill_start : (d : List ℕ) (at : ℕ) (m : List ℕ) (n : ℕ) → at + n ≤ length d → n ≤ length m → Filling d at m n d 0
fill_start d at m n h l = record { room = h; source = l; k_le = omega arith; len = refl; filled = paste-zero d at m }

module _ {d : List ℕ} {at : ℕ} {m : List ℕ} {n : ℕ} {s : List ℕ} {k : ℕ} (f : Filling d at m n s k) where
  -- a store of m's next element at the next place
  pub fill_more : (x y : ℕ) → k < n → x ≡ at + k → y ≡ get_or m k 0 → Filling d at m n (set s x y) (k + 1)
  fill_more x y h ex ey = record {
    room = f.room;
    source = f.source;
    k_le = omega arith;
    len = simp length-set f.len;
    filled = rw (ex, f.filled) (paste_more d m at k y (omega arith) (omega arith) ey);
  }

  pub fill_done : n ≤ k → s ≡ paste d at m n
  fill_done h = let e : k ≡ n = omega arith in f.filled ∙ ap (paste d at m) e

  -- outside the region the list is d
  pub fill_below : (i : ℕ) → i < at → get_or s i 0 ≡ get_or d i 0
  fill_below i h = ap (λ (l : List ℕ). get_or l i 0) f.filled ∙ get_d_below d m at k i h (omega arith)

  pub fill_above : (i : ℕ) → at + k ≤ i → get_or s i 0 ≡ get_or d i 0
  fill_above i h = ap (λ (l : List ℕ). get_or l i 0) f.filled ∙ get_d_above d m at k i h (omega arith) (omega arith)

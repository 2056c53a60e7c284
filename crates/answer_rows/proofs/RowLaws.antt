-- The rows of items: a row more, and an item by its word.
use Prim.Native.Nat.{ℕ, ◌+◌, ◌-◌, ◌*◌, ◌/◌, ◌%◌, ◌^◌, ◌<◌}
use native.Mathlib.Omega.{arith}
use native.Mathlib.Nat.{add-zero}
use mathlib.Core.Path.{◌≡◌, sym, ap, ◌∙◌}
use mathlib.Core.Bool.{false}
use mathlib.Core.List.{List, [], ◌∷◌}
use lib.ListN.{length, get_or, set}
use lib.Dec.{eqb}
use borrow.Author.Tests.{ne_eqb}
use Rattle.words.specs.Rows.{tabulate, flat}
use Rattle.words.specs.Widths.{part_width}
use Rattle.words.proofs.FlatLaws.{flat_at}
use Rattle.words.proofs.PasteLaws.{Filling, fill_more}
use Rattle.answer_rows.specs.Inner.{item_of}

-- three numbers more of the rows
pub three_more : (n : ℕ) (row : ℕ → List ℕ) (d s : List ℕ) (i : ℕ) → i < n → ((j : ℕ) → j < n → length (row j) ≡ 3) → Filling d 0 (flat (tabulate n row)) (part_width * n) s (part_width * i)
    → (a b c : ℕ) → row i ≡ a ∷ b ∷ c ∷ [] → Filling d 0 (flat (tabulate n row)) (part_width * n) (set (set (set s (part_width * i) a) (part_width * i + 1) b) (part_width * i + 2) c) (part_width * (i + 1))
three_more n row d s i h long F a b c e =
    let x : part_width * i + 1 + 1 ≡ part_width * i + 2 = omega arith in
    let y : part_width * i + 2 + 1 ≡ part_width * (i + 1) = omega arith in
    let f₁ = fill_more F (part_width * i) a (omega arith) (omega arith) (at 0 a (omega arith) (ap (λ (l : List ℕ). get_or l 0 0) e) ∙ ap (λ (k : ℕ). get_or (flat (tabulate n row)) k 0) (add-zero (part_width * i))) in
    let f₂ = fill_more f₁ (part_width * i + 1) b (omega arith) (omega arith) (at 1 b (omega arith) (ap (λ (l : List ℕ). get_or l 1 0) e)) in
    let f₃ = fill_more (rw x at f₂) (part_width * i + 2) c (omega arith) (omega arith) (at 2 c (omega arith) (ap (λ (l : List ℕ). get_or l 2 0) e)) in
    rw y at f₃
  where
    at : (f v : ℕ) → f < 3 → get_or (row i) f 0 ≡ v → v ≡ get_or (flat (tabulate n row)) (part_width * i + f) 0
    at f v q g = sym (flat_at 3 n row long i f h q ∙ g)

-- an item, by its word
pub item_none : (x : ℕ) → x ≡ 0 → record { present = 0; first = 0; count = 0 } ≡ item_of x
item_none x e = rw e

pub item_some : (x f c : ℕ) → 0 < x → f ≡ (x - 1) / 2 ^ 32 → c ≡ (x - 1) % 2 ^ 32 → record { present = 1; first = f; count = c } ≡ item_of x
item_some x f c h e g = let z : eqb x 0 ≡ false = ne_eqb x 0 (λ y. absurd (omega arith)) in rw (z, e, g)

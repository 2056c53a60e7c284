-- Lines of a plan's text, one after another, and how long they are.
use Prim.Native.Nat.{ℕ, zero, suc, ◌+◌, ◌*◌, ◌≤◌, ◌<◌}
use native.Mathlib.Omega.{arith}
use native.Mathlib.Nat.{mul-suc}
use mathlib.Core.Path.{◌≡◌, ap, subst, ◌∙◌}
use mathlib.Core.List.{List, [], ◌∷◌}
use lib.ListN.{length, length-append}
use Rattle.words.specs.Rows.{tabulate, flat}
use Rattle.text_plan.specs.Inner.{Puts}
use Rattle.text_plan.specs.Lines.{fields_text, line_text}
use Rattle.text_plan.proofs.PutLaws.{fields_length, rows_none, rows_more, puts_as}
use native.Mathlib.Numerals.{add-one}

pub line_length : (letter : ℕ) (ns : List ℕ) → length ns ≤ 4 → length (line_text letter ns) ≤ 128
line_length letter ns h = let e = length-append (letter ∷ fields_text ns) (10 ∷ []) in let f = fields_length ns in omega arith

pub rows_length : (row : ℕ → List ℕ) (m : ℕ) → ((i : ℕ) → length (row i) ≤ m) → (n : ℕ) → length (flat (tabulate n row)) ≤ m * n
unfolding flat tabulate
rows_length row m h zero = omega arith
rows_length row m h (suc n) =
    let e = length-append (row 0) (flat (tabulate n (λ i. row (suc i)))) in
    let f = rows_length (λ i. row (suc i)) m (λ i. h (suc i)) n in
    let g = h 0 in
    let k : m * suc n ≡ m * n + m = mul-suc m n in omega arith

-- the lines of the first i rows, each of at most m bytes, stand behind `at`
pub record Lines (row : ℕ → List ℕ) (m : ℕ) (out : List ℕ) (at : ℕ) (n : ℕ) (out' : List ℕ) (next i : ℕ) : Type 0 where
  pub short : (j : ℕ) → length (row j) ≤ m
  pub i_le : i ≤ n
  pub puts : Puts (flat (tabulate i row)) out at out' next

pub lines_start : (row : ℕ → List ℕ) (m : ℕ) (out : List ℕ) (at n : ℕ) → ((j : ℕ) → length (row j) ≤ m) → Lines row m out at n out at 0
lines_start row m out at n h = record { short = h; i_le = omega arith; puts = rows_none row out at }

module _ {row : ℕ → List ℕ} {m : ℕ} {out : List ℕ} {at n : ℕ} {out₁ : List ℕ} {next i : ℕ} (l : Lines row m out at n out₁ next i) where
  pub lines_near : next ≤ at + m * i
  lines_near = let p = l.puts.place in let q = rows_length row m l.short i in omega arith

  pub lines_more : i < n → {out₂ : List ℕ} {next₂ : ℕ} → Puts (row i) out₁ next out₂ next₂ → Lines row m out at n out₂ next₂ (i + 1)
  lines_more h p = record { short = l.short; i_le = omega arith; puts = rows_more row i l.puts p }

  pub lines_all : n ≤ i → Puts (flat (tabulate n row)) out at out₁ next
  lines_all h = let e : i ≡ n = (let x = l.i_le in omega arith) in subst (λ (k : ℕ). Puts (flat (tabulate k row)) out at out₁ next) e l.puts

-- rows of any length: how far they reach is carried along
pub record Rows (row : ℕ → List ℕ) (m : ℕ) (out : List ℕ) (at : ℕ) (n : ℕ) (out' : List ℕ) (next i : ℕ) : Type 0 where
  pub i_le : i ≤ n
  pub near : next ≤ at + m * i
  pub puts : Puts (flat (tabulate i row)) out at out' next

pub rows_start : (row : ℕ → List ℕ) (m : ℕ) (out : List ℕ) (at n : ℕ) → Rows row m out at n out at 0
rows_start row m out at n = record { i_le = omega arith; near = omega arith; puts = rows_none row out at }

module _ {row : ℕ → List ℕ} {m : ℕ} {out : List ℕ} {at n : ℕ} {out₁ : List ℕ} {next i : ℕ} (l : Rows row m out at n out₁ next i) where
  pub rows_on : i < n → (p : List ℕ) → p ≡ row i → length p ≤ m → {out₂ : List ℕ} {next₂ : ℕ} → Puts p out₁ next out₂ next₂ → Rows row m out at n out₂ next₂ (i + 1)
  rows_on h p e s q = record {
    i_le = omega arith;
    near = let a = l.near in let b = q.place in let c : m * (i + 1) ≡ m * i + m = ap (λ (k : ℕ). m * k) (add-one i) ∙ mul-suc m i in omega arith;
    puts = rows_more row i l.puts (puts_as e q);
  }

  pub rows_all : n ≤ i → Puts (flat (tabulate n row)) out at out₁ next
  rows_all h = let e : i ≡ n = (let x = l.i_le in omega arith) in subst (λ (k : ℕ). Puts (flat (tabulate k row)) out at out₁ next) e l.puts

-- a part of the area list is not long
pub part_length : (row : ℕ → List ℕ) → ((j : ℕ) → length (row j) ≤ 128) → (n : ℕ) → n ≤ 65536 → length (flat (tabulate n row)) ≤ 8388608
part_length row h n l = let a = rows_length row 128 h n in omega arith

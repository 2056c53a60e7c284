-- What the steps compute fits and stands in the lists, each bound as the code asks for it.
use Prim.Native.Nat.{ℕ, ◌+◌, ◌-◌, ◌*◌, ◌/◌, ◌^◌, ◌≤◌, ◌<◌}
use mathlib.Core.Path.{◌≡◌}
use mathlib.Core.List.{List}
use mir.Syntax.{w64}
use mir.Val.{Fits}
use native.Mathlib.Omega.{arith}
use lib.ListN.{length, get_or}
use Rattle.words.proofs.FitLaws.{Word, word}
use Rattle.preparing.proofs.StepLaws.{Firsting, first_def, Ending}
use Rattle.words.specs.Widths.{inst_width, mention_width}

pub skip : (a b c n : ℕ) → a + n ≤ b → b + n ≤ c → a + n ≤ c
skip a b c n h k = omega arith

pub longer : (a m n : ℕ) → m ≡ n → a ≤ n → a ≤ m
longer a m n e h = omega arith

pub words_fit : (v : ℕ) → v ≤ 65535 → Fits w64 (v + 63)
words_fit v h = omega arith

-- ---- firsts

pub record AtInst (defs first i m : ℕ) : Type 0 where
  pub def : Word (defs + i) m
  pub put : Word (first + i) m
  pub next : Fits w64 (i + 1)

pub at_inst : {defs first edges m n : ℕ} {w₀ w : List ℕ} {i : ℕ} → Firsting defs first edges m n w₀ w i → i < m → length w₀ * 8 < 2 ^ 63 → AtInst defs first i (length w)
at_inst {defs} {first} {edges} {m} {n} {w₀} {w} {i} d h r =
    let a = d.low in let b = d.middle in let c = d.high in let l = d.kept.len in
    record { def = word _ (length w) (omega arith) (omega arith); put = word _ (length w) (omega arith) (omega arith); next = omega arith }

pub def_few : {defs first edges m n : ℕ} {w₀ w : List ℕ} {i : ℕ} → Firsting defs first edges m n w₀ w i → i < m → get_or w₀ (defs + i) 0 ≤ 65536 → get_or w (defs + i) 0 ≤ 65536
def_few d h q = omega (arith, first_def d h)

pub key_fits : (d : ℕ) → d ≤ 65536 → Fits w64 ((d - 1) * 4294967296)
key_fits d h = omega arith

pub edges_in_lem : {defs first edges m n : ℕ} {w₀ w : List ℕ} {i : ℕ} → Firsting defs first edges m n w₀ w i → edges + n ≤ length w
edges_in_lem d = omega (arith, d.high, d.kept.len)

-- ---- ends

pub past : (k n m : ℕ) → n ≡ m → n ≤ k → m ≤ k
past k n m e h = omega arith

-- end k, at instruction i
pub record AtEnd (ends insts k i : ℕ) : Type 0 where
  pub first : Fits w64 (mention_width * k)
  pub first_bytes : Fits w64 (mention_width * k * 4)
  pub first_in : mention_width * k < ends
  pub second : Fits w64 (mention_width * k + 1)
  pub second_bytes : Fits w64 ((mention_width * k + 1) * 4)
  pub second_in : mention_width * k + 1 < ends
  pub inst : Fits w64 i
  pub row : Fits w64 (inst_width * i)
  pub row_bytes : Fits w64 (inst_width * i * 4)
  pub row_in : inst_width * i < insts
  pub next : Fits w64 (k + 1)

pub at_end : (ends insts k n i : ℕ) → n ≡ ends / mention_width → k < n → i < insts / inst_width → (ends * 4 < 2 ^ 63) × (insts * 4 < 2 ^ 63) → AtEnd ends insts k i
at_end ends insts k n i e h g b =
    let q = b.0 in let r = b.1 in
    let x : mention_width * k + 1 < ends = omega arith in let y : inst_width * i < insts = omega arith in
    record {
      first = omega (arith, q, x);
      first_bytes = omega (arith, q, x);
      first_in = omega (arith, x);
      second = omega (arith, q, x);
      second_bytes = omega (arith, q, x);
      second_in = x;
      inst = omega (arith, r, y);
      row = omega (arith, r, y);
      row_bytes = omega (arith, r, y);
      row_in = y;
      next = omega (arith, q, x);
    }

pub ended_at : {ended : ℕ} {insts s : List ℕ} {l : ℕ} {w₀ w : List ℕ} {k : ℕ} → Ending ended insts s l w₀ w k → (m : ℕ) → m < l → length w₀ * 8 < 2 ^ 63 → Word (ended + m) (length w)
ended_at {w = w} d m h r = let a = d.high in let b = d.kept.len in word _ (length w) (omega arith) (omega arith)

-- Laws of chains: the rows of each number are linked one after another, the last first.
use Prim.Native.Nat.{ℕ, ◌+◌, ◌*◌, ◌/◌, ◌≤◌, ◌<◌}
use native.Mathlib.Omega.{arith}
use mathlib.Core.Path.{◌≡◌, refl, sym, ap, ◌∙◌}
use mathlib.Core.Logic.{◌⊎◌, ⊎_elim}
use mathlib.Core.List.{List}
use lib.ListN.{length, get_or, set, length-set}
use lib.Seq.{get_or-set_other}
use Rattle.words.proofs.Points.{same, stored}
use Rattle.words.proofs.RowLaws.{field_within, rows_within}
use Rattle.reach.specs.Inner.{latest}
use Rattle.reach.proofs.StepLaws.{latest_here, latest_other, latest_none}
use Rattle.chains.specs.Inner.{Chain, Linked}

-- where a row's number stands
pub row_in : (width column n i : ℕ) (rows : List ℕ) → column < width → n ≡ length rows / width → i < n → width * i + column < length rows
row_in width column n i rows some e h =
    let z = field_within width (length rows / width) i column (length rows) (omega arith) some (rows_within width rows) in
    omega arith

-- of the first i of n rows, whose numbers are f's
pub record Linking (f : ℕ → ℕ) (n keys heads nexts : ℕ) (w₀ w : List ℕ) (i : ℕ) : Type 0 where
  pub low : heads + keys ≤ nexts
  pub high : nexts + n ≤ length w₀
  pub i_le : i ≤ n
  pub len : length w ≡ length w₀
  pub outside : (j : ℕ) → (j < heads) ⊎ (heads + keys ≤ j) → (j < nexts) ⊎ (nexts + n ≤ j) → get_or w j 0 ≡ get_or w₀ j 0
  pub head : (l : ℕ) → l < keys → get_or w (heads + l) 0 ≡ latest f l i
  pub next : (j : ℕ) → j < i → f j < keys → get_or w (nexts + j) 0 ≡ latest f (f j) j

pub link_start : (f : ℕ → ℕ) (n keys heads nexts : ℕ) (w : List ℕ) → heads + keys ≤ nexts → nexts + n ≤ length w
    → ((l : ℕ) → l < keys → get_or w (heads + l) 0 ≡ 0) → Linking f n keys heads nexts w w 0
link_start f n keys heads nexts w a b z = record {
  low = a;
  high = b;
  i_le = omega arith;
  len = refl;
  outside = λ j p q. refl;
  head = λ l h. z l h ∙ sym (latest_none f l);
  next = λ j h. absurd (omega arith);
}

module _ {f : ℕ → ℕ} {n keys heads nexts : ℕ} {w₀ w : List ℕ} {i : ℕ} (d : Linking f n keys heads nexts w₀ w i) where
  -- a row of nobody
  pub link_skip : i < n → keys ≤ f i → Linking f n keys heads nexts w₀ w (i + 1)
  link_skip h p = record {
    low = d.low;
    high = d.high;
    i_le = omega arith;
    len = d.len;
    outside = d.outside;
    head = λ l g. d.head l g ∙ sym (latest_other f l i (λ e. absurd (omega arith)));
    next = λ j g q. d.next j (same j i (λ e. absurd (let z : f i < keys = (rw e at q) in omega arith)) (λ e. omega arith)) q;
  }

  pub link_put : (l a x b y : ℕ) → i < n → f i ≡ l → l < keys → a ≡ nexts + i → x ≡ get_or w (heads + l) 0 → b ≡ heads + l → y ≡ i + 1
      → Linking f n keys heads nexts w₀ (set (set w a x) b y) (i + 1)
  link_put l a x b y h el p ea ex eb ey = record {
    low = d.low;
    high = d.high;
    i_le = omega arith;
    len = simp length-set d.len;
    outside = λ j s t.
        get_or-set_other (set w a x) b j y 0 (λ e. absurd (⊎_elim (λ q. omega arith) (λ q. omega arith) s))
        ∙ get_or-set_other w a j x 0 (λ e. absurd (⊎_elim (λ q. omega arith) (λ q. omega arith) t))
        ∙ d.outside j s t;
    head = λ m g. stored (λ z. z ≡ latest f m (i + 1)) (set w a x) b y (heads + m) (simp length-set (let q = d.low in let r = d.high in let k = d.len in omega arith))
        (λ e. ey ∙ sym (latest_here f m i (omega arith)))
        (λ e. get_or-set_other w a (heads + m) x 0 (λ z. absurd (let q = d.low in omega arith)) ∙ d.head m g ∙ sym (latest_other f m i (λ z. e (omega arith))));
    next = λ j g q.
        get_or-set_other (set w a x) b (nexts + j) y 0 (λ z. absurd (let q = d.low in omega arith))
        ∙ stored (λ z. z ≡ latest f (f j) j) w a x (nexts + j) (let r = d.high in let k = d.len in omega arith)
        (λ e. let z : i ≡ j = omega arith in ex ∙ d.head l p ∙ ap (λ (c : ℕ). latest f c i) (sym el) ∙ ap (λ (c : ℕ). latest f (f c) c) z)
        (λ e. d.next j (omega arith) q);
  }

pub link_done : {f : ℕ → ℕ} {n keys heads nexts : ℕ} {w₀ w : List ℕ} {i : ℕ} → Linking f n keys heads nexts w₀ w i → n ≤ i → Linked f n keys heads nexts w₀ w
link_done {n = n} {i = i} d h =
    let all : i ≡ n = let q = d.i_le in omega arith in
    record {
      len = d.len;
      outside = d.outside;
      chain = record { head = λ l g. d.head l g ∙ ap (latest _ l) all; next = λ j g q. d.next j (omega arith) q };
    }

-- a chain, where its heads and what stands before each row have stayed
pub chain_kept : {f : ℕ → ℕ} {n keys heads nexts : ℕ} {w w' : List ℕ} → Chain f n keys heads nexts w
    → ((i : ℕ) → heads ≤ i → i < heads + keys → get_or w' i 0 ≡ get_or w i 0) → ((i : ℕ) → nexts ≤ i → i < nexts + n → get_or w' i 0 ≡ get_or w i 0) → Chain f n keys heads nexts w'
chain_kept {heads = heads} {nexts} C a b = record {
  head = λ l h. a (heads + l) (omega arith) (omega arith) ∙ C.head l h;
  next = λ i h q. b (nexts + i) (omega arith) (omega arith) ∙ C.next i h q;
}

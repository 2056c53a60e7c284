-- Laws of turning rows: a word's bits lowest first, a row word by word, and place after place.
use Prim.Native.Nat.{ℕ, ◌+◌, ◌-◌, ◌*◌, ◌/◌, ◌%◌, ◌≤◌, ◌<◌}
use native.Mathlib.Omega.{arith}
use mathlib.Core.Path.{◌≡◌, refl, sym, ap, ◌∙◌, subst}
use mathlib.Core.Logic.{◌≢◌, ◌⊎◌, inl, inr, ⊎_elim}
use mathlib.Core.Bool.{Bool, true, false, cond, ◌&&◌, ◌||◌}
use mathlib.Core.List.{List}
use lib.ListN.{length, get_or}
use lib.Bits.{bit_and}
use borrow.Author.Tests.{eq-eqb, ne_eqb}
use Rattle.words.proofs.Points.{cut, same}
use Rattle.words.proofs.RegionLaws.{row_before}
use Rattle.words.proofs.Bools.{not_both}
use Rattle.bits.specs.Bits.{bit, bit_of}
use Rattle.bits.specs.Inner.{Lowest, Without}
use Rattle.bits.proofs.DigitLaws.{bit_and_lem, bit_zero}
use Rattle.bits.proofs.BitLaws.{bit_at}
use Rattle.graph.specs.Inner.Work.{Within}
use Rattle.graph.proofs.Within.{within_refl, within_trans}
use Rattle.area_rows.specs.declared.Column.{Column}
use Rattle.row_turns.specs.declared.Turn.{Turn}
use Rattle.area_rows.specs.Inner.{marked, Fits, Marked, Put}
use Rattle.row_turns.specs.Inner.{both, column_of, Turnable, Turned}
use Rattle.area_rows.proofs.PutLaws.{put_none, put_then, put_as, put_fits, put_set}

-- ---- a word's bits

-- the bits that the word has and `left` has no more
abbrev Gone : ℕ → ℕ → ℕ → ℕ → Type 0
Gone i word left l = (b : ℕ) × (b < 64) × (l ≡ i * 64 + b) × (bit_of word b ≡ true) × (bit_of left b ≡ false)

pub record Scattering (c : Column) (i word : ℕ) (w₀ w : List ℕ) (left : ℕ) : Type 0 where
  pub fits : Fits c w
  pub put : Put c true (Gone i word left) w₀ w
  pub some : (b : ℕ) → bit_of left b ≡ true → bit_of word b ≡ true

pub scatter_start : (c : Column) (i word : ℕ) (w : List ℕ) → Fits c w → Scattering c i word w w word
scatter_start c i word w f = record {
  fits = f;
  put = put_as (Gone i word word) (put_none c true w) (λ k h s. absurd s) (λ k h p. absurd (not_both p.3 p.4));
  some = λ b e. e;
}

module _ {c : Column} {i word : ℕ} {w₀ w : List ℕ} {left : ℕ} (p : Scattering c i word w₀ w left) where
  pub scatter_more : {w' : List ℕ} {b y : ℕ} → Lowest left b → Without left y → Put c true (λ l. l ≡ i * 64 + b) w w' → Scattering c i word w₀ w' y
  scatter_more {w'} {b} {y} lo wo q = record {
    fits = put_fits p.fits q;
    put = put_as (Gone i word y) (put_then p.put q) to fro;
    some = λ d e. p.some d (kept d e);
  }
    where
      gone : (d : ℕ) → d ≡ b → bit_of y d ≡ false
      gone d e = wo.bits b lo d ∙ ap (λ (t : Bool). cond t false (bit_of left d)) (eq-eqb d b e)

      other : (d : ℕ) → d ≢ b → bit_of y d ≡ bit_of left d
      other d e = wo.bits b lo d ∙ ap (λ (t : Bool). cond t false (bit_of left d)) (ne_eqb d b e)

      kept : (d : ℕ) → bit_of y d ≡ true → bit_of left d ≡ true
      kept d e = same d b (λ z. absurd (not_both e (gone d z))) (λ z. sym (other d z) ∙ e)

      to : (l : ℕ) → l < c.n → Gone i word left l ⊎ (l ≡ i * 64 + b) → Gone i word y l
      to l h (inl (d, x, e, f, g)) = (d, x, e, f, same d b (λ z. gone d z) (λ z. other d z ∙ g))
      to l h (inr e) = (b, lo.within, e, p.some b lo.set, gone b refl)

      fro : (l : ℕ) → l < c.n → Gone i word y l → Gone i word left l ⊎ (l ≡ i * 64 + b)
      fro l h (d, x, e, f, g) = same d b (λ z. inr (e ∙ ap (λ (n : ℕ). i * 64 + n) z)) (λ z. inl (d, x, e, f, sym (other d z) ∙ g))

  pub scatter_done : left ≡ 0 → Put c true (λ l. (b : ℕ) × (b < 64) × (l ≡ i * 64 + b) × (bit_of word b ≡ true)) w₀ w
  scatter_done z = put_as (λ l. (b : ℕ) × (b < 64) × (l ≡ i * 64 + b) × (bit_of word b ≡ true)) p.put
      (λ l h g. (g.0, g.1, g.2, g.3))
      (λ l h g. (g.0, g.1, g.2, g.3, ap (λ (y : ℕ). bit_of y g.0) z ∙ bit_zero g.0))

-- ---- a row, word by word

pub column_fits : {t : Turn} {w : List ℕ} → Turnable t w → (k : ℕ) → k < t.n → Fits (column_of t k) w
column_fits r k h = record { bit_in = let w = r.wide in omega arith; rows_in = r.to_in }

-- rows apart from the locals' are as they were
module _ {t : Turn} {w₀ w : List ℕ} (r : Turnable t w₀) (K : Within t.to (t.to + t.locals * t.width) w₀ w) where
  word_kept : (from k i : ℕ) → (from + t.n * t.words ≤ t.to) ⊎ (t.to + t.locals * t.width ≤ from) → k < t.n → i < t.words → get_or w (from + k * t.words + i) 0 ≡ get_or w₀ (from + k * t.words + i) 0
  word_kept from k i a h l =
      let q = row_before k t.n t.words h in
      ⊎_elim (λ e. K.below (from + k * t.words + i) (omega arith)) (λ e. K.past (from + k * t.words + i) (omega arith)) a

  bit_same : (from k b : ℕ) → (from + t.n * t.words ≤ t.to) ⊎ (t.to + t.locals * t.width ≤ from) → k < t.n → b < t.words * 64 → bit w (from + k * t.words) b ≡ bit w₀ (from + k * t.words) b
  bit_same from k b a h l = ap (λ (y : ℕ). bit_of y (b % 64)) (word_kept from k (b / 64) a h (omega arith))

  pub both_kept : (k l : ℕ) → k < t.n → l < t.words * 64 → both t w k l ≡ both t w₀ k l
  both_kept k l h m =
      ap (λ (x : Bool). x && bit w (t.two + k * t.words) l) (bit_same t.one k l r.one_apart h m)
      ∙ ap (λ (x : Bool). bit w₀ (t.one + k * t.words) l && x) (bit_same t.two k l r.two_apart h m)

  pub turnable_kept : Turnable t w
  turnable_kept = record {
    one_in = let e = K.len in let q = r.one_in in omega arith;
    two_in = let e = K.len in let q = r.two_in in omega arith;
    to_in = let e = K.len in let q = r.to_in in omega arith;
    one_apart = r.one_apart;
    two_apart = r.two_apart;
    wide = r.wide;
    long = r.long;
    none = λ k l h a b. both_kept k l h b ∙ r.none k l h a b;
  }

  -- a word of both rows
  pub word_bits : (k i b : ℕ) → k < t.n → i < t.words → b < 64
      → bit_of (bit_and (get_or w (t.one + k * t.words + i) 0) (get_or w (t.two + k * t.words + i) 0)) b ≡ both t w₀ k (i * 64 + b)
  word_bits k i b h l m =
      bit_and_lem (get_or w (t.one + k * t.words + i) 0) (get_or w (t.two + k * t.words + i) 0) b
      ∙ ap (λ (x : Bool). x && bit_of (get_or w (t.two + k * t.words + i) 0) b) (sym (bit_at w (t.one + k * t.words) i b m))
      ∙ ap (λ (x : Bool). bit w (t.one + k * t.words) (i * 64 + b) && x) (sym (bit_at w (t.two + k * t.words) i b m))
      ∙ both_kept k (i * 64 + b) h (omega arith)

-- the first i words of the rows of place k have been turned
pub record Rowing (t : Turn) (k : ℕ) (w₀ w : List ℕ) (i : ℕ) : Type 0 where
  pub ready : Turnable t w₀
  pub place : k < t.n
  pub put : Put (column_of t k) true (λ l. (l < i * 64) × (both t w₀ k l ≡ true)) w₀ w
  pub at_most : i ≤ t.words

pub row_start : {t : Turn} {w : List ℕ} (k : ℕ) → Turnable t w → k < t.n → Rowing t k w w 0
row_start {t} {w} k r h = record {
  ready = r;
  place = h;
  put = put_as (λ l. (l < 0 * 64) × (both t w k l ≡ true)) (put_none (column_of t k) true w) (λ k h s. absurd s) (λ k h p. let q = p.0 in absurd (omega arith));
  at_most = omega arith;
}

module _ {t : Turn} {k : ℕ} {w₀ w : List ℕ} {i : ℕ} (p : Rowing t k w₀ w i) where
  pub row_fits : Fits (column_of t k) w
  row_fits = put_fits (column_fits p.ready k p.place) p.put

  -- the words read are in the list
  pub row_in : (from : ℕ) → from + t.n * t.words ≤ length w₀ → i < t.words → from + k * t.words + i < length w
  row_in from f h = let e = p.put.kept.len in omega (arith, row_before k t.n t.words p.place)

  module _ (h : i < t.words) (word : ℕ) (e : word ≡ bit_and (get_or w (t.one + k * t.words + i) 0) (get_or w (t.two + k * t.words + i) 0)) where
    is : (b : ℕ) → b < 64 → bit_of word b ≡ both t w₀ k (i * 64 + b)
    is b m = ap (λ (y : ℕ). bit_of y b) e ∙ word_bits p.ready p.put.kept k i b p.place h m

    pub row_word : (b : ℕ) → b < 64 → bit_of word b ≡ true → i * 64 + b < t.locals
    row_word b m s = cut t.locals (i * 64 + b)
        (λ g. absurd (not_both (sym (is b m) ∙ s) (p.ready.none k (i * 64 + b) p.place g (omega arith))))
        (λ g. g)

    pub row_more : {w' : List ℕ} → Put (column_of t k) true (λ l. (b : ℕ) × (b < 64) × (l ≡ i * 64 + b) × (bit_of word b ≡ true)) w w' → Rowing t k w₀ w' (i + 1)
    row_more q = record {
      ready = p.ready;
      place = p.place;
      put = put_as (λ l. (l < (i + 1) * 64) × (both t w₀ k l ≡ true)) (put_then p.put q) to fro;
      at_most = omega arith;
    }
      where
        to : (l : ℕ) → l < t.locals → ((l < i * 64) × (both t w₀ k l ≡ true)) ⊎ ((b : ℕ) × (b < 64) × (l ≡ i * 64 + b) × (bit_of word b ≡ true)) → (l < (i + 1) * 64) × (both t w₀ k l ≡ true)
        to l g (inl (x, y)) = (omega arith, y)
        to l g (inr (b, m, z, s)) = (omega arith, ap (both t w₀ k) z ∙ sym (is b m) ∙ s)

        fro : (l : ℕ) → l < t.locals → (l < (i + 1) * 64) × (both t w₀ k l ≡ true) → ((l < i * 64) × (both t w₀ k l ≡ true)) ⊎ ((b : ℕ) × (b < 64) × (l ≡ i * 64 + b) × (bit_of word b ≡ true))
        fro l g (x, y) = cut (i * 64) l
            (λ a. let z : l ≡ i * 64 + (l - i * 64) = omega arith in inr (l - i * 64, omega arith, z, is (l - i * 64) (omega arith) ∙ ap (both t w₀ k) (sym z) ∙ y))
            (λ a. inl (a, y))

  pub row_done : t.words ≤ i → Put (column_of t k) true (λ l. both t w₀ k l ≡ true) w₀ w
  row_done h = put_as (λ l. both t w₀ k l ≡ true) p.put (λ l g a. a.1) (λ l g a. (let m = p.ready.long in omega arith, a))

-- ---- place after place

pub record Turning (t : Turn) (w₀ w : List ℕ) (k : ℕ) : Type 0 where
  pub ready : Turnable t w₀
  pub kept : Within t.to (t.to + t.locals * t.width) w₀ w
  pub done : (l j : ℕ) → l < t.locals → j < k → bit w (t.to + l * t.width) j ≡ (both t w₀ j l || bit w₀ (t.to + l * t.width) j)
  pub rest : (l b : ℕ) → l < t.locals → k ≤ b → b < t.width * 64 → bit w (t.to + l * t.width) b ≡ bit w₀ (t.to + l * t.width) b
  pub at_most : k ≤ t.n

pub turn_start : {t : Turn} {w : List ℕ} → Turnable t w → Turning t w w 0
turn_start {w = w} r = record { ready = r; kept = within_refl _ _ w; done = λ l j h g. absurd (omega arith); rest = λ l b h g m. refl; at_most = omega arith }

module _ {t : Turn} {w₀ w : List ℕ} {k : ℕ} (p : Turning t w₀ w k) where
  pub turn_ready : Turnable t w
  turn_ready = turnable_kept p.ready p.kept

  pub turn_more : {w' : List ℕ} → k < t.n → Put (column_of t k) true (λ l. both t w k l ≡ true) w w' → Turning t w₀ w' (k + 1)
  turn_more {w'} h q = record {
    ready = p.ready;
    kept = within_trans p.kept q.kept;
    done = λ l j g m. same j k
        (λ e. subst (λ (x : ℕ). bit w' (t.to + l * t.width) x ≡ (both t w₀ x l || bit w₀ (t.to + l * t.width) x)) (sym e) (here l g))
        (λ d. q.others l j g (let a = p.ready.wide in omega arith) d ∙ p.done l j g (omega arith));
    rest = λ l b g m n. q.others l b g n (λ e. absurd (omega arith)) ∙ p.rest l b g (omega arith) n;
    at_most = omega arith;
  }
    where
      now-set : Marked (column_of t k) (λ l. both t w k l || marked (column_of t k) w l) w w'
      now-set = put_set (λ l. both t w k l) q (λ l g e. e) (λ l g e. e)

      here : (l : ℕ) → l < t.locals → bit w' (t.to + l * t.width) k ≡ (both t w₀ k l || bit w₀ (t.to + l * t.width) k)
      here l g =
          now-set.column l g
          ∙ ap (λ (x : Bool). x || bit w (t.to + l * t.width) k) (both_kept p.ready p.kept k l h (let a = p.ready.long in omega arith))
          ∙ ap (λ (x : Bool). both t w₀ k l || x) (p.rest l k g (omega arith) (let a = p.ready.wide in omega arith))

  pub turn_done : t.n ≤ k → Turned t w₀ w
  turn_done h = record { kept = p.kept; bits = λ l j g m. p.done l j g (omega arith); rest = λ l b g m n. p.rest l b g (let a = p.at_most in omega arith) n }

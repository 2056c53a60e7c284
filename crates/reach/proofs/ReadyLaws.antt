-- Rows lent are the records of the definitions.
use Prim.Native.Nat.{ℕ, zero, suc, ◌≤◌, ◌<◌}
use native.Mathlib.Omega.{arith}
use mathlib.Core.Path.{◌≡◌, refl, sym, ap, ◌∙◌}
use mathlib.Core.Bool.{Bool, true, false, cond, not, ◌&&◌, ◌||◌}
use mathlib.Core.Option.{Option, some, none}
use mathlib.Core.List.{List, [], ◌∷◌}
use lib.ListN.{length}
use lib.Dec.{eqb}
use Rattle.words.specs.Widths.{mention_width}
use Rattle.words.specs.Inner.{mention_count, mention_inst, mention_local}
use Rattle.words.proofs.RowLaws.{length_records, get_d_records}
use Rattle.words.proofs.Bools.{both_ways}
use Rattle.carrying.specs.Lists.{any, keep}
use Rattle.carrying.specs.Insts.{Inst, def_of}
use Rattle.carrying.specs.Carried.{Mention, mentions_of, empty}
use Rattle.carrying.proofs.CarryLaws.{def_below}
use Rattle.operands.specs.Inner.{def_number}
use Rattle.reach.specs.Inner.{latest, local_of, row_local}
use Rattle.reach.proofs.UseLaws.{Some, some_at, some_index, entry_index, index_entry}

pub def_small : (v : ℕ) (x : Inst) → def_number (def_of v x) ≤ v
def_small v x = go (def_of v x) refl
  where
    go : (o : Option ℕ) → def_of v x ≡ o → def_number o ≤ v
    go none e = omega arith
    go (some r) e = let z = def_below (record { numbered = v; insts = []; crossings = []; addresses = []; ends = [] }) x r e in omega arith

pub latest_same : (f g : ℕ → ℕ) (m k : ℕ) → ((a : ℕ) → a < k → f a ≡ g a) → latest f m k ≡ latest g m k
unfolding latest
latest_same f g m zero e = refl
latest_same f g m (suc k) e =
    ap (λ (x : ℕ). cond (eqb x m) (suc k) (latest f m k)) (e k (omega arith)) ∙ ap (λ (x : ℕ). cond (eqb (g k) m) (suc k) x) (latest_same f g m k (λ a h. e a (omega arith)))

pub local_is : (s : List ℕ) (a : ℕ) → a < mention_count s → row_local s a ≡ local_of (mentions_of s) a
local_is s a h = sym (ap (λ (m : Mention). m.local) (get_d_records mention_width (λ f. record { inst = f 0; local = f 1 }) s a (record { inst = 0; local = 0 }) h))

pub mentions_count : (s : List ℕ) → length (mentions_of s) ≡ mention_count s
mentions_count s = length_records mention_width (λ f. record { inst = f 0; local = f 1 }) s

pub empty_keep : {A : Type 0} (p : A → Bool) (l : List A) → empty (keep p l) ≡ not (any p l)
unfolding keep any
empty_keep p [] = refl
empty_keep p (a ∷ l) = go (p a) (empty_keep p l)
  where
    go : (t : Bool) → empty (keep p l) ≡ not (any p l) → empty (cond t (a ∷ keep p l) (keep p l)) ≡ not (t || any p l)
    go true e = refl
    go false e = e

pub any_keep : {A : Type 0} (p q : A → Bool) (l : List A) → any p (keep q l) ≡ any (λ x. q x && p x) l
unfolding keep any
any_keep p q [] = refl
any_keep p q (a ∷ l) = go (q a) (any_keep p q l)
  where
    go : (t : Bool) → any p (keep q l) ≡ any (λ x. q x && p x) l → any p (cond t (a ∷ keep q l) (keep q l)) ≡ (t && p a) || any (λ x. q x && p x) l
    go true e = ap (λ (u : Bool). p a || u) e
    go false e = e

-- some row passes, by its record or by its numbers
pub any_rows : (p : Mention → Bool) (s : List ℕ) (f : ℕ → Bool) → ((k : ℕ) → k < mention_count s → p (record { inst = mention_inst s k; local = mention_local s k }) ≡ f k)
    → any p (mentions_of s) ≡ Some (mention_count s) f
any_rows p s f e = both_ways _ _
    (λ t.
    let (k, h, u) = entry_index p (mention_count s) (λ k. record { inst = mention_inst s k; local = mention_local s k }) t in
    some_at (mention_count s) f k h (sym (e k h) ∙ u))
    (λ t.
    let (k, h, u) = some_index (mention_count s) f t in
    index_entry p (mention_count s) (λ k. record { inst = mention_inst s k; local = mention_local s k }) k h (e k h ∙ u))

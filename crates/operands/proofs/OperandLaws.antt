-- Laws of operands: the registers that they define, and uses by position.
use Prim.Native.Nat.{ℕ, zero, suc, ◌+◌, ◌*◌, ◌≤◌, ◌<◌}
use native.Mathlib.Nat.{add-zero}
use Rattle.words.specs.Widths.{operand_width}
use Rattle.words.specs.Inner.{operand_def}
use native.Mathlib.Numerals.{add-one}
use native.Mathlib.Omega.{arith}
use native.Mathlib.Decide.{le_ind}
use mathlib.Core.Path.{◌≡◌, refl, sym, ap, ◌∙◌}
use mathlib.Core.Logic.{◌≢◌}
use mathlib.Core.Bool.{Bool, true, false, cond, not, ◌&&◌, ◌||◌}
use mathlib.Core.Option.{Option, some, none}
use mathlib.Core.List.{List, [], ◌∷◌, ◌++◌, map, append_assoc, append-nil}
use lib.ListN.{get_or, length, drop, drop_of_length-le}
use lib.Seq.{drop-cons}
use lib.Dec.{eqb, ltb}
use borrow.Author.Tests.{eq-eqb, ne_eqb, lt-ltb, le-ltb}
use Rattle.words.specs.Rows.{tabulate}
use Rattle.words.proofs.RowLaws.{tabulate_suc, length_tabulate, get_d_tabulate}
use Rattle.carrying.specs.Lists.{keep}
use Rattle.carrying.specs.Insts.{Operand, Inst, is_set, only_one, is_use, address_position, each_address}
use Rattle.operands.specs.Inner.{def_number, addressing}

-- An operand's def is its first word.
pub def_word : (os : List ℕ) (i : ℕ) → operand_def os i ≡ get_or os (operand_width * i) 0
def_word os i = ap (λ (k : ℕ). get_or os k 0) (add-zero (operand_width * i))

-- ---- the registers that operands define

registers_of : List Operand → List ℕ
registers_of os = map (λ o. o.register) os

one : ℕ → List ℕ → Option ℕ
one v [] = none
one v (r ∷ []) = cond (ltb r v) (some r) none
one v (r ∷ s ∷ rs) = none

only_one_lem : (v : ℕ) (os : List Operand) → only_one v os ≡ one v (registers_of os)
unfolding one registers_of
only_one_lem v [] = refl
only_one_lem v (o ∷ []) = refl
only_one_lem v (o ∷ p ∷ os) = refl

keep_last : {A : Type 0} (f : A → Bool) (l : List A) (a : A) → keep f (l ++ (a ∷ [])) ≡ keep f l ++ cond (f a) (a ∷ []) []
unfolding keep
keep_last f [] a = go (f a)
  where
    go : (t : Bool) → cond t (a ∷ []) [] ≡ cond t (a ∷ []) []
    go t = refl
keep_last {A} f (b ∷ l) a = go (f b) (keep_last f l a)
  where
    go : (t : Bool) → keep f (l ++ (a ∷ [])) ≡ keep f l ++ cond (f a) (a ∷ []) []
        → cond t (b ∷ keep f (l ++ (a ∷ []))) (keep f (l ++ (a ∷ []))) ≡ cond t (b ∷ keep f l) (keep f l) ++ cond (f a) (a ∷ []) []
    go true e = ap (λ (k : List A). b ∷ k) e
    go false e = e

map_append : (l k : List Operand) → registers_of (l ++ k) ≡ registers_of l ++ registers_of k
unfolding registers_of
map_append [] k = refl
map_append (o ∷ l) k = ap (λ (r : List ℕ). o.register ∷ r) (map_append l k)

-- no register, or one
abbrev pub held : ℕ → ℕ → List ℕ
held zero r = []
held (suc c) r = r ∷ []

module _ (g : ℕ → Operand) where
  -- of the first p operands
  pub defs : ℕ → List ℕ
  unfolding registers_of
  defs p = registers_of (keep (λ o. is_set o.def) (tabulate p g))

  defs_suc : (p : ℕ) → defs (suc p) ≡ defs p ++ registers_of (cond (is_set (g p).def) (g p ∷ []) [])
  unfolding defs
  defs_suc p =
      ap (λ (l : List Operand). registers_of (keep (λ o. is_set o.def) l)) (tabulate_suc p g)
      ∙ ap registers_of (keep_last (λ o. is_set o.def) (tabulate p g) (g p))
      ∙ map_append (keep (λ o. is_set o.def) (tabulate p g)) (cond (is_set (g p).def) (g p ∷ []) [])

  defs_def : (p : ℕ) → (g p).def ≡ 1 → defs (p + 1) ≡ defs p ++ ((g p).register ∷ [])
  unfolding registers_of
  defs_def p e =
      ap defs (add-one p) ∙ defs_suc p
      ∙ ap (λ (t : Bool). defs p ++ registers_of (cond t (g p ∷ []) [])) (eq-eqb (g p).def 1 e)

  defs_use : (p : ℕ) → (g p).def ≢ 1 → defs (p + 1) ≡ defs p
  unfolding registers_of
  defs_use p e =
      ap defs (add-one p) ∙ defs_suc p
      ∙ ap (λ (t : Bool). defs p ++ registers_of (cond t (g p ∷ []) [])) (ne_eqb (g p).def 1 e) ∙ append-nil (defs p)

  defs_rest : (p n : ℕ) → p ≤ n → (rest : List ℕ) × (defs n ≡ defs p ++ rest)
  defs_rest p n h =
      le_ind {n = p} (λ m. (rest : List ℕ) × (defs m ≡ defs p ++ rest)) ([], sym (append-nil (defs p)))
      (λ m _ q. (
        q.0 ++ registers_of (cond (is_set (g m).def) (g m ∷ []) []),
        defs_suc m ∙ ap (λ (l : List ℕ). l ++ registers_of (cond (is_set (g m).def) (g m ∷ []) [])) q.1 ∙ append_assoc (defs p) q.0 _,
      )) n h

  pub found_none : defs 0 ≡ []
  unfolding defs registers_of keep tabulate
  found_none = refl

  pub found_def : (p r : ℕ) → (g p).def ≡ 1 → defs p ≡ [] → r ≡ (g p).register → defs (p + 1) ≡ r ∷ []
  found_def p r d e z = defs_def p d ∙ ap (λ (l : List ℕ). l ++ ((g p).register ∷ [])) e ∙ ap (λ (x : ℕ). x ∷ []) (sym z)

  pub found_use : (p : ℕ) (l : List ℕ) → (g p).def ≢ 1 → defs p ≡ l → defs (p + 1) ≡ l
  found_use p l d e = defs_use p d ∙ e

  abbrev pub OneDef : ℕ → ℕ → Option ℕ
  OneDef v n = only_one v (keep (λ o. is_set o.def) (tabulate n g))

  one_def : (v n : ℕ) → OneDef v n ≡ one v (defs n)
  unfolding defs
  one_def v n = only_one_lem v (keep (λ o. is_set o.def) (tabulate n g))

  pub def_two : (v p n r : ℕ) → p < n → (g p).def ≡ 1 → defs p ≡ r ∷ [] → 0 ≡ def_number (OneDef v n)
  unfolding one
  def_two v p n r h d e =
      let q = defs_rest (p + 1) n (omega arith) in
      let z : defs n ≡ r ∷ (g p).register ∷ q.0 = q.1 ∙ ap (λ (l : List ℕ). l ++ q.0) (defs_def p d ∙ ap (λ (l : List ℕ). l ++ ((g p).register ∷ [])) e) in
      sym (ap def_number (one_def v n ∙ ap (one v) z))

  pub def_none : (v n : ℕ) → defs n ≡ [] → 0 ≡ def_number (OneDef v n)
  unfolding one
  def_none v n e = sym (ap def_number (one_def v n ∙ ap (one v) e))

  pub def_one : (v n r : ℕ) → defs n ≡ r ∷ [] → r < v → r + 1 ≡ def_number (OneDef v n)
  unfolding one
  def_one v n r e h = sym (ap def_number (one_def v n ∙ ap (one v) e ∙ ap (λ (t : Bool). cond t (some r) none) (lt-ltb r v h)))

  pub def_physical : (v n r : ℕ) → defs n ≡ r ∷ [] → v ≤ r → 0 ≡ def_number (OneDef v n)
  unfolding one
  def_physical v n r e h = sym (ap def_number (one_def v n ∙ ap (one v) e ∙ ap (λ (t : Bool). cond t (some r) none) (le-ltb r v h)))

-- ---- uses by position

module _ (base index p : ℕ) where
  pub part_far : 256 ≤ p → false ≡ address_position (addressing base index) p
  part_far h = simp (le-ltb p 256 h)

  pub part_base : p < 256 → base ≡ p → true ≡ address_position (addressing base index) p
  part_base h e = simp (lt-ltb p 256 h, eq-eqb base p e)

  pub part_index : p < 256 → base ≢ p → eqb index p ≡ address_position (addressing base index) p
  part_index h e = simp (lt-ltb p 256 h, ne_eqb base p e)

module _ (r : ℕ) (o : Operand) (t : Bool) where
  pub stray_other : o.register ≢ r → false ≡ is_use r o && t
  stray_other e = simp (ne_eqb o.register r e)

  pub stray_def : o.register ≡ r → o.def ≡ 1 → false ≡ is_use r o && t
  stray_def e f = simp (eq-eqb o.register r e, eq-eqb o.def 1 f)

  pub stray_use : o.register ≡ r → o.def ≢ 1 → t ≡ is_use r o && t
  stray_use e f = simp (eq-eqb o.register r e, ne_eqb o.def 1 f)

module _ (i : Inst) (r : ℕ) (n : ℕ) (g : ℕ → Operand) where
  abbrev pub From : ℕ → Bool
  From p = each_address i r p (drop p (tabulate n g))

  each_cons : (p : ℕ) → p < n → From p ≡ (not (is_use r (g p)) || address_position i p) && From (p + 1)
  unfolding each_address
  each_cons p h =
      let l : p < length (tabulate n g) = rw (length_tabulate n g) h in
      ap (each_address i r p) (drop-cons (tabulate n g) p (g p) l)
      ∙ ap (λ (o : Operand). (not (is_use r o) || address_position i p) && each_address i r (suc p) (drop (suc p) (tabulate n g))) (get_d_tabulate n g p (g p) h)
      ∙ ap (λ (k : ℕ). (not (is_use r (g p)) || address_position i p) && each_address i r k (drop k (tabulate n g))) (sym (add-one p))

  passes : (a b c : Bool) → a && not b ≡ false → (not a || b) && c ≡ c
  passes true true c e = refl
  passes true false c e = absurd (let z : ◌≡◌ {A = ℕ} 0 1 = cc in omega arith)
  passes false b c e = refl

  fails : (a b c : Bool) → a && not b ≡ true → (not a || b) && c ≡ false
  fails true true c e = absurd (let z : ◌≡◌ {A = ℕ} 0 1 = cc in omega arith)
  fails true false c e = refl
  fails false b c e = absurd (let z : ◌≡◌ {A = ℕ} 0 1 = cc in omega arith)

  pub each_pass : (p : ℕ) → p < n → is_use r (g p) && not (address_position i p) ≡ false → From p ≡ From (p + 1)
  each_pass p h e = each_cons p h ∙ passes (is_use r (g p)) (address_position i p) (From (p + 1)) e

  pub each_fail : (p : ℕ) → p < n → is_use r (g p) && not (address_position i p) ≡ true → From p ≡ false
  each_fail p h e = each_cons p h ∙ fails (is_use r (g p)) (address_position i p) (From (p + 1)) e

  pub each_end : From n ≡ true
  unfolding each_address
  each_end = ap (each_address i r n) (drop_of_length-le (tabulate n g) {i = n} (let q = length_tabulate n g in omega arith))

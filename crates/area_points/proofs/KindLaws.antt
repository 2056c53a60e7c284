-- A local's kind is what the least set of registers that carry its address makes of it.
use Prim.Native.Nat.{ℕ}
use mathlib.Core.Path.{◌≡◌, refl, sym, ap, subst, ◌∙◌}
use mathlib.Core.Logic.{◌⊎◌, inl, inr, ◌↔◌}
use mathlib.Core.Bool.{Bool, true, false, cond, not, ◌&&◌, ◌||◌, false≢true, true≢false}
use mathlib.Core.Option.{Option, some, none}
use mathlib.Core.List.Memᴰ
use mathlib.Core.List.{List, [], ◌∷◌, Memᴰ}
use lib.Dec.{eqb}
use borrow.Author.Tests.{eqb-true, eq-eqb}
use Rattle.words.proofs.Bools.{or_left, or_right, or_cases, or_neither, and_both, and_pair}
use Rattle.carrying.specs.declared.Kind.{Kind}
use Rattle.carrying.specs.declared.Kind.TheVariants.{Unfollowed, Plain, Ending}
use Rattle.carrying.specs.Lists.{any, keep}
use Rattle.carrying.specs.Insts.{Inst, is_set, reads, addressed}
use Rattle.carrying.specs.Carried.{Mention, Code, Carries, mentions, is_none, empty, mentioned, hands, carried, undefined, stuck as isStuck, escapes, dead, escaping, ends_of, kind_of, lost as isLost}
use Rattle.carrying.proofs.ListLaws.{any_true, any_entry, kept, of_kept}
use Rattle.carrying.proofs.CarryLaws.{carried_least}
use Rattle.area_points.specs.Kinds.{Entered, Lost, Stuck, Escapes, crossing, reader, Ended, IsUnfollowed, no_entry, lost, stuck, endless, Followed, IsEnding, IsPlain}

-- ---- tests

is_none_lem : (o : Option ℕ) → is_none o ≡ true → o ≡ none
is_none_lem none e = refl
is_none_lem (some r) e = absurd (false≢true e)

none_is : (o : Option ℕ) → o ≡ none → is_none o ≡ true
none_is o e = rw e refl

-- a list that has an entry is not empty
not_empty : {A : Type 0} (l : List A) → empty l ≡ false → (a : A) × Memᴰ a l
not_empty [] e = absurd (true≢false e)
not_empty (a ∷ l) e = (a, Memᴰ.head refl)

has_entry : {A : Type 0} (l : List A) (a : A) → Memᴰ a l → empty l ≡ false
has_entry [] a m = absurd (Memᴰ.not-nil m)
has_entry (b ∷ l) a m = refl

not_so : (t : Bool) → not t ≡ true → t ≡ false
not_so false e = refl
not_so true e = absurd (false≢true e)

-- a test that says exactly P
record Says (t : Bool) (P : Type 0) : Type 0 where
  so : t ≡ true → P
  if : P → t ≡ true

-- what does not hold, the test does not say
says_not : (t : Bool) {P : Type 0} → Says t P → (P → ⊥) → t ≡ false
says_not t s f = go t refl
  where
    go : (u : Bool) → t ≡ u → t ≡ false
    go false e = e
    go true e = absurd (f (s.so e))

module _ (C : Code) (l : ℕ) where
  entered_says : Says (not (empty (mentions C.addresses l))) (Entered C l)
  entered_says = record {
    so = λ e.
        let (m, i) = not_empty (mentions C.addresses l) (not_so _ e) in
        let (j, b) = of_kept (λ (k : Mention). eqb k.local l) C.addresses m i in
        record { entry = m; listed = j; of = eqb-true m.local l b };
    if = λ x. ap not (has_entry (mentions C.addresses l) x.entry (kept (λ (k : Mention). eqb k.local l) C.addresses x.entry x.listed (eq-eqb x.entry.local l x.of)));
  }

  lost_says : Says (isLost C l) (Lost C l)
  lost_says = record {
    so = λ e.
        let (m, i, t) = any_entry (λ (m : Mention). is_set (mentioned C m).lea && undefined C (mentioned C m)) (mentions C.addresses l) e in
        let (j, b) = of_kept (λ (k : Mention). eqb k.local l) C.addresses m i in
        let (p, q) = and_both (is_set (mentioned C m).lea) (undefined C (mentioned C m)) t in
        record { own = record { entry = m; listed = j; of = eqb-true m.local l b }; lea = p; no_def = is_none_lem _ q };
    if = λ x.
        any_true (λ (m : Mention). is_set (mentioned C m).lea && undefined C (mentioned C m)) (mentions C.addresses l) x.own.entry
        (kept (λ (k : Mention). eqb k.local l) C.addresses x.own.entry x.own.listed (eq-eqb x.own.entry.local l x.own.of))
        (and_pair (is_set (mentioned C x.own.entry).lea) (undefined C (mentioned C x.own.entry)) x.lea (none_is _ x.no_def));
  }

  stuck_says : Says (dead C l) (Stuck C l)
  stuck_says = record {
    so = λ e.
        let (r, m, t) = any_entry (isStuck C) (carried C l) e in
        let (i, n, u) = any_entry (λ (i : Inst). hands C i r && undefined C i) C.insts t in
        let (p, q) = and_both (hands C i r) (undefined C i) u in
        record { register = r; carries = (carried_least C l r).0 m; inst = i; listed = n; handing = p; no_def = is_none_lem _ q };
    if = λ x.
        any_true (isStuck C) (carried C l) x.register ((carried_least C l x.register).1 x.carries)
        (any_true (λ (i : Inst). hands C i x.register && undefined C i) C.insts x.inst x.listed (and_pair (hands C x.inst x.register) (undefined C x.inst) x.handing (none_is _ x.no_def)));
  }

  abbrev otherwise : ℕ → Inst → Bool
  otherwise r i = reads i r && not (addressed i r)

  escapes_if : Escapes C l → escaping C l ≡ true
  escapes_if (crossing r c m) =
      any_true (escapes C) (carried C l) r ((carried_least C l r).1 c) (or_left (any (eqb r) C.crossings) _ (any_true (eqb r) C.crossings r m (eq-eqb r r refl)))
  escapes_if (reader r c i m e f) =
      any_true (escapes C) (carried C l) r ((carried_least C l r).1 c)
      (or_right (any (eqb r) C.crossings) _ (any_true (otherwise r) C.insts i m (and_pair (reads i r) (not (addressed i r)) e (ap not f))))

  escapes_so : escaping C l ≡ true → Escapes C l
  escapes_so e =
      let (r, m, t) = any_entry (escapes C) (carried C l) e in
      go r ((carried_least C l r).0 m) (or_cases (any (eqb r) C.crossings) (any (otherwise r) C.insts) t)
    where
      go : (r : ℕ) → Carries C l r → (any (eqb r) C.crossings ≡ true) ⊎ (any (otherwise r) C.insts ≡ true) → Escapes C l
      go r c (inl t) =
          let (x, m, u) = any_entry (eqb r) C.crossings t in
          crossing r c (rw (eqb-true r x u) m)
      go r c (inr t) =
          let (i, m, u) = any_entry (otherwise r) C.insts t in
          let (p, q) = and_both (reads i r) (not (addressed i r)) u in
          reader r c i m p (not_so (addressed i r) q)

  ended_says : Says (not (empty (ends_of C l))) (Ended C l)
  ended_says = record {
    so = λ e.
        let (p, i) = not_empty (ends_of C l) (not_so _ e) in
        let (m, n, z) = Memᴰ.of_map (λ (m : Mention). (mentioned C m).early) (keep (λ (m : Mention). is_set (mentioned C m).placed) (mentions C.ends l)) i in
        let (j, b) = of_kept (λ (m : Mention). is_set (mentioned C m).placed) (mentions C.ends l) m n in
        let (k, c) = of_kept (λ (k : Mention). eqb k.local l) C.ends m j in
        record { end = m; listed = k; of = eqb-true m.local l c; placed = b };
    if = λ x.
        ap not (has_entry (ends_of C l) (mentioned C x.end).early (Memᴰ.map (λ (m : Mention). (mentioned C m).early)
        (kept (λ (m : Mention). is_set (mentioned C m).placed) (mentions C.ends l) x.end (kept (λ (k : Mention). eqb k.local l) C.ends x.end x.listed (eq-eqb x.end.local l x.of)) x.placed)));
  }

  -- ---- the kind

  abbrev gone : Bool
  gone = empty (mentions C.addresses l) || (isLost C l || dead C l)

  gone_so : gone ≡ true → IsUnfollowed C l
  gone_so e = go (or_cases (empty (mentions C.addresses l)) _ e)
    where
      later : (isLost C l ≡ true) ⊎ (dead C l ≡ true) → IsUnfollowed C l
      later (inl f) = lost (lost_says.so f)
      later (inr f) = stuck (stuck_says.so f)

      go : (empty (mentions C.addresses l) ≡ true) ⊎ (isLost C l || dead C l ≡ true) → IsUnfollowed C l
      go (inl f) = no_entry (λ x. true≢false (sym f ∙ not_so _ (entered_says.if x)))
      go (inr f) = later (or_cases (isLost C l) (dead C l) f)

  followed_so : gone ≡ false → Followed C l
  followed_so e =
      let (a, f) = or_neither (empty (mentions C.addresses l)) _ e in
      let (b, c) = or_neither (isLost C l) (dead C l) f in
      record { entered = entered_says.so (ap not a); not_lost = λ x. true≢false (sym (lost_says.if x) ∙ b); not_stuck = λ x. true≢false (sym (stuck_says.if x) ∙ c) }

  followed_if : Followed C l → gone ≡ false
  followed_if f =
      let a : empty (mentions C.addresses l) ≡ false = not_so (empty (mentions C.addresses l)) (entered_says.if f.entered) in
      let b : isLost C l ≡ false = says_not (isLost C l) lost_says f.not_lost in
      let c : dead C l ≡ false = says_not (dead C l) stuck_says f.not_stuck in
      ap (λ (t : Bool). t || (isLost C l || dead C l)) a ∙ ap (λ (t : Bool). t || dead C l) b ∙ c

  kind_is : (g d e : Bool) → gone ≡ g → escaping C l ≡ d → empty (ends_of C l) ≡ e → kind_of C l ≡ cond g Unfollowed (cond d (cond e Unfollowed Ending) Plain)
  unfolding kind_of
  kind_is g d e x y z =
      ap (λ (t : Bool). cond t Unfollowed (cond (escaping C l) (cond (empty (ends_of C l)) Unfollowed Ending) Plain)) x
      ∙ ap (λ (t : Bool). cond g Unfollowed (cond t (cond (empty (ends_of C l)) Unfollowed Ending) Plain)) y
      ∙ ap (λ (t : Bool). cond g Unfollowed (cond d (cond t Unfollowed Ending) Plain)) z

  -- what each kind says of the local
  abbrev Is : Kind → Type 0
  Is Unfollowed = IsUnfollowed C l
  Is Plain = IsPlain C l
  Is Ending = IsEnding C l

  said : Is (kind_of C l)
  said = go gone refl (escaping C l) refl (empty (ends_of C l)) refl
    where
      by : (g : Bool) → gone ≡ g → (d : Bool) → escaping C l ≡ d → (e : Bool) → empty (ends_of C l) ≡ e → Is (cond g Unfollowed (cond d (cond e Unfollowed Ending) Plain))
      by true x d y e z = gone_so x
      by false x true y true z = endless (escapes_so y) (λ q. true≢false (sym z ∙ not_so _ (ended_says.if q)))
      by false x true y false z = record { followed = followed_so x; escapes = escapes_so y; ended = ended_says.so (ap not z) }
      by false x false y e z = record { followed = followed_so x; kept = λ q. true≢false (sym (escapes_if q) ∙ y) }

      go : (g : Bool) → gone ≡ g → (d : Bool) → escaping C l ≡ d → (e : Bool) → empty (ends_of C l) ≡ e → Is (kind_of C l)
      go g x d y e z = subst (λ (k : Kind). Is k) (sym (kind_is g d e x y z)) (by g x d y e z)

  unfollowed_if : IsUnfollowed C l → kind_of C l ≡ Unfollowed
  unfollowed_if (no_entry f) = kind_is true (escaping C l) (empty (ends_of C l)) (or_left _ _ (go (empty (mentions C.addresses l)) refl)) refl refl
    where
      go : (t : Bool) → empty (mentions C.addresses l) ≡ t → empty (mentions C.addresses l) ≡ true
      go true e = e
      go false e = absurd (f (entered_says.so (ap not e)))
  unfollowed_if (lost x) = kind_is true (escaping C l) (empty (ends_of C l)) (or_right (empty (mentions C.addresses l)) _ (or_left (isLost C l) (dead C l) (lost_says.if x))) refl refl
  unfollowed_if (stuck x) = kind_is true (escaping C l) (empty (ends_of C l)) (or_right (empty (mentions C.addresses l)) _ (or_right (isLost C l) (dead C l) (stuck_says.if x))) refl refl
  unfollowed_if (endless x f) = go gone refl (empty (ends_of C l)) refl
    where
      go : (g : Bool) → gone ≡ g → (e : Bool) → empty (ends_of C l) ≡ e → kind_of C l ≡ Unfollowed
      go true p e z = kind_is true (escaping C l) e p refl z
      go false p true z = kind_is false true true p (escapes_if x) z
      go false p false z = absurd (f (ended_says.so (ap not z)))

  -- exactly
  pub unfollowed_exact : (kind_of C l ≡ Unfollowed) ↔ IsUnfollowed C l
  unfollowed_exact = (λ e. subst (λ (k : Kind). Is k) e said, unfollowed_if)

  pub ending_exact : (kind_of C l ≡ Ending) ↔ IsEnding C l
  ending_exact = (
    λ e. subst (λ (k : Kind). Is k) e said,
    λ x. kind_is false true false (followed_if x.followed) (escapes_if x.escapes) (not_so _ (ended_says.if x.ended)),
  )

  pub plain_kind_exact : (kind_of C l ≡ Plain) ↔ IsPlain C l
  plain_kind_exact = (
    λ e. subst (λ (k : Kind). Is k) e said,
    λ x. kind_is false false (empty (ends_of C l)) (followed_if x.followed) (says_not (escaping C l) (record { so = escapes_so; if = escapes_if }) x.kept) refl,
  )

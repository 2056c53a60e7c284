-- The registers found by rounds are exactly those that carry the local's address.
use Prim.Native.Nat.{ℕ, ◌<◌}
use mathlib.Core.Path.{◌≡◌, refl, ap, sym}
use mathlib.Core.Logic.{◌⊎◌, inl, inr, ◌↔◌}
use mathlib.Core.Bool.{Bool, true, false, cond, ◌&&◌, false≢true}
use mathlib.Core.Option.{Option, some, none, none-ne-some, some-injective}
use mathlib.Core.List.{List, [], ◌∷◌, Memᴰ}
use lib.Dec.{eqb, ltb}
use borrow.Author.Tests.{eqb-true, eq-eqb, ltb-true, lt-ltb}
use Rattle.words.proofs.Bools.{or_right, and_both, or_cases, or_left, and_pair}
use Rattle.graph.specs.Paths.{Edge, edge, Link, Route, one, more, Between}
use Rattle.graph.specs.Flow.{Reached}
use Rattle.graph.specs.Rounds.{reached_row}
use Rattle.graph.proofs.RoundLaws.{reached}
use Rattle.carrying.specs.Lists.{any, keep, gather}
use Rattle.carrying.specs.Insts.{Operand, Inst, is_set, only_one, def_of, is_use, reads}
use Rattle.carrying.specs.Carried.{Code, mentions, is_some, edge_to, mentioned, hands, Carries, taken, followed, handing, handings, is_taken, carries, carried}
use Rattle.carrying.proofs.ListLaws.{any_true, any_entry, gathered, of_gathered, below_has, of_below}

is_some_is : (r : ℕ) (o : Option ℕ) → is_some r o ≡ true → o ≡ some r
is_some_is r none e = absurd (false≢true e)
is_some_is r (some s) e = ap some (eqb-true s r e)

is_is_some : (r : ℕ) (o : Option ℕ) → o ≡ some r → is_some r o ≡ true
is_is_some r o e = rw (e, eq-eqb r r refl)

-- the one def is a numbered register
only_below : (v : ℕ) (os : List Operand) (r : ℕ) → only_one v os ≡ some r → r < v
only_below v [] r e = absurd (none-ne-some r e)
only_below v (o ∷ []) r e = go (ltb o.register v) refl e
  where
    go : (t : Bool) → ltb o.register v ≡ t → cond t (some o.register) none ≡ some r → r < v
    go true h f =
        let z : o.register ≡ r = some-injective _ r f in
        rw z at (ltb-true o.register v h)
    go false h f = absurd (none-ne-some r f)
only_below v (o ∷ p ∷ os) r e = absurd (none-ne-some r e)

edge_to_is : (r : ℕ) (o : Option ℕ) (j k : ℕ) → Memᴰ (edge j k) (edge_to r o) → (j ≡ r) × (o ≡ some k)
edge_to_is r none j k m = absurd (mathlib.Core.List.Memᴰ.not-nil m)
edge_to_is r (some s) j k m = go (mathlib.Core.List.Memᴰ.cases_cons m)
  where
    go : (edge j k ≡ edge r s) ⊎ Memᴰ (edge j k) [] → (j ≡ r) × (some s ≡ some k)
    go (inl e) = (ap (λ (d : Edge). d.src) e, ap (λ (d : Edge). some d.dst) (sym e))
    go (inr n) = absurd (mathlib.Core.List.Memᴰ.not-nil n)

module _ (C : Code) where
  pub def_below : (i : Inst) (r : ℕ) → def_of C.numbered i ≡ some r → r < C.numbered
  def_below i r e = only_below C.numbered (keep (λ o. is_set o.def) i.operands) r e

  -- what an edge between registers says
  record Handed (j k : ℕ) : Type 0 where
    inst : Inst
    listed : Memᴰ inst C.insts
    numbered : j < C.numbered
    handing_it : hands C inst j ≡ true
    defined : def_of C.numbered inst ≡ some k

  link_handed : (j k : ℕ) → Link (handings C) j k → Handed j k
  link_handed j k m =
      let (i, n, l) = of_gathered (λ i. gather (λ o. handing C i o.register) i.operands) C.insts (edge j k) m in
      let (o, p, q) = of_gathered (λ o. handing C i o.register) i.operands (edge j k) l in
      go i n o.register (ltb o.register C.numbered && hands C i o.register) refl q
    where
      go : (i : Inst) → Memᴰ i C.insts → (r : ℕ) → (t : Bool) → ltb r C.numbered && hands C i r ≡ t
          → Memᴰ (edge j k) (cond t (edge_to r (def_of C.numbered i)) []) → Handed j k
      go i n r false e q = absurd (mathlib.Core.List.Memᴰ.not-nil q)
      go i n r true e q =
          let (z, d) = edge_to_is r (def_of C.numbered i) j k q in
          let (a, b) = and_both (ltb r C.numbered) (hands C i r) e in
          record { inst = i; listed = n; numbered = rw z (ltb-true r C.numbered a); handing_it = rw z b; defined = d }

  handed_link : (j k : ℕ) → Handed j k → Link (handings C) j k
  handed_link j k h =
      let (a, b) = and_both (reads h.inst j) _ h.handing_it in
      let (c, d) = and_both (is_set h.inst.placed) (any (is_use j) h.inst.operands) a in
      let (o, m, u) = any_entry (is_use j) h.inst.operands d in
      let (x, y) = and_both (eqb o.register j) _ u in
      gathered (λ i. gather (λ o. handing C i o.register) i.operands) C.insts h.inst (edge j k) h.listed
      (gathered (λ o. handing C h.inst o.register) h.inst.operands o (edge j k) m (here o.register (eqb-true _ _ x)))
    where
      here : (r : ℕ) → r ≡ j → Memᴰ (edge j k) (handing C h.inst r)
      here r z =
          let t : ltb j C.numbered && hands C h.inst j ≡ true = and_pair (ltb j C.numbered) (hands C h.inst j) (lt-ltb j C.numbered h.numbered) h.handing_it in
          let p : Memᴰ (edge j k) (cond (ltb j C.numbered && hands C h.inst j) (edge_to j (def_of C.numbered h.inst)) []) =
          rw (t, h.defined) (mathlib.Core.List.Memᴰ.head refl) in
          rw z p

  handings_between : Between C.numbered (handings C)
  handings_between = record {
    from = λ e m. (link_handed e.src e.dst m).numbered;
    to = λ e m. let h = link_handed e.src e.dst m in def_below h.inst e.dst h.defined;
  }

  module _ (l : ℕ) where
    taken_carries : (r : ℕ) → is_taken C l r ≡ true → Carries C l r
    taken_carries r e =
        let (m, n, t) = any_entry (λ m. is_set (mentioned C m).lea && is_some r (def_of C.numbered (mentioned C m))) (mentions C.addresses l) e in
        let (a, b) = and_both (is_set (mentioned C m).lea) (is_some r (def_of C.numbered (mentioned C m))) t in
        taken m n a (is_some_is r _ b)

    route_carries : (j r : ℕ) → Carries C l j → Route (handings C) j r → Carries C l r
    route_carries j r c (one a) =
        let h = link_handed j r a in
        followed c h.inst h.listed h.handing_it h.defined
    route_carries j r c (more {k = k} p a) =
        let h = link_handed k r a in
        followed (route_carries j k c p) h.inst h.listed h.handing_it h.defined

    found_carries : (r : ℕ) → carries C l r ≡ true → Carries C l r
    found_carries r e = go (or_cases (is_taken C l r) _ e)
      where
        go : (is_taken C l r ≡ true) ⊎ (reached_row C.numbered (handings C) (is_taken C l) r ≡ true) → Carries C l r
        go (inl t) = taken_carries r t
        go (inr t) =
            let (j, a, p) = (reached (handings C) C.numbered handings_between (is_taken C l) r).0 t in
            route_carries j r (taken_carries j a) p

    pub carries_below : (r : ℕ) → Carries C l r → r < C.numbered
    carries_below r (taken m n a d) = def_below (mentioned C m) r d
    carries_below r (followed c i n h d) = def_below i r d

    -- taken itself, or over edges from one that is
    carries_from : (r : ℕ) → Carries C l r → (is_taken C l r ≡ true) ⊎ Reached (handings C) (is_taken C l) r
    carries_from r (taken m n a d) =
        inl (any_true (λ m. is_set (mentioned C m).lea && is_some r (def_of C.numbered (mentioned C m))) (mentions C.addresses l) m n (and_pair _ _ a (is_is_some r _ d)))
    carries_from r (followed {q = q} c i n h d) = go (carries_from q c)
      where
        step : Link (handings C) q r
        step = handed_link q r (record { inst = i; listed = n; numbered = carries_below q c; handing_it = h; defined = d })

        go : (is_taken C l q ≡ true) ⊎ Reached (handings C) (is_taken C l) q → (is_taken C l r ≡ true) ⊎ Reached (handings C) (is_taken C l) r
        go (inl t) = inr (q, t, one step)
        go (inr (j, t, p)) = inr (j, t, more p step)

    carries_found : (r : ℕ) → Carries C l r → carries C l r ≡ true
    carries_found r c = go (carries_from r c)
      where
        go : (is_taken C l r ≡ true) ⊎ Reached (handings C) (is_taken C l) r → carries C l r ≡ true
        go (inl t) = or_left (is_taken C l r) _ t
        go (inr p) = or_right (is_taken C l r) _ ((reached (handings C) C.numbered handings_between (is_taken C l) r).1 p)

    pub carries_least : (r : ℕ) → (carries C l r ≡ true) ↔ Carries C l r
    carries_least r = (found_carries r, carries_found r)

    -- the list has exactly those registers
    pub carried_least : (r : ℕ) → Memᴰ r (carried C l) ↔ Carries C l r
    unfolding carried
    carried_least r = (
      λ m. found_carries r (of_below (carries C l) C.numbered r m).1,
      λ c. below_has (carries C l) C.numbered r (carries_below r c) (carries_found r c),
    )

-- A slot's register, moves and area, as lists, have what document 01's words give them.
use Prim.Native.Nat.{ℕ, ◌-◌, ◌+◌, min}
use native.Mathlib.Omega.{arith}
use mathlib.Core.Path.{◌≡◌, refl, sym, ap, ◌∙◌}
use mathlib.Core.Logic.{◌⊎◌, inl, inr, ◌↔◌}
use mathlib.Core.Bool.{Bool, true, false, cond}
use mathlib.Core.Option.{Option, some, none, none-ne-some, some-injective, some-ne-none}
use mathlib.Core.List.Memᴰ
use mathlib.Core.List.{List, [], ◌∷◌, ◌++◌, Memᴰ}
use lib.Dec.{eqb}
use borrow.Author.Tests.{eqb-true, eq-eqb, ne_eqb, eqb-false}
use Rattle.ranges.specs.declared.Range.{Range}
use Rattle.ranges.specs.Points.{range, Point}
use Rattle.ranges.proofs.PointLaws.{point_left, point_right, point_split}
use Rattle.ranges.proofs.MergeLaws.{merged_keeps, merged_only}
use Rattle.carrying.specs.Lists.{keep}
use Rattle.carrying.specs.Carried.{Piece, live_pieces}
use Rattle.carrying.proofs.ListLaws.{kept, of_kept, gathered, of_gathered}
use Rattle.areas.specs.Slots.{Assigned, Move, position, around, covering, moved, or_else, spilled, live_area, slot_area}
use Rattle.areas.specs.Job.{Job, slot_area_in}
use Rattle.area_points.specs.Points.{LastAssigned, Unassigned, Lives, Moves, LiveAt, MovedAt, SlotPoint, live, along, alone, SlotBare, unmoved, dead}

-- ---- the register: the last assignment that names the slot

module _ (s : ℕ) where
  unassigned_none : (list : List Assigned) → Unassigned list s → spilled list s ≡ none
  unfolding spilled
  unassigned_none [] u = refl
  unassigned_none (a ∷ l) u =
      let e = unassigned_none l (λ b m. u b (Memᴰ.tail m)) in
      let f = ne_eqb a.slot s (u a (Memᴰ.head refl)) in
      rw (e, f) refl

  none_unassigned : (list : List Assigned) → spilled list s ≡ none → Unassigned list s
  unfolding spilled
  none_unassigned [] e a m = absurd (Memᴰ.not-nil m)
  none_unassigned (b ∷ l) e a m = go (spilled l s) refl (eqb b.slot s) refl e (none_unassigned l) (Memᴰ.cases_cons m)
    where
      go : (o : Option ℕ) → spilled l s ≡ o → (t : Bool) → eqb b.slot s ≡ t → or_else o (cond t (some b.register) none) ≡ none
          → (spilled l s ≡ none → Unassigned l s) → (a ≡ b) ⊎ Memᴰ a l → a.slot ≡ s → ⊥
      go (some r) h t f e ih c g = some-ne-none r e
      go none h true f e ih c g = some-ne-none b.register e
      go none h false f e ih (inl c) g = eqb-false b.slot s f (ap (λ (x : Assigned). x.slot) (sym c) ∙ g)
      go none h false f e ih (inr c) g = ih h a c g

  last_in : (before behind : List Assigned) (r : ℕ) → Unassigned behind s → spilled (before ++ record { register = r; slot = s } ∷ behind) s ≡ some r
  unfolding spilled
  last_in [] behind r u = rw (unassigned_none behind u, eq-eqb s s refl) refl
  last_in (a ∷ l) behind r u = ap (λ (o : Option ℕ). or_else o (cond (eqb a.slot s) (some a.register) none)) (last_in l behind r u)

  last_some : (list : List Assigned) (r : ℕ) → LastAssigned list s r → spilled list s ≡ some r
  last_some list r l = ap (λ (k : List Assigned). spilled k s) l.parted ∙ last_in l.before l.behind r l.last

  some_last : (list : List Assigned) (r : ℕ) → spilled list s ≡ some r → LastAssigned list s r
  unfolding spilled
  some_last [] r e = absurd (none-ne-some r e)
  some_last (a ∷ l) r e = go (spilled l s) refl (eqb a.slot s) refl e (some_last l r)
    where
      go : (o : Option ℕ) → spilled l s ≡ o → (t : Bool) → eqb a.slot s ≡ t → or_else o (cond t (some a.register) none) ≡ some r
          → (spilled l s ≡ some r → LastAssigned l s r) → LastAssigned (a ∷ l) s r
      go (some q) h t f e ih =
          let k = ih (h ∙ e) in
          record { before = a ∷ k.before; behind = k.behind; parted = ap (λ (m : List Assigned). a ∷ m) k.parted; last = k.last }
      go none h false f e ih = absurd (none-ne-some r e)
      go none h true f e ih =
          let x = eqb-true a.slot s f in
          let y : a.register ≡ r = some-injective _ r e in
          let z : a ≡ record { register = r; slot = s } = rw (← x, ← y) refl in
          record { before = []; behind = l; parted = ap (λ (b : Assigned). b ∷ l) z; last = none_unassigned l h }

  -- the same, exactly
  pub register_is : (list : List Assigned) (r : ℕ) → (spilled list s ≡ some r) ↔ LastAssigned list s r
  register_is list r = (some_last list r, last_some list r)

  pub no_register_is : (list : List Assigned) → (spilled list s ≡ none) ↔ Unassigned list s
  no_register_is list = (none_unassigned list, unassigned_none list)

-- ---- lists

-- a list without entries
none_in : {A : Type 0} (l : List A) → ((a : A) → Memᴰ a l → ⊥) → l ≡ []
none_in [] f = refl
none_in (a ∷ l) f = absurd (f a (Memᴰ.head refl))

-- an entry, if a test says so
in_cond : {A : Type 0} (t : Bool) (a b : A) → Memᴰ b (cond t (a ∷ []) []) → (t ≡ true) × (b ≡ a)
in_cond true a b m = go (Memᴰ.cases_cons m)
  where
    go : (b ≡ a) ⊎ Memᴰ b [] → (true ≡ true) × (b ≡ a)
    go (inl e) = (refl, e)
    go (inr n) = absurd (Memᴰ.not-nil n)
in_cond false a b m = absurd (Memᴰ.not-nil m)

cond_in : {A : Type 0} (t : Bool) (a : A) → t ≡ true → Memᴰ a (cond t (a ∷ []) [])
cond_in t a e = rw e (Memᴰ.head refl)

-- ---- the live pieces of a register

module _ (ps : List Piece) (r : ℕ) where
  live_listed : (l : Lives ps r) → Memᴰ (range l.piece.start l.piece.end) (live_pieces ps r)
  live_listed l =
      Memᴰ.map (λ (p : Piece). range p.start p.end) (kept (λ (p : Piece). eqb p.register r) ps l.piece l.listed (eq-eqb l.piece.register r l.of))

  listed_live : (t : Range) → Memᴰ t (live_pieces ps r) → (l : Lives ps r) × (range l.piece.start l.piece.end ≡ t)
  listed_live t m =
      let (p, n, e) = Memᴰ.of_map (λ (p : Piece). range p.start p.end) (keep (λ (p : Piece). eqb p.register r) ps) m in
      let (i, b) = of_kept (λ (p : Piece). eqb p.register r) ps p n in
      (record { piece = p; listed = i; of = eqb-true p.register r b }, e)

  live_point : (x : ℕ) → LiveAt ps r x → Point (live_pieces ps r) x
  live_point x l = (range l.own.piece.start l.own.piece.end, live_listed l.own, l.begun, l.lasting)

  point_live : (x : ℕ) → Point (live_pieces ps r) x → LiveAt ps r x
  point_live x (t, m, h, k) =
      let (l, e) = listed_live t m in
      let a : l.piece.start ≡ t.start = ap (λ (u : Range). u.start) e in
      let b : l.piece.end ≡ t.end = ap (λ (u : Range). u.end) e in
      record { own = l; begun = omega arith; lasting = omega arith }

  no_live : (Lives ps r → ⊥) → live_pieces ps r ≡ []
  no_live f = none_in (live_pieces ps r) (λ t m. f (listed_live t m).0)

-- ---- moves

module _ (J : Job) (s : ℕ) where
  abbrev at : Move → ℕ
  at m = position J.blocks J.code.insts m.kind m.number

  abbrev ranges : List Range
  ranges = moved J.points J.blocks J.code.insts J.moves s

  move_listed : (m : Moves J.moves s) → Memᴰ (around J.points (at m.move)) ranges
  move_listed m = gathered (covering J.points J.blocks J.code.insts s) J.moves m.move (around J.points (at m.move)) m.listed (go m.names)
    where
      go : (m.move.to ≡ s) ⊎ (m.move.from ≡ s) → Memᴰ (around J.points (at m.move)) (covering J.points J.blocks J.code.insts s m.move)
      go (inl e) = Memᴰ.append_left _ (cond_in (eqb m.move.to s) (around J.points (at m.move)) (eq-eqb m.move.to s e))
      go (inr e) = Memᴰ.append_right (cond (eqb m.move.to s) (around J.points (at m.move) ∷ []) []) (cond_in (eqb m.move.from s) (around J.points (at m.move)) (eq-eqb m.move.from s e))

  listed_move : (t : Range) → Memᴰ t ranges → (m : Moves J.moves s) × (t ≡ around J.points (at m.move))
  listed_move t n =
      let (m, i, q) = of_gathered (covering J.points J.blocks J.code.insts s) J.moves t n in
      go m i (Memᴰ.append_cases (cond (eqb m.to s) (around J.points (at m) ∷ []) []) q)
    where
      go : (m : Move) → Memᴰ m J.moves → Memᴰ t (cond (eqb m.to s) (around J.points (at m) ∷ []) []) ⊎ Memᴰ t (cond (eqb m.from s) (around J.points (at m) ∷ []) [])
          → (m : Moves J.moves s) × (t ≡ around J.points (at m.move))
      go m i (inl q) =
          let (f, e) = in_cond (eqb m.to s) (around J.points (at m)) t q in
          (record { move = m; listed = i; names = inl (eqb-true m.to s f) }, e)
      go m i (inr q) =
          let (f, e) = in_cond (eqb m.from s) (around J.points (at m)) t q in
          (record { move = m; listed = i; names = inr (eqb-true m.from s f) }, e)

  move_point : (x : ℕ) → MovedAt J s x → Point ranges x
  move_point x m =
      let a = m.begun in
      let b = m.lasting in
      let c = m.inside in
      (around J.points (at m.own.move), move_listed m.own, omega arith, omega arith)

  point_move : (x : ℕ) → Point ranges x → MovedAt J s x
  point_move x (t, n, h, k) =
      let (m, e) = listed_move t n in
      let a : t.start ≡ at m.move - 1 = ap (λ (u : Range). u.start) e in
      let b : t.end ≡ min (at m.move + 1) J.points = ap (λ (u : Range). u.end) e in
      record { own = m; begun = omega arith; lasting = omega arith; inside = omega arith }

  no_move : (Moves J.moves s → ⊥) → ranges ≡ []
  no_move f = none_in ranges (λ t m. f (listed_move t m).0)

  -- ---- the area

  live_has : (ps ms rs : List Range) (x : ℕ) → live_area ps ms ≡ some rs → Point (ps ++ ms) x → Point rs x
  live_has [] ms rs x e p = absurd (none-ne-some rs e)
  live_has (q ∷ ps) ms rs x e p = rw (some-injective _ rs e) at (merged_keeps (q ∷ ps ++ ms) x p)

  live_only : (ps ms rs : List Range) (x : ℕ) → live_area ps ms ≡ some rs → Point rs x → Point (ps ++ ms) x × ((t : Range) × Memᴰ t ps)
  live_only [] ms rs x e p = absurd (none-ne-some rs e)
  live_only (q ∷ ps) ms rs x e p = (merged_only (q ∷ ps ++ ms) x (rw (← some-injective _ rs e) at p), (q, Memᴰ.head refl))

  moves_has : (ms rs : List Range) (x : ℕ) → slot_area J.pieces none ms ≡ some rs → Point ms x → Point rs x
  moves_has [] rs x e p = absurd (none-ne-some rs e)
  moves_has (m ∷ ms) rs x e p = rw (some-injective _ rs e) at (merged_keeps (m ∷ ms) x p)

  moves_only : (ms rs : List Range) (x : ℕ) → slot_area J.pieces none ms ≡ some rs → Point rs x → Point ms x
  moves_only [] rs x e p = absurd (none-ne-some rs e)
  moves_only (m ∷ ms) rs x e p = merged_only (m ∷ ms) x (rw (← some-injective _ rs e) at p)

  -- by the slot's register
  by_register : (o : Option ℕ) (a : Option (List Range)) → spilled J.assigned s ≡ o → slot_area_in J s ≡ a → slot_area J.pieces o ranges ≡ a
  by_register o a e f = sym (ap (λ (p : Option ℕ). slot_area J.pieces p ranges) e) ∙ f

  slot_has : (rs : List Range) (x : ℕ) → slot_area_in J s ≡ some rs → SlotPoint J s x → Point rs x
  slot_has rs x e (live r l p) =
      live_has (live_pieces J.pieces r) ranges rs x (by_register (some r) (some rs) (last_some s J.assigned r l) e) (point_left ranges (live_point J.pieces r x p))
  slot_has rs x e (along r l q m) =
      live_has (live_pieces J.pieces r) ranges rs x (by_register (some r) (some rs) (last_some s J.assigned r l) e) (point_right (live_pieces J.pieces r) (move_point x m))
  slot_has rs x e (alone u m) = moves_has ranges rs x (by_register none (some rs) (unassigned_none s J.assigned u) e) (move_point x m)

  slot_only : (rs : List Range) (x : ℕ) → slot_area_in J s ≡ some rs → Point rs x → SlotPoint J s x
  slot_only rs x e p = go (spilled J.assigned s) refl e
    where
      of_live : (r : ℕ) → LastAssigned J.assigned s r → Lives J.pieces r → Point (live_pieces J.pieces r) x ⊎ Point ranges x → SlotPoint J s x
      of_live r l q (inl y) = live r l (point_live J.pieces r x y)
      of_live r l q (inr y) = along r l q (point_move x y)

      go : (o : Option ℕ) → spilled J.assigned s ≡ o → slot_area J.pieces o ranges ≡ some rs → SlotPoint J s x
      go (some r) h f =
          let (y, (t, m)) = live_only (live_pieces J.pieces r) ranges rs x f p in
          of_live r (some_last s J.assigned r h) (listed_live J.pieces r t m).0 (point_split (live_pieces J.pieces r) ranges x y)
      go none h f = alone (none_unassigned s J.assigned h) (point_move x (moves_only ranges rs x f p))

  -- a slot's area has exactly the points that its moves and its register's live pieces give it
  pub slot_exact : (rs : List Range) (x : ℕ) → slot_area_in J s ≡ some rs → Point rs x ↔ SlotPoint J s x
  slot_exact rs x e = (slot_only rs x e, slot_has rs x e)

  bare_none : SlotBare J s → slot_area_in J s ≡ none
  bare_none (unmoved u f) =
      ap (λ (o : Option ℕ). slot_area J.pieces o ranges) (unassigned_none s J.assigned u) ∙ ap (slot_area J.pieces none) (no_move f)
  bare_none (dead r l f) =
      ap (λ (o : Option ℕ). slot_area J.pieces o ranges) (last_some s J.assigned r l) ∙ ap (λ (ps : List Range). live_area ps ranges) (no_live J.pieces r f)

  no_piece : (ps ms : List Range) → live_area ps ms ≡ none → (t : Range) → Memᴰ t ps → ⊥
  no_piece [] ms f t m = Memᴰ.not-nil m
  no_piece (p ∷ ps) ms f t m = some-ne-none _ f

  nothing : (ms : List Range) → slot_area J.pieces none ms ≡ none → (t : Range) → Memᴰ t ms → ⊥
  nothing [] f t m = Memᴰ.not-nil m
  nothing (a ∷ ms) f t m = some-ne-none _ f

  none_bare : slot_area_in J s ≡ none → SlotBare J s
  none_bare e = go (spilled J.assigned s) refl e
    where
      go : (o : Option ℕ) → spilled J.assigned s ≡ o → slot_area J.pieces o ranges ≡ none → SlotBare J s
      go (some r) h f = dead r (some_last s J.assigned r h) (λ l. no_piece (live_pieces J.pieces r) ranges f _ (live_listed J.pieces r l))
      go none h f = unmoved (none_unassigned s J.assigned h) (λ m. nothing ranges f _ (move_listed m))

  -- a slot without area has no point
  pub slot_none : (x : ℕ) → slot_area_in J s ≡ none → SlotPoint J s x → ⊥
  slot_none x e (live r l p) = no_piece (live_pieces J.pieces r) ranges (by_register (some r) none (last_some s J.assigned r l) e) _ (live_listed J.pieces r p.own)
  slot_none x e (along r l q m) = no_piece (live_pieces J.pieces r) ranges (by_register (some r) none (last_some s J.assigned r l) e) _ (live_listed J.pieces r q)
  slot_none x e (alone u m) = nothing ranges (by_register none none (unassigned_none s J.assigned u) e) _ (move_listed m.own)

  pub bare_exact : (slot_area_in J s ≡ none) ↔ SlotBare J s
  bare_exact = (none_bare, bare_none)

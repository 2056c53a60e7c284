-- An item that is held is in its area all the way: a walk keeps to the points that paths give.
use Prim.Native.Nat.{ℕ, zero, suc, ◌≤◌, ◌<◌}
use native.Mathlib.Omega.{arith}
use native.Mathlib.Decide.{ℕ_discrete, dec_le}
use mathlib.Core.Path.{◌≡◌, refl, ap, sym, ◌∙◌, subst}
use mathlib.Core.Logic.{◌≢◌, ◌⊎◌, inl, inr}
use mathlib.Core.Bool.{Bool, true, false, not, ◌&&◌, ◌||◌}
use mathlib.Core.Option.{Option, some, none, none-ne-some, some-injective}
use mathlib.Core.List.{List, Memᴰ}
use lib.ListN.{length, get_elem?}
use lib.Dec.{eqb, leb}
use borrow.Author.Tests.{eqb-false, leb-true, le-leb, not-false}
use Rattle.words.proofs.Bools.{or_right, or_left, and_pair}
use Rattle.ranges.specs.declared.Range.{Range}
use Rattle.ranges.specs.Points.{Point, inside}
use Rattle.ranges.proofs.PointLaws.{inside_point}
use Rattle.graph.specs.Paths.{edge, Link, one, more, Between}
use Rattle.graph.specs.Flow.{Reached, Reaching, Arrives, left, passed}
use Rattle.graph.specs.Line.{Sound}
use Rattle.graph.proofs.RoundLaws.{cons_route}
use Rattle.graph.proofs.Line.{mem_at}
use Rattle.carrying.specs.Lists.{any}
use Rattle.carrying.proofs.ListLaws.{any_true, any_false, false_any}
use Rattle.areas.specs.Blocks.{Graph, top, bottom, InBlock, bounds, between, clip, touched, cover, leaves, passes, AllInLine}
use Rattle.areas.specs.Areas.{Started, Stopping, PlainAt, both, part, UpTo, EndAt, covered, arrived, PlainPoint, EndPoint}
use Rattle.areas.proofs.BlockLaws.{seen, touched_bound, touched_between}
use Rattle.areas.proofs.EndLaws.{until_has}
use Rattle.soundness.specs.Walks.{Access, unfollowed, plain, ending, slot, Frame, Step, next, over, read, write, goes, emptied, edge_at, moved, at, point, place, Permits, Crosses, LegalStep, Legal, Alike}
use Rattle.soundness.specs.Inner.{Separate}
use Rattle.soundness.proofs.Agreement.{Held, alike}

-- what the areas supply: an unfollowed local has none, and an area has at least the points that paths give
abbrev pub Covers : Graph → Access → Option (List Range) → Type 0
Covers G unfollowed a = a ≡ none
Covers G (plain ts) a =
    AllInLine G.blocks ts × ((rs : List Range) → a ≡ some rs → (x : ℕ) → PlainPoint G ts x → Point rs x)
Covers G (ending ts es) a = (rs : List Range) → a ≡ some rs → (x : ℕ) → EndPoint G ts es x → Point rs x
Covers G slot a = Unit {0}

abbrev pub Covering : Frame → Type 0
Covering F = (i : ℕ) → i < F.items → Covers F.graph (F.access i) (F.area i)

-- a point that is no end
not_end : (x e : ℕ) (es : List ℕ) → any (eqb x) es ≡ false → Memᴰ e es → x ≢ e
not_end x e es h m = eqb-false x e (any_false (eqb x) es h e m)

-- what is known at a point with a touch behind it, and with a touch in front of it
data Behind (G : Graph) (ts : List Range) (k x : ℕ) : Type 0 where
  inner : (t : Range) → Memᴰ t ts → between G k t ≡ true → Behind G ts k x
  reached : Reached G.edges (touched G ts) k → Behind G ts k x
  started : Started G ts k x → Behind G ts k x

data Ahead (G : Graph) (ts : List Range) (k x : ℕ) : Type 0 where
  inner : (t : Range) → Memᴰ t ts → between G k t ≡ true → Ahead G ts k x
  reaching : Reaching G.edges (touched G ts) k → Ahead G ts k x
  stopping : Stopping G ts k x → Ahead G ts k x

module _ (G : Graph) (S : Sound G.blocks) (ts : List Range) where
  behind_start : (k x : ℕ) → InBlock G k x → Point ts x → Behind G ts k x
  behind_start k x b (t, m, h, l) = go (seen G S k x t b h l)
    where
      go : (between G k t ≡ true) ⊎ (bounds G k t ≡ true) → Behind G ts k x
      go (inl e) = Behind.inner t m e
      go (inr e) = Behind.started (record { touch = t; listed = m; bound = e; begun = h })

  ahead_start : (k x : ℕ) → InBlock G k x → Point ts x → Ahead G ts k x
  ahead_start k x b (t, m, h, l) = go (seen G S k x t b h l)
    where
      go : (between G k t ≡ true) ⊎ (bounds G k t ≡ true) → Ahead G ts k x
      go (inl e) = Ahead.inner t m e
      go (inr e) = Ahead.stopping (record { touch = t; listed = m; bound = e; lasting = l })

  behind_next : (k x : ℕ) → Behind G ts k x → Behind G ts k (suc x)
  behind_next k x (Behind.inner t m e) = Behind.inner t m e
  behind_next k x (Behind.reached r) = Behind.reached r
  behind_next k x (Behind.started s) =
      let h = s.begun in
      Behind.started (record { touch = s.touch; listed = s.listed; bound = s.bound; begun = omega arith })

  ahead_next : (k x : ℕ) → Ahead G ts k (suc x) → Ahead G ts k x
  ahead_next k x (Ahead.inner t m e) = Ahead.inner t m e
  ahead_next k x (Ahead.reaching r) = Ahead.reaching r
  ahead_next k x (Ahead.stopping s) =
      let h = s.lasting in
      Ahead.stopping (record { touch = s.touch; listed = s.listed; bound = s.bound; lasting = omega arith })

  meet : (k x : ℕ) → Behind G ts k x → Ahead G ts k x → PlainAt G ts k x
  meet k x (Behind.inner t m e) a = PlainAt.inner t m e
  meet k x (Behind.reached r) (Ahead.inner t m e) = PlainAt.inner t m e
  meet k x (Behind.reached r) (Ahead.reaching s) = both r s
  meet k x (Behind.reached r) (Ahead.stopping s) = part s.touch s.listed s.bound (inl r) (inr s)
  meet k x (Behind.started r) (Ahead.inner t m e) = PlainAt.inner t m e
  meet k x (Behind.started r) (Ahead.reaching s) = part r.touch r.listed r.bound (inr r) (inl s)
  meet k x (Behind.started r) (Ahead.stopping s) = part r.touch r.listed r.bound (inr r) (inr s)

  module _ (fine : AllInLine G.blocks ts) where
    behind_over : (k x l : ℕ) → InBlock G k x → Link G.edges k l → Behind G ts k x → Reached G.edges (touched G ts) l
    behind_over k x l b a (Behind.inner t m e) = (k, touched_between G S ts k t m (fine t m) b.block e, one a)
    behind_over k x l b a (Behind.reached (j, t, r)) = (j, t, more r a)
    behind_over k x l b a (Behind.started s) = (k, touched_bound G S ts k s.touch s.listed (fine _ s.listed) s.bound, one a)

    ahead_over : (k l x : ℕ) → InBlock G l x → Link G.edges k l → Ahead G ts l x → Reaching G.edges (touched G ts) k
    ahead_over k l x b a (Ahead.inner t m e) = (l, touched_between G S ts l t m (fine t m) b.block e, one a)
    ahead_over k l x b a (Ahead.reaching (j, t, r)) = (j, t, cons_route a r)
    ahead_over k l x b a (Ahead.stopping s) = (l, touched_bound G S ts l s.touch s.listed (fine _ s.listed) s.bound, one a)

  module _ (es : List ℕ) where
    ends_start : (k x : ℕ) → InBlock G k x → Point ts x → EndAt G ts es k x
    ends_start k x b (t, m, h, l) = go (seen G S k x t b h l)
      where
        go : (between G k t ≡ true) ⊎ (bounds G k t ≡ true) → EndAt G ts es k x
        go (inl e) = EndAt.inner t m e
        go (inr e) =
            let u = b.under in
            covered t m e h (λ d n z. omega arith)

    -- the next point, where this one is no end
    upto_next : (z x : ℕ) → any (eqb x) es ≡ false → UpTo es z x → UpTo es z (suc x)
    upto_next z x h u e m l =
        let a : x ≢ e = not_end x e es h m in
        omega (arith, u e m l)

    ends_next : (k x : ℕ) → any (eqb x) es ≡ false → EndAt G ts es k x → EndAt G ts es k (suc x)
    ends_next k x h (EndAt.inner t m e) = EndAt.inner t m e
    ends_next k x h (covered t m e b u) = covered t m e (omega arith) (upto_next _ x h u)
    ends_next k x h (arrived a u) = arrived a (upto_next _ x h u)

    leaves_test : (k : ℕ) (t : Range) → Memᴰ t ts → between G k t || bounds G k t && leb (bottom G k) (cover G es k t).end ≡ true → leaves G ts es k ≡ true
    leaves_test k t m e = any_true (λ s. between G k s || bounds G k s && leb (bottom G k) (cover G es k s).end) ts t m e

    ends_over : (k x l : ℕ) → x ≡ bottom G k → Link G.edges k l → any (eqb x) es ≡ false → EndAt G ts es k x → Arrives G.edges (leaves G ts es) (passes G es) l
    ends_over k x l z a h (EndAt.inner t m e) = left a (leaves_test k t m (or_left (between G k t) _ e))
    ends_over k x l z a h (covered t m e b u) =
        let c : UpTo es (clip G k t).end (bottom G k) = rw z at u in
        left a (leaves_test k t m (or_right (between G k t) _ (and_pair (bounds G k t) _ e (le-leb _ _ (until_has es (clip G k t).end (bottom G k) (bottom G k) (omega arith) c)))))
    ends_over k x l z a h (arrived r u) =
        passed a r (ap not (false_any (λ e. leb (top G k) e && leb e (bottom G k)) es (λ e m. outside e m (leb (top G k) e) refl (leb e (bottom G k)) refl)))
      where
        outside : (e : ℕ) → Memᴰ e es → (s : Bool) → leb (top G k) e ≡ s → (t : Bool) → leb e (bottom G k) ≡ t → s && t ≡ false
        outside e m false p t q = refl
        outside e m true p false q = refl
        outside e m true p true q =
            let d : x ≢ e = not_end x e es h m in
            let i = u e m (leb-true _ _ p) in
            let j = leb-true e (bottom G k) q in
            absurd (omega arith)

module _ (F : Frame) (first : ℕ) (w : List Step) where
  -- what a step does to the position, for a property of positions
  Moves : (ℕ → ℕ → Type 0) → ℕ → Type 0
  Moves P l = P (place F first w l) (point F first w l) → P (place F first w (suc l)) (point F first w (suc l))

  Back : (ℕ → ℕ → Type 0) → ℕ → Type 0
  Back P l = P (place F first w (suc l)) (point F first w (suc l)) → P (place F first w l) (point F first w l)

  forward : (P : ℕ → ℕ → Type 0) (q n : ℕ) → q ≤ n → ((l : ℕ) → q ≤ l → l < n → Moves P l)
      → P (place F first w q) (point F first w q) → P (place F first w n) (point F first w n)
  unfolding Moves
  forward P q zero h f p =
      let z : q ≡ 0 = omega arith in
      rw z at p
  forward P q (suc n) h f p = go (ℕ_discrete q (suc n)) (forward P q n)
    where
      go : Dec (q ≡ suc n) → (q ≤ n → ((l : ℕ) → q ≤ l → l < n → Moves P l) → P (place F first w q) (point F first w q) → P (place F first w n) (point F first w n))
          → P (place F first w (suc n)) (point F first w (suc n))
      go (yes z) ih = rw z at p
      go (no d) ih = f n (omega arith) (omega arith) (ih (omega arith) (λ l a b. f l a (omega arith)) p)

  backward : (P : ℕ → ℕ → Type 0) (m n : ℕ) → m ≤ n → ((l : ℕ) → m ≤ l → l < n → Back P l)
      → P (place F first w n) (point F first w n) → P (place F first w m) (point F first w m)
  unfolding Back
  backward P m zero h f p =
      let z : m ≡ 0 = omega arith in
      rw z p
  backward P m (suc n) h f p = go (ℕ_discrete m (suc n)) (backward P m n)
    where
      go : Dec (m ≡ suc n) → (m ≤ n → ((l : ℕ) → m ≤ l → l < n → Back P l) → P (place F first w n) (point F first w n) → P (place F first w m) (point F first w m))
          → P (place F first w m) (point F first w m)
      go (yes z) ih = rw z p
      go (no d) ih = ih (omega arith) (λ l a b. f l a (omega arith)) (f n (omega arith) (omega arith) p)

  module _ (S : Sound F.graph.blocks) (B : Between (length F.graph.blocks) F.graph.edges) (L : Legal F first w) where
    edge_in : (e : ℕ) → e < length F.graph.edges → Link F.graph.edges (edge_at F.graph e).src (edge_at F.graph e).dst
    edge_in e h = mem_at F.graph.edges e (edge 0 0) h

    link : (e n : ℕ) → Crosses F first w e n → Link F.graph.edges (place F first w n) (edge_at F.graph e).dst
    link e n c = subst (λ (j : ℕ). Link F.graph.edges j (edge_at F.graph e).dst) c.here (edge_in e c.listed)

    block_step : (s : Option Step) (n : ℕ) → LegalStep F first w s n → InBlock F.graph (place F first w n) (point F first w n)
        → InBlock F.graph (moved F.graph s (at F first w n)).place (moved F.graph s (at F first w n)).point
    block_step none n h b = b
    block_step (some next) n h b =
        let a = b.above in
        record { block = b.block; above = omega arith; under = h }
    block_step (some (over e)) n h b =
        let t = B.to _ (edge_in e h.listed) in
        record { block = t; above = omega arith; under = S.upright _ t }
    block_step (some (read i d)) n h b = b
    block_step (some (write i d)) n h b = b

    pub in_block : (n : ℕ) → InBlock F.graph (place F first w n) (point F first w n)
    unfolding at
    in_block zero = record { block = L.begins; above = omega arith; under = S.upright _ L.begins }
    in_block (suc n) = block_step (get_elem? w n) n (L.steps n) (in_block n)

    module _ (ts : List Range) (fine : AllInLine F.graph.blocks ts) where
      behind-step : (l : ℕ) → Moves (Behind F.graph ts) l
      unfolding at Moves
      behind-step l = go (get_elem? w l) (L.steps l)
        where
          go : (s : Option Step) → LegalStep F first w s l → Behind F.graph ts (place F first w l) (point F first w l)
              → Behind F.graph ts (moved F.graph s (at F first w l)).place (moved F.graph s (at F first w l)).point
          go none h p = p
          go (some next) h p = behind_next F.graph S ts _ _ p
          go (some (over e)) h p = Behind.reached (behind_over F.graph S ts fine _ _ _ (in_block l) (link e l h) p)
          go (some (read i d)) h p = p
          go (some (write i d)) h p = p

      ahead_step : (l : ℕ) → Back (Ahead F.graph ts) l
      unfolding at Back
      ahead_step l = go (get_elem? w l) (L.steps l) (in_block (suc l))
        where
          go : (s : Option Step) → LegalStep F first w s l → InBlock F.graph (moved F.graph s (at F first w l)).place (moved F.graph s (at F first w l)).point
              → Ahead F.graph ts (moved F.graph s (at F first w l)).place (moved F.graph s (at F first w l)).point → Ahead F.graph ts (place F first w l) (point F first w l)
          go none h b p = p
          go (some next) h b p = ahead_next F.graph S ts _ _ p
          go (some (over e)) h b p = Ahead.reaching (ahead_over F.graph S ts fine _ _ _ b (link e l h) p)
          go (some (read i d)) h b p = p
          go (some (write i d)) h b p = p

      -- every point with a touch behind it and a touch in front of it along the walk is in the area
      held_plain : (q m n : ℕ) → q ≤ m → m ≤ n → Point ts (point F first w q) → Point ts (point F first w n) → PlainPoint F.graph ts (point F first w m)
      held_plain q m n h k a c = (
        place F first w m,
        in_block m,
        meet F.graph S ts _ _
            (forward (Behind F.graph ts) q m h (λ l x y. behind-step l) (behind_start F.graph S ts _ _ (in_block q) a))
            (backward (Ahead F.graph ts) m n k (λ l x y. ahead_step l) (ahead_start F.graph S ts _ _ (in_block n) c)),
      )

    module _ (ts : List Range) (es : List ℕ) where
      ends-step : (l : ℕ) → (goes (get_elem? w l) ≡ true → any (eqb (point F first w l)) es ≡ false) → Moves (EndAt F.graph ts es) l
      unfolding at Moves
      ends-step l = go (get_elem? w l) (L.steps l)
        where
          go : (s : Option Step) → LegalStep F first w s l → (goes s ≡ true → any (eqb (point F first w l)) es ≡ false)
              → EndAt F.graph ts es (place F first w l) (point F first w l)
              → EndAt F.graph ts es (moved F.graph s (at F first w l)).place (moved F.graph s (at F first w l)).point
          go none h f p = p
          go (some next) h f p = ends_next F.graph S ts es _ _ (f refl) p
          go (some (over e)) h f p = arrived (ends_over F.graph S ts es _ _ _ h.last (link e l h) (f refl) p) (λ d m g. g)
          go (some (read i d)) h f p = p
          go (some (write i d)) h f p = p

      -- every point reached from a touch with none of the ends left on the way is in the area
      held-ending : (m n : ℕ) → m ≤ n → Point ts (point F first w m)
          → ((l : ℕ) → m ≤ l → l < n → goes (get_elem? w l) ≡ true → any (eqb (point F first w l)) es ≡ false)
          → EndPoint F.graph ts es (point F first w n)
      held-ending m n h a f = (
        place F first w n,
        in_block n,
        forward (EndAt F.graph ts es) m n h (λ l x y. ends-step l (f l x y)) (ends_start F.graph S ts es _ _ (in_block m) a),
      )

    -- a slot that nothing empties stays in its area
    slot_step : (rs : List Range) (l : ℕ) → goes (get_elem? w l) && not (inside (point F first w (suc l)) rs) ≡ false → Moves (λ k x. Point rs x) l
    unfolding at Moves
    slot_step rs l = go (get_elem? w l)
      where
        go : (s : Option Step) → goes s && not (inside (moved F.graph s (at F first w l)).point rs) ≡ false → Point rs (point F first w l)
            → Point rs (moved F.graph s (at F first w l)).point
        go none h p = p
        go (some next) h p = inside_point _ rs (not-false _ h)
        go (some (over e)) h p = inside_point _ rs (not-false _ h)
        go (some (read i d)) h p = p
        go (some (write i d)) h p = p

    held_by : (k : Access) (a : Option (List Range)) → Covers F.graph k a → (rs : List Range) → a ≡ some rs → (q m n : ℕ) → q ≤ m → m ≤ n
        → Permits F first w k a q → Permits F first w k a n
        → ((l : ℕ) → q ≤ l → l < n → goes (get_elem? w l) && emptied k a (point F first w l) (point F first w (suc l)) ≡ false)
        → Point rs (point F first w m)
    held_by unfollowed a c rs z q m n h k p r f = absurd (none-ne-some rs (sym c ∙ z))
    held_by (plain ts) a c rs z q m n h k p r f = c.1 rs z _ (held_plain ts c.0 q m n h k p r)
    held_by (ending ts es) a c rs z q m n h k (t, x, y, g) r f = c rs z _ (held-ending ts es t m (omega arith) y quiet)
      where
        quiet : (l : ℕ) → t ≤ l → l < m → goes (get_elem? w l) ≡ true → any (eqb (point F first w l)) es ≡ false
        quiet l u v o = go (dec_le q l)
          where
            go : Dec (q ≤ l) → any (eqb (point F first w l)) es ≡ false
            go (yes d) = rw o at (f l d (omega arith))
            go (no d) = g l u (omega arith) o
    held_by slot none c rs z q m n h k p r f = absurd (none-ne-some rs z)
    held_by slot (some vs) c rs z q m n h k p r f =
        let y : vs ≡ rs = some-injective vs rs z in
        rw y at (forward (λ k x. Point vs x) q m h (λ l u v. slot_step vs l (f l u (omega arith))) p)

    held : Covering F → Held F first w
    held C i h rs z q m n = held_by (F.access i) (F.area i) (C i h) rs z q m n

-- demand 3 of any frame: areas that cover what paths give, any cells that keep their items apart, every walk
pub reads_alike : (F : Frame) (cell : ℕ → ℕ) → Sound F.graph.blocks → Between (length F.graph.blocks) F.graph.edges → Covering F → Separate F cell
    → (first : ℕ) (w : List Step) → Legal F first w → Alike F first w cell
reads_alike F cell S B C D first w L = alike F first w cell L D (held F first w S B L C)

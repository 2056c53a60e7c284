-- What the walk finds is what the definitions of carrying say.
use Prim.Native.Nat.{ℕ, zero, suc, ◌+◌, ◌-◌, ◌*◌, ◌/◌, ◌%◌, ◌≤◌, ◌<◌}
use native.Mathlib.Omega.{arith}
use native.Mathlib.Nat.{add-zero}
use mathlib.Core.Path.{◌≡◌, refl, sym, ap, ◌∙◌, subst}
use mathlib.Core.Logic.{◌≢◌, ◌⊎◌, inl, inr}
use mathlib.Core.Bool.{Bool, true, false, not, ◌&&◌, ◌||◌, true≢false, false≢true}
use mathlib.Core.Option.{Option, some, none}
use mathlib.Core.List.{List, Memᴰ}
use lib.ListN.{length, get_or}
use lib.Dec.{eqb}
use borrow.Author.Tests.{eqb-true, eq-eqb}
use Rattle.graph.specs.Inner.Work.{Within}
use Rattle.graph.proofs.Line.{mem_at, at_mem}
use Rattle.words.specs.Inner.{inst_lea, mention_inst, mention_local}
use Rattle.words.specs.Widths.{mention_width, address_count}
use Rattle.words.specs.Regions.{row_words}
use Rattle.words.proofs.RowLaws.{mem_tabulate, mem_of_tabulate}
use Rattle.words.proofs.Points.{cut}
use Rattle.words.proofs.Bools.{or_right, and_both, or_cases, or_left, and_pair, both_ways}
use Rattle.bits.specs.Bits.{bit, bit_of}
use Rattle.bits.proofs.DigitLaws.{bit_zero}
use Rattle.carrying.specs.declared.Kind.{Kind}
use Rattle.carrying.specs.declared.Kind.TheVariants.{Unfollowed}
use Rattle.carrying.specs.Lists.{any}
use Rattle.carrying.specs.Insts.{Inst, insts_of, inst_at, def_of, is_set}
use Rattle.carrying.specs.Inner.{no_inst}
use Rattle.carrying.specs.Carried.{Code, Mention, mentions, mentioned, is_none, Carries, taken, followed, carried, lost, dead, stuck, escapes, escaping, ends_of, empty, kind_of}
use Rattle.carrying.proofs.ListLaws.{any_true, any_entry, kept, of_kept}
use Rattle.carrying.proofs.CarryLaws.{carries_below, carried_least}
use Rattle.insts.proofs.DealtLaws.{insts_length, lea_is}
use Rattle.reach.specs.declared.Lay.{Lay}
use Rattle.operands.specs.Inner.{def_number}
use Rattle.reach.specs.Inner.{key, latest, lea_reader, Hands, Prepared, row_local}
use Rattle.reach.specs.Prepared.{code_of}
use Rattle.reach.proofs.UseLaws.{by_bool, not_false, Some, some_at, some_index}
use Rattle.reach.proofs.ReadyLaws.{empty_keep, any_rows}
use Rattle.reach.proofs.ScanLaws.{same_bit, number_is, none_number}
use Rattle.follow.specs.declared.Sizes.{Sizes}
use Rattle.follow.specs.declared.Begun.{Begun}
use Rattle.follow.specs.declared.Walk.{Walk}
use Rattle.queue.specs.Inner.{def_at, queued, Held, Listed}
use Rattle.follow.specs.Inner.{Walkable, Edge, Entry, Chain, Began, register_at, Walking, Walked, Unseen, kind_by, Empty, FollowedTo}
use Rattle.queue.proofs.QueueLaws.{grew_def, grew_listed}
use Rattle.follow.proofs.WalkLaws.{edge_on, edge_back}
use Rattle.follow.proofs.BeginLaws.{latest_le, latest_is, latest_gap}

-- nothing is queued or seen yet
pub held_none : (lay : Lay) (z : Sizes) (w : List ℕ) → Walkable lay z w → Empty lay z.v w → Held z.v z.insts lay w 0
held_none lay z w t e = record {
  seen_fits = (let l = t.laid in omega arith);
  defs_fits = (let l = t.laid in omega arith);
  queue_fits = (let l = t.laid in omega arith);
  def_le = t.def_le;
  n_le = omega arith;
  low = λ k h. absurd (omega arith);
  defined = λ k h. absurd (omega arith);
  marked = λ k h. absurd (omega arith);
  listed = λ r h b. absurd (true≢false (sym b ∙ ap (λ (y : ℕ). bit_of y (r % 64)) (e.unseen (r / 64) (omega arith)) ∙ bit_zero (r % 64)));
  differ = λ j k a h. absurd (omega arith);
  words = λ x h. inl (e.unseen x h);
}

-- a walk and the way back leave everything but the queue as it was
pub follow_kept : {lay : Lay} {z : Sizes} {insts addresses : List ℕ} {l : ℕ} {whole : Bool} {w₀ w₁ w₂ w₃ : List ℕ} {b : Begun} {s : Walk} → Walkable lay z w₀ → Empty lay z.v w₀
    → Began lay z insts addresses l w₀ w₁ b → Walked lay z w₁ w₂ b whole s → Unseen lay z w₂ w₃ s.count → Within lay.queue (lay.queue + z.insts) w₀ w₃
follow_kept {lay} {z} {w₀ = w₀} {w₃ = w₃} {s = s} t e₀ bg wk un = record {
  len = un.len ∙ wk.walking.grew.len ∙ bg.grew.len;
  below = λ k h. cut lay.seen k
      (λ a. cut (lay.seen + row_words z.v) k
      (λ c. whole_way k (inr c) (inl h))
      (λ c.
      let y : lay.seen + (k - lay.seen) ≡ k = omega arith in
      let o : get_or w₃ (lay.seen + (k - lay.seen)) 0 ≡ get_or w₀ (lay.seen + (k - lay.seen)) 0 = un.seen (k - lay.seen) (omega arith) ∙ sym (e₀.unseen (k - lay.seen) (omega arith)) in
      rw y at o))
      (λ a. whole_way k (inl a) (inl h));
  past = λ k h. whole_way k (inr (let y = t.laid in omega arith)) (inr h);
}
  where
    left : (k : ℕ) → (k < lay.queue) ⊎ (lay.queue + z.insts ≤ k) → (k < lay.queue) ⊎ (lay.queue + s.count ≤ k)
    left k (inl h) = inl h
    left k (inr h) = inr (let q = wk.walking.grew.held.n_le in omega arith)

    whole_way : (k : ℕ) → (k < lay.seen) ⊎ (lay.seen + row_words z.v ≤ k) → (k < lay.queue) ⊎ (lay.queue + z.insts ≤ k) → get_or w₃ k 0 ≡ get_or w₀ k 0
    whole_way k a c = un.outside k a (left k c) ∙ wk.walking.grew.outside k a c ∙ bg.grew.outside k a c

some_number : (o : Option ℕ) (r : ℕ) → o ≡ some r → def_number o ≡ suc r
some_number o r e = ap def_number e ∙ omega arith

number_none : (o : Option ℕ) → is_none o ≡ true → def_number o ≡ 0
number_none none e = refl
number_none (some s) e = absurd (false≢true e)

is_not_none : (o : Option ℕ) (r : ℕ) → o ≡ some r → is_none o ≡ false
is_not_none o r e = rw e

module _ (insts operands crossings addresses ends : List ℕ) (lay : Lay) (z : Sizes) (l : ℕ) (whole : Bool) where
  abbrev C : Code
  C = code_of z.v insts operands crossings addresses ends

  abbrev Is : List Inst
  Is = insts_of insts operands

  module _ {w₀ : List ℕ} (p : Prepared C lay w₀ z.locals z.edges) (t : Walkable lay z w₀) (ch : Chain lay z insts addresses l w₀) where
    count : length Is ≡ z.insts
    count = insts_length insts operands ∙ sym ch.rows

    def_is : (i : ℕ) → i < z.insts → def_at lay w₀ i ≡ def_number (def_of z.v (inst_at Is i))
    def_is i h = p.tables.defined i (rw count h)

    -- ---- entries are mentions

    abbrev row_of : (a : ℕ) → Mention
    row_of a = record { inst = mention_inst addresses a; local = mention_local addresses a }

    inst_of_lem : (a : ℕ) → mention_inst addresses a ≡ get_or addresses (mention_width * a) 0
    inst_of_lem a = ap (λ (i : ℕ). get_or addresses i 0) (add-zero (mention_width * a))

    lea_of : (i : ℕ) → i < z.insts → (inst_at Is i).lea ≡ inst_lea insts i
    lea_of i h = lea_is insts operands i (let r = ch.rows in omega arith)

    -- the mention of an entry
    record Told (i : ℕ) : Type 0 where
      mention : Mention
      listed : Memᴰ mention (mentions C.addresses l)
      lea : is_set (mentioned C mention).lea ≡ true
      at : mention.inst ≡ i

    told : (i : ℕ) → Entry insts addresses l i → Told i
    told i n =
        let e : (row_of n.place).inst ≡ i = inst_of_lem n.place ∙ n.inst in
        let h : i < z.insts = (let f = ch.found n.place n.within in let o = n.inst in omega arith) in
        record {
          mention = row_of n.place;
          listed = kept (λ m. eqb m.local l) C.addresses (row_of n.place) (mem_tabulate (address_count addresses) row_of n.place n.within) (eq-eqb _ _ n.local);
          lea = eq-eqb _ 1 (ap (λ (x : ℕ). (inst_at Is x).lea) e ∙ lea_of i h ∙ n.lea);
          at = e;
        }

    entry : (m : Mention) → Memᴰ m (mentions C.addresses l) → is_set (mentioned C m).lea ≡ true → Entry insts addresses l m.inst
    entry m h e =
        let (a, b) = of_kept (λ m. eqb m.local l) C.addresses m h in
        let (k, c, y) = mem_of_tabulate (address_count addresses) row_of a in
        let o : get_or addresses (mention_width * k) 0 ≡ m.inst = sym (inst_of_lem k) ∙ ap (λ (x : Mention). x.inst) (sym y) in
        let f = ch.found k c in
        record {
          place = k;
          within = c;
          local = ap (λ (x : Mention). x.local) (sym y) ∙ eqb-true m.local l b;
          inst = o;
          lea = sym (lea_of m.inst (omega arith)) ∙ eqb-true (mentioned C m).lea 1 e;
        }

    -- ---- edges are instructions that hand on

    edge_hands : (q j : ℕ) → Edge lay z w₀ q j → Hands z.v Is q j
    edge_hands q j e =
        let (x, y, h, o) = p.edges.sorted.only e.place e.within in
        let a : y < z.insts = (let f = h.listed in let g = count in omega arith) in
        let m = t.few_insts in
        let s = e.small in
        let i : key q j ≡ key x y = sym e.is ∙ o in
        let b : x ≡ q = omega arith in
        let c : y ≡ j = omega arith in
        subst (λ (u : ℕ). Hands z.v Is u j) b (subst (λ (u : ℕ). Hands z.v Is x u) c h)

    hands_edge : (q j : ℕ) → Hands z.v Is q j → Edge lay z w₀ q j
    hands_edge q j h =
        let (k, a, e) = p.edges.sorted.has q j h in
        record { place = k; within = a; small = (let f = h.listed in let g = count in omega arith); is = e }

    module _ {w₁ w₂ : List ℕ} {b : Begun} {s : Walk} (bg : Began lay z insts addresses l w₀ w₁ b) (wk : Walked lay z w₁ w₂ b whole s) where
      abbrev g : Walking lay z w₁ w₂ b wk.upto s
      g = wk.walking

      def₁ : (i : ℕ) → i < z.insts → def_at lay w₁ i ≡ def_number (def_of z.v (inst_at Is i))
      def₁ i h = grew_def bg.grew i h ∙ def_is i h

      def₂ : (i : ℕ) → i < z.insts → def_at lay w₂ i ≡ def_number (def_of z.v (inst_at Is i))
      def₂ i h = grew_def g.grew i h ∙ def₁ i h

      edge₁ : (q j : ℕ) → Edge lay z w₁ q j → Edge lay z w₀ q j
      edge₁ q j e = edge_back t bg.grew q j e

      -- the def of what is queued
      reg-def : (k : ℕ) → k < s.count → def_of z.v (inst_at Is (queued lay w₂ k)) ≡ some (register_at lay w₂ k)
      reg-def k h =
          let a = g.grew.held.low k h in
          let d = g.grew.held.defined k h in
          number_is _ (register_at lay w₂ k) (sym (def₂ (queued lay w₂ k) a) ∙ (let o : def_at lay w₂ (queued lay w₂ k) ≡ suc (register_at lay w₂ k) = omega arith in o))

      -- ---- each is carried

      sound-to : (m k : ℕ) → k < m → k < s.count → Carries C l (register_at lay w₂ k)
      sound-to zero k a h = absurd (omega arith)
      sound-to (suc m) k a h = cut b.count k
          (λ c. later (g.from k c h) (λ x y. sound-to m x (omega arith) (omega arith)))
          (λ c. first c)
        where
          first : k < b.count → Carries C l (register_at lay w₂ k)
          first c =
              let n = told (queued lay w₁ k) (bg.grew.new k (omega arith) c) in
              taken n.mention n.listed n.lea (ap (λ (x : ℕ). def_of z.v (inst_at Is x)) (n.at ∙ sym (g.grew.old k c)) ∙ reg-def k h)

          later : (x : ℕ) × (x < k) × Edge lay z w₁ (register_at lay w₂ x) (queued lay w₂ k) → ((x : ℕ) → x < k → Carries C l (register_at lay w₂ x)) → Carries C l (register_at lay w₂ k)
          later (x, y, e) ih =
              let o = edge_hands (register_at lay w₂ x) (queued lay w₂ k) (edge₁ (register_at lay w₂ x) (queued lay w₂ k) e) in
              followed (ih x y) (inst_at Is (queued lay w₂ k)) (mem_at Is (queued lay w₂ k) no_inst o.listed) o.handing (reg-def k h)

      sound : (k : ℕ) → k < s.count → Carries C l (register_at lay w₂ k)
      sound k h = sound-to (suc k) k (omega arith) h

      -- ---- each that is carried is there, if the walk went to the end

      module _ (end : s.count ≤ wk.upto) where
        complete : (q : ℕ) → Carries C l q → Listed lay w₂ s.count (suc q)
        complete q (taken m n a d) =
            let e = entry m n a in
            let i : m.inst < z.insts = (let f = ch.found e.place e.within in let o = e.inst in omega arith) in
            let o : def_at lay w₁ m.inst ≡ suc q = def₁ m.inst i ∙ some_number _ q d in
            let x = bg.all m.inst e (omega arith) in
            let y = grew_listed g.grew (def_at lay w₁ m.inst) bg.grew.held.low x in
            rw o at y
        complete q (followed {q = r} c i n h d) =
            let x = complete r c in
            let (j, a, e) = at_mem Is i no_inst n in
            let o : Hands z.v Is r j = record {
              numbered = carries_below C l r c;
              listed = a;
              handing = ap (λ (u : Inst). lea_reader u r) e ∙ h;
              has_def = is_not_none _ q (ap (def_of z.v) e ∙ d);
            } in
            let k = x.place in
            let f : register_at lay w₂ k ≡ r = (let y = x.is in omega arith) in
            let u = edge_on t bg.grew r j (hands_edge r j o) in
            let y = g.closed k j (let w = x.within in omega arith) (subst (λ (v : ℕ). Edge lay z w₁ v j) (sym f) u) in
            let v : def_at lay w₂ j ≡ suc q = def₂ j u.small ∙ some_number _ q (ap (def_of z.v) e ∙ d) in
            rw v at y

      -- ---- flags

      row-bit : (row : ℕ) → row + row_words z.v ≤ lay.seen → (k : ℕ) → k < s.count → bit w₁ row (register_at lay w₂ k) ≡ bit w₀ row (register_at lay w₂ k)
      row-bit row h k c =
          same_bit w₀ w₁ row z.v (register_at lay w₂ k) (carries_below C l _ (sound k c))
          (λ x a d. bg.grew.outside x (inl (omega arith)) (inl (let y = t.laid in omega arith)))

      some-carried : (row : ℕ) (f : ℕ → Bool) → row + row_words z.v ≤ lay.seen → ((r : ℕ) → r < z.v → bit w₀ row r ≡ f r) → (n : ℕ) → n ≤ s.count
          → Some n (λ k. bit w₁ row (register_at lay w₂ k)) ≡ true → any f (carried C l) ≡ true
      some-carried row f h e n c d =
          let (k, a, u) = some_index n (λ k. bit w₁ row (register_at lay w₂ k)) d in
          let o = sound k (omega arith) in
          any_true f (carried C l) (register_at lay w₂ k) ((carried_least C l (register_at lay w₂ k)).1 o)
          (sym (e (register_at lay w₂ k) (carries_below C l _ o)) ∙ sym (row-bit row h k (omega arith)) ∙ u)

      carried_some : (row : ℕ) (f : ℕ → Bool) → row + row_words z.v ≤ lay.seen → ((r : ℕ) → r < z.v → bit w₀ row r ≡ f r) → s.count ≤ wk.upto
          → any f (carried C l) ≡ true → Some wk.upto (λ k. bit w₁ row (register_at lay w₂ k)) ≡ true
      carried_some row f h e end d =
          let (r, m, u) = any_entry f (carried C l) d in
          let o = (carried_least C l r).0 m in
          let x = complete end r o in
          let k = x.place in
          let y : register_at lay w₂ k ≡ r = (let v = x.is in omega arith) in
          some_at wk.upto (λ k. bit w₁ row (register_at lay w₂ k)) k (let v = x.within in omega arith)
          (row-bit row h k x.within ∙ ap (bit w₀ row) y ∙ e r (carries_below C l r o) ∙ u)

      upto_le : wk.upto ≤ s.count
      upto_le = g.h_le

      escapes-is : s.count ≤ wk.upto → s.escapes ≡ escaping C l
      escapes-is end =
          g.escapes ∙ both_ways _ _
          (some-carried lay.escapes (escapes C) (let y = t.laid in omega arith) p.tables.escaping wk.upto upto_le)
          (carried_some lay.escapes (escapes C) (let y = t.laid in omega arith) p.tables.escaping end)

      lost-is : b.lost ≡ lost C l
      lost-is = both_ways _ _ to from
        where
          to : b.lost ≡ true → lost C l ≡ true
          to e =
              let (i, n, d) = bg.lost e in
              let o = told i n in
              let h : i < z.insts = (let f = ch.found n.place n.within in let v = n.inst in omega arith) in
              any_true (λ m. is_set (mentioned C m).lea && is_none (def_of z.v (mentioned C m))) (mentions C.addresses l) o.mention o.listed
              (and_pair _ _ o.lea (none_number (def_of z.v (mentioned C o.mention)) (ap (λ (x : ℕ). def_number (def_of z.v (inst_at Is x))) o.at ∙ sym (def₁ i h) ∙ d)))

          from : lost C l ≡ true → b.lost ≡ true
          from e =
              let (m, n, u) = any_entry (λ m. is_set (mentioned C m).lea && is_none (def_of z.v (mentioned C m))) (mentions C.addresses l) e in
              let (a, d) = and_both (is_set (mentioned C m).lea) _ u in
              let o = entry m n a in
              let h : m.inst < z.insts = (let f = ch.found o.place o.within in let v = o.inst in omega arith) in
              by_bool b.lost (λ x. x)
              (λ x. absurd (let y = bg.kept x m.inst o in let v : def_at lay w₁ m.inst ≡ 0 = def₁ m.inst h ∙ number_none (def_of z.v (mentioned C m)) d in omega arith))

      dead-some : Some wk.upto (λ k. bit w₁ lay.dead (register_at lay w₂ k)) ≡ true → dead C l ≡ true
      dead-some = some-carried lay.dead (stuck C) (let y = t.laid in omega arith) p.tables.sticking wk.upto upto_le

      bad-true : s.bad ≡ true → (lost C l || dead C l) ≡ true
      bad-true e = go (or_cases b.lost _ (sym g.bad ∙ e))
        where
          go : (b.lost ≡ true) ⊎ (Some wk.upto (λ k. bit w₁ lay.dead (register_at lay w₂ k)) ≡ true) → (lost C l || dead C l) ≡ true
          go (inl x) = or_left (lost C l) _ (sym lost-is ∙ x)
          go (inr x) = or_right (lost C l) (dead C l) (dead-some x)

      true-bad : s.count ≤ wk.upto → (lost C l || dead C l) ≡ true → s.bad ≡ true
      true-bad end e = g.bad ∙ go (or_cases (lost C l) (dead C l) e)
        where
          go : (lost C l ≡ true) ⊎ (dead C l ≡ true) → (b.lost || Some wk.upto (λ k. bit w₁ lay.dead (register_at lay w₂ k))) ≡ true
          go (inl x) = or_left b.lost _ (lost-is ∙ x)
          go (inr x) = or_right b.lost _ (carried_some lay.dead (stuck C) (let y = t.laid in omega arith) p.tables.sticking end x)

      fine_end : s.bad ≡ false → s.count ≤ wk.upto
      fine_end e = wk.done (ap (λ (x : Bool). x && not whole) e)

      bad-is : s.bad ≡ (lost C l || dead C l)
      bad-is = by_bool s.bad
          (λ e. e ∙ sym (bad-true e))
          (λ e. both_ways _ _ bad-true (true-bad (fine_end e)))

      -- ---- the kind

      none_is : eqb (get_or w₀ (lay.heads + l) 0) 0 ≡ empty (mentions C.addresses l)
      none_is =
          both_ways (eqb (get_or w₀ (lay.heads + l) 0) 0) (not (Some (address_count addresses) (λ k. eqb (row_local addresses k) l))) to from
          ∙ sym (empty_keep (λ m. eqb m.local l) C.addresses ∙ ap not (any_rows (λ m. eqb m.local l) addresses (λ k. eqb (row_local addresses k) l) (λ k h. refl)))
        where
          to : eqb (get_or w₀ (lay.heads + l) 0) 0 ≡ true → not (Some (address_count addresses) (λ k. eqb (row_local addresses k) l)) ≡ true
          to e = not_false _ (by_bool (Some (address_count addresses) (λ k. eqb (row_local addresses k) l))
              (λ x.
              let (k, h, u) = some_index (address_count addresses) (λ k. eqb (row_local addresses k) l) x in
              absurd (latest_gap (row_local addresses) l (address_count addresses) k (let y : get_or w₀ (lay.heads + l) 0 ≡ 0 = eqb-true _ 0 e in let v = ch.head in omega arith) h (eqb-true _ _ u)))
              (λ x. x))

          from : not (Some (address_count addresses) (λ k. eqb (row_local addresses k) l)) ≡ true → eqb (get_or w₀ (lay.heads + l) 0) 0 ≡ true
          from e = go (latest (row_local addresses) l (address_count addresses)) refl
            where
              go : (x : ℕ) → latest (row_local addresses) l (address_count addresses) ≡ x → eqb (get_or w₀ (lay.heads + l) 0) 0 ≡ true
              go zero y = eq-eqb _ 0 (ch.head ∙ y)
              go (suc a) y =
                  let o = latest_le (row_local addresses) l (address_count addresses) in
                  let u = some_at (address_count addresses) (λ k. eqb (row_local addresses k) l) a (omega arith) (eq-eqb _ _ (latest_is (row_local addresses) l (address_count addresses) a y)) in
                  absurd (false≢true (sym (ap not u) ∙ e))

      kind_is : kind_by (eqb (get_or w₀ (lay.heads + l) 0) 0) s.bad s.escapes (eqb (get_or w₀ (lay.ended + l) 0) 0) ≡ kind_of C l
      unfolding kind_of
      kind_is =
          ap (λ (x : Bool). kind_by x s.bad s.escapes (eqb (get_or w₀ (lay.ended + l) 0) 0)) none_is
          ∙ ap (λ (x : Bool). kind_by (empty (mentions C.addresses l)) s.bad s.escapes x) (p.ends.ended l ch.here)
          ∙ by_bool s.bad
          (λ e.
          ap (λ (x : Bool). kind_by (empty (mentions C.addresses l)) x s.escapes (empty (ends_of C l))) e
          ∙ gone (empty (mentions C.addresses l)) s.escapes (escaping C l)
          ∙ ap (λ (x : Bool). kind_by (empty (mentions C.addresses l)) x (escaping C l) (empty (ends_of C l))) (sym (bad-true e)))
          (λ e.
          ap (λ (x : Bool). kind_by (empty (mentions C.addresses l)) x s.escapes (empty (ends_of C l))) bad-is
          ∙ ap (λ (x : Bool). kind_by (empty (mentions C.addresses l)) (lost C l || dead C l) x (empty (ends_of C l))) (escapes-is (fine_end e)))
        where
          gone : (x y v : Bool) → kind_by x true y (empty (ends_of C l)) ≡ kind_by x true v (empty (ends_of C l))
          gone true y v = refl
          gone false y v = refl

      -- ---- together

      module _ {w₃ : List ℕ} (un : Unseen lay z w₂ w₃ s.count) (none endless : Bool) (en : none ≡ eqb (get_or w₀ (lay.heads + l) 0) 0)
          (ee : endless ≡ eqb (get_or w₀ (lay.ended + l) 0) 0) (k₀ : Kind) (ek : k₀ ≡ kind_by none s.bad s.escapes endless) where
        reg-is : (k : ℕ) → k < s.count → register_at lay w₂ k ≡ queued lay w₃ k
        reg-is k h = let q = un.registers k h in omega arith

        kind-same : k₀ ≡ kind_of C l
        kind-same = ek ∙ ap (λ (x : Bool). kind_by x s.bad s.escapes endless) en ∙ ap (λ (x : Bool). kind_by (eqb (get_or w₀ (lay.heads + l) 0) 0) s.bad s.escapes x) ee ∙ kind_is

        ends_at : (whole ≡ true) ⊎ (k₀ ≢ Unfollowed) → s.count ≤ wk.upto
        ends_at (inl h) = wk.done (ap (λ (x : Bool). s.bad && not x) h ∙ no s.bad)
          where
            no : (x : Bool) → (x && false) ≡ false
            no true = refl
            no false = refl
        ends_at (inr h) = by_bool s.bad (λ x. absurd (h (ek ∙ ap (λ (y : Bool). kind_by none y s.escapes endless) x ∙ gone none))) fine_end
          where
            gone : (x : Bool) → kind_by x true s.escapes endless ≡ Unfollowed
            gone true = refl
            gone false = refl

        pub follows : FollowedTo C lay z l whole w₃ (record { kind = k₀; count = s.count })
        follows = record {
          kind = kind-same;
          few = g.grew.held.n_le;
          only = λ k h. subst (Carries C l) (reg-is k h) (sound k h);
          all = λ h q c.
              let x = complete (ends_at h) q c in
              (x.place, x.within, sym (reg-is x.place x.within) ∙ (let y = x.is in omega arith));
          once = λ j k a h e. g.grew.held.differ j k a h (sym (un.registers j (omega arith)) ∙ ap suc e ∙ un.registers k h);
        }

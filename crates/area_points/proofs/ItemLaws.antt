-- Of a job that passes its checks: the area of every item has exactly the points that document 01 gives it by paths, moves and live pieces, and an item has no area exactly
-- where it is an unfollowed local or a slot without area.
use Prim.Native.Nat.{ℕ, ◌-◌, ◌≤◌, ◌<◌}
use mathlib.Core.Path.{◌≡◌, refl, sym, ap, ◌∙◌}
use mathlib.Core.Logic.{◌⊎◌, inl, inr, ◌↔◌}
use mathlib.Core.Bool.{Bool, true, false, cond}
use mathlib.Core.Option.{some, none, none-ne-some, some-injective, some-ne-none}
use mathlib.Core.List.Memᴰ
use mathlib.Core.List.{List, map, Memᴰ}
use lib.ListN.{length}
use lib.Dec.{eqb, ltb}
use borrow.Author.Tests.{eqb-true, eq-eqb, ltb-true, ltb-false, lt-ltb, le-ltb}
use Rattle.ranges.specs.declared.Range.{Range}
use Rattle.ranges.specs.Points.{range, Point}
use Rattle.carrying.specs.declared.Kind.{Kind}
use Rattle.carrying.specs.declared.Kind.TheVariants.{Unfollowed, Plain, Ending}
use Rattle.carrying.specs.Lists.{keep, gather}
use Rattle.carrying.specs.Carried.{Mention, Piece, mentions, mentioned, carried, live_pieces, kind_of, ends_of, touches_of}
use Rattle.carrying.proofs.ListLaws.{kept, of_kept, gathered, of_gathered}
use Rattle.carrying.proofs.CarryLaws.{carried_least}
use Rattle.areas.specs.Areas.{PlainPoint, EndPoint}
use Rattle.areas.specs.Pieces.{plain_area, ending_area}
use Rattle.areas.specs.Job.{Job, Checked, graph_of, touches_in, area_by, local_area, slot_area_in, item_area}
use Rattle.areas.proofs.JobLaws.{job_line, job_edges, touches_in_lem}
use Rattle.areas.proofs.PlainLaws.{plain_exact}
use Rattle.areas.proofs.EndLaws.{end_exact}
use Rattle.area_points.specs.Points.{Touch, of_piece, of_entry, ItemPoint, plain, ending, slot, NoArea, unfollowed, bare}
use Rattle.area_points.proofs.KindLaws.{unfollowed_exact, ending_exact, plain_kind_exact}
use Rattle.area_points.proofs.SlotLaws.{slot_exact, slot_none, bare_exact}

-- ---- touches

module _ (J : Job) (l : ℕ) where
  abbrev span : Mention → Range
  span m = range (mentioned J.code m).early (mentioned J.code m).late

  touch_listed : (t : Range) → Touch J l t → Memᴰ t (touches_in J l)
  unfolding touches_of
  touch_listed t (of_piece p m c e) =
      Memᴰ.append_left (map span (mentions J.code.addresses l))
      (gathered (live_pieces J.pieces) (carried J.code l) p.register t ((carried_least J.code l p.register).1 c)
      (Memᴰ.cast e (Memᴰ.map (λ (q : Piece). range q.start q.end) (kept (λ (q : Piece). eqb q.register p.register) J.pieces p m (eq-eqb p.register p.register refl)))))
  touch_listed t (of_entry m n e f) =
      Memᴰ.append_right (gather (live_pieces J.pieces) (carried J.code l))
      (Memᴰ.cast f (Memᴰ.map span (kept (λ (k : Mention). eqb k.local l) J.code.addresses m n (eq-eqb m.local l e))))

  listed_touch : (t : Range) → Memᴰ t (touches_in J l) → Touch J l t
  unfolding touches_of
  listed_touch t m = go (Memᴰ.append_cases (gather (live_pieces J.pieces) (carried J.code l)) m)
    where
      go : Memᴰ t (gather (live_pieces J.pieces) (carried J.code l)) ⊎ Memᴰ t (map span (mentions J.code.addresses l)) → Touch J l t
      go (inl n) =
          let (r, i, k) = of_gathered (live_pieces J.pieces) (carried J.code l) t n in
          let (p, q, e) = Memᴰ.of_map (λ (p : Piece). range p.start p.end) (keep (λ (p : Piece). eqb p.register r) J.pieces) k in
          let (u, b) = of_kept (λ (p : Piece). eqb p.register r) J.pieces p q in
          let c = (carried_least J.code l r).0 i in
          of_piece p u (rw (eqb-true p.register r b) c) (sym e)
      go (inr n) =
          let (a, i, e) = Memᴰ.of_map span (mentions J.code.addresses l) n in
          let (u, b) = of_kept (λ (k : Mention). eqb k.local l) J.code.addresses a i in
          of_entry a u (eqb-true a.local l b) (sym e)

  -- the touches that a local's area is made of are those of the registers that carry its address, and of its address entries
  pub touch_exact : (t : Range) → Memᴰ t (touches_in J l) ↔ Touch J l t
  touch_exact t = (listed_touch t, touch_listed t)

-- ---- items

module _ (J : Job) (C : Checked J) (some_block : 0 < length J.blocks) (i : ℕ) where
  plain_points : (x : ℕ) → Point (plain_area (graph_of J) (touches_in J i)) x ↔ PlainPoint (graph_of J) (touches_in J i) x
  plain_points x = plain_exact (graph_of J) (job_line J C some_block) (job_edges J C some_block) (touches_in J i) (touches_in_lem J C some_block i) x

  end_points : (x : ℕ) → Point (ending_area (graph_of J) (touches_in J i) (ends_of J.code i)) x ↔ EndPoint (graph_of J) (touches_in J i) (ends_of J.code i) x
  end_points x = end_exact (graph_of J) (job_line J C some_block) (job_edges J C some_block) (touches_in J i) (ends_of J.code i) x

  -- by the item's place and kind
  of_local : i < length J.locals → item_area J i ≡ local_area J i
  of_local h = ap (λ (t : Bool). cond t (local_area J i) (slot_area_in J (i - length J.locals))) (lt-ltb i (length J.locals) h)

  of_slot : length J.locals ≤ i → item_area J i ≡ slot_area_in J (i - length J.locals)
  of_slot h = ap (λ (t : Bool). cond t (local_area J i) (slot_area_in J (i - length J.locals))) (le-ltb i (length J.locals) h)

  of_kind : (k : Kind) → i < length J.locals → kind_of J.code i ≡ k → item_area J i ≡ area_by (graph_of J) k (touches_in J i) (ends_of J.code i)
  of_kind k h e = of_local h ∙ ap (λ (m : Kind). area_by (graph_of J) m (touches_in J i) (ends_of J.code i)) e

  item_has : (rs : List Range) (x : ℕ) → item_area J i ≡ some rs → ItemPoint J i x → Point rs x
  item_has rs x e (plain h k p) = rw (some-injective _ rs (sym (of_kind Plain h ((plain_kind_exact J.code i).1 k)) ∙ e)) at ((plain_points x).1 p)
  item_has rs x e (ending h k p) = rw (some-injective _ rs (sym (of_kind Ending h ((ending_exact J.code i).1 k)) ∙ e)) at ((end_points x).1 p)
  item_has rs x e (slot h p) = (slot_exact J (i - length J.locals) rs x (sym (of_slot h) ∙ e)).1 p

  item_only : (rs : List Range) (x : ℕ) → item_area J i ≡ some rs → Point rs x → ItemPoint J i x
  item_only rs x e p = go (ltb i (length J.locals)) refl
    where
      by_kind : (k : Kind) → i < length J.locals → kind_of J.code i ≡ k → area_by (graph_of J) k (touches_in J i) (ends_of J.code i) ≡ some rs → ItemPoint J i x
      by_kind Unfollowed h k f = absurd (none-ne-some rs f)
      by_kind Plain h k f = plain h ((plain_kind_exact J.code i).0 k) ((plain_points x).0 (rw (← some-injective _ rs f) at p))
      by_kind Ending h k f = ending h ((ending_exact J.code i).0 k) ((end_points x).0 (rw (← some-injective _ rs f) at p))

      go : (t : Bool) → ltb i (length J.locals) ≡ t → ItemPoint J i x
      go true f =
          let h = ltb-true i (length J.locals) f in
          by_kind (kind_of J.code i) h refl (sym (of_local h) ∙ e)
      go false f =
          let h = ltb-false i (length J.locals) f in
          slot h ((slot_exact J (i - length J.locals) rs x (sym (of_slot h) ∙ e)).0 p)

  -- by paths, both ways: a point is in the area of an item exactly when document 01's definition has it
  pub item_exact : (rs : List Range) (x : ℕ) → item_area J i ≡ some rs → Point rs x ↔ ItemPoint J i x
  item_exact rs x e = (item_only rs x e, item_has rs x e)

  without : NoArea J i → item_area J i ≡ none
  without (unfollowed h k) = of_kind Unfollowed h ((unfollowed_exact J.code i).1 k)
  without (bare h b) = of_slot h ∙ (bare_exact J (i - length J.locals)).1 b

  none_without : item_area J i ≡ none → NoArea J i
  none_without e = go (ltb i (length J.locals)) refl
    where
      by_kind : (k : Kind) → i < length J.locals → kind_of J.code i ≡ k → area_by (graph_of J) k (touches_in J i) (ends_of J.code i) ≡ none → NoArea J i
      by_kind Unfollowed h k f = unfollowed h ((unfollowed_exact J.code i).0 k)
      by_kind Plain h k f = absurd (some-ne-none _ f)
      by_kind Ending h k f = absurd (some-ne-none _ f)

      go : (t : Bool) → ltb i (length J.locals) ≡ t → NoArea J i
      go true f =
          let h = ltb-true i (length J.locals) f in
          by_kind (kind_of J.code i) h refl (sym (of_local h) ∙ e)
      go false f =
          let h = ltb-false i (length J.locals) f in
          bare h ((bare_exact J (i - length J.locals)).0 (sym (of_slot h) ∙ e))

  -- absent exactly for an unfollowed local and a slot without area
  pub none_exact : (item_area J i ≡ none) ↔ NoArea J i
  none_exact = (none_without, without)

  -- an item without area has no point
  pub no_point : (x : ℕ) → item_area J i ≡ none → ItemPoint J i x → ⊥
  no_point x e (plain h k p) = some-ne-none _ (sym (of_kind Plain h ((plain_kind_exact J.code i).1 k)) ∙ e)
  no_point x e (ending h k p) = some-ne-none _ (sym (of_kind Ending h ((ending_exact J.code i).1 k)) ∙ e)
  no_point x e (slot h p) = slot_none J (i - length J.locals) x (sym (of_slot h) ∙ e) p

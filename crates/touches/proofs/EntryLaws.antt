-- The chain of a local's rows, walked from the last: what each row gives is put behind what the later ones gave.
use Prim.Native.Nat.{ℕ, zero, suc, ◌+◌, ◌-◌, ◌*◌, ◌≤◌, ◌<◌}
use mathlib.Core.Path.{◌≡◌, refl, sym, ap, subst, ◌∙◌}
use mathlib.Core.Logic.{◌≢◌}
use mathlib.Core.Bool.{Bool, true, false, cond}
use mathlib.Core.List.{List, [], ◌∷◌, ◌++◌, append-nil, append_assoc}
use native.Mathlib.Omega.{arith}
use lib.ListN.{get_or, set}
use lib.Dec.{eqb}
use borrow.Author.Tests.{eq-eqb, ne_eqb}
use Rattle.words.specs.Inner.{part, inst_placed, inst_early, mention_count}
use Rattle.words.specs.Widths.{inst_width, inst_count, mention_width}
use Rattle.graph.specs.Inner.Work.{Within}
use Rattle.graph.proofs.Within.{within_refl, within_wider, within_set}
use Rattle.reach.specs.Inner.{latest, row_local}
use Rattle.follow.proofs.BeginLaws.{latest_le, latest_is}
use Rattle.area_pieces.proofs.PushLaws.{part_push, set_other}
use Rattle.touches.specs.Inner.{down_by, end_at, Linked, Listed}

module _ (insts rows : List ℕ) (g : ℕ → List ℕ) (l : ℕ) where
  abbrev f : ℕ → ℕ
  f = row_local rows

  abbrev down : ℕ → List ℕ
  down = down_by f l g

  down_here : (n : ℕ) → f n ≡ l → down (suc n) ≡ g n ++ down n
  unfolding down_by
  down_here n e = ap (λ (t : Bool). cond t (g n) [] ++ down n) (eq-eqb (f n) l e)

  -- the rows behind the last of the local are others'
  down_latest : (n : ℕ) → down n ≡ down (latest f l n)
  unfolding down_by latest
  down_latest zero = refl
  down_latest (suc n) = go (eqb (f n) l) refl (down_latest n)
    where
      go : (t : Bool) → eqb (f n) l ≡ t → down n ≡ down (latest f l n) → cond t (g n) [] ++ down n ≡ down (cond t (suc n) (latest f l n))
      go true e h = ap (λ (t : Bool). cond t (g n) [] ++ down n) (sym e)
      go false e h = h

  down_none : down 0 ≡ []
  unfolding down_by
  down_none = refl

  pub record Walking (heads nexts to : ℕ) (w₀ w : List ℕ) (m next : ℕ) : Type 0 where
    pub linked : Linked insts rows heads nexts l to w₀
    pub from : (n : ℕ) × (n ≤ mention_count rows) × (next ≡ latest f l n)
    pub few : m + next ≤ mention_count rows
    pub kept : Within to (to + m) w₀ w
    pub is : part to m w ++ down next ≡ down (mention_count rows)

  pub walk_start : (heads nexts to : ℕ) (w : List ℕ) (next : ℕ) → Linked insts rows heads nexts l to w → next ≡ get_or w (heads + l) 0 → Walking heads nexts to w w 0 next
  walk_start heads nexts to w next L e = record {
    linked = L;
    from = (mention_count rows, omega arith, e ∙ L.head);
    few = omega (arith, e, L.head, latest_le f l (mention_count rows));
    kept = within_refl to (to + 0) w;
    is = ap down (e ∙ L.head) ∙ sym (down_latest (mention_count rows));
  }

  module _ {heads nexts to : ℕ} {w₀ w : List ℕ} {m next : ℕ} (W : Walking heads nexts to w₀ w m next) where
    -- the row that comes next is one of the local's
    pub record Turn (a : ℕ) : Type 0 where
      pub low : a < mention_count rows
      pub mine : f a ≡ l
      pub inst : get_or rows (mention_width * a) 0 < inst_count insts
      pub link : get_or w (nexts + a) 0 ≡ latest f l a
      pub after : next ≡ suc a

    pub turn : (a : ℕ) → next ≢ 0 → a ≡ next - 1 → Turn a
    turn a d e =
        let s : next ≡ suc a = omega (arith, e, some next d) in
        let h : a < mention_count rows = omega (arith, s, W.few) in
        let i = latest_is f l W.from.0 a (sym W.from.2 ∙ s) in
        record {
          low = h;
          mine = i;
          inst = W.linked.found a h;
          link = W.kept.below (nexts + a) (omega (arith, W.linked.nexts_fit, h)) ∙ W.linked.next a h i;
          after = s;
        }
      where
        some : (n : ℕ) → n ≢ 0 → 0 < n
        some zero c = absurd (c refl)
        some (suc n) c = omega arith

    module _ {a : ℕ} (T : Turn a) where
      pub walk_less : (z : ℕ) → z ≡ get_or w (nexts + a) 0 → z < next
      walk_less z e = omega (arith, e, T.link, latest_le f l a, T.after)

      -- the link is read before the word is put, or after
      pub link_stays : (v x : ℕ) → x ≡ to + m → get_or (set w x v) (nexts + a) 0 ≡ get_or w (nexts + a) 0
      link_stays v x dx = set_other w x v (nexts + a) (omega (arith, dx, W.kept.len, W.linked.room, W.few, T.after)) (λ q. absurd (omega (arith, q, dx, W.linked.nexts_fit, T.low)))

      rest : (z : ℕ) → z ≡ get_or w (nexts + a) 0 → g a ++ down z ≡ down next
      rest z e = ap (λ (r : List ℕ). g a ++ r) (ap down (e ∙ T.link) ∙ sym (down_latest a)) ∙ sym (down_here a T.mine) ∙ ap down (sym T.after)

      pub walk_skip : g a ≡ [] → (z : ℕ) → z ≡ get_or w (nexts + a) 0 → Walking heads nexts to w₀ w m z
      walk_skip e z d = record {
        linked = W.linked;
        from = (a, omega (arith, T.low), d ∙ T.link);
        few = omega (arith, W.few, walk_less z d);
        kept = W.kept;
        is = ap (λ (r : List ℕ). part to m w ++ r) (ap (λ (r : List ℕ). r ++ down z) (sym e) ∙ rest z d) ∙ W.is;
      }

      pub walk_more : (v : ℕ) → g a ≡ v ∷ [] → (x z : ℕ) → x ≡ to + m → z ≡ get_or w (nexts + a) 0 → Walking heads nexts to w₀ (set w x v) (m + 1) z
      walk_more v e x z dx d = record {
        linked = W.linked;
        from = (a, omega (arith, T.low), d ∙ T.link);
        few = omega (arith, W.few, walk_less z d);
        kept = within_set (within_wider to (to + (m + 1)) (omega arith) (omega arith) W.kept) x v (omega arith) (omega arith);
        is = subst (λ (t : ℕ). part to (m + 1) (set w t v) ++ down z ≡ down (mention_count rows)) (sym dx)
            (ap (λ (r : List ℕ). r ++ down z) (part_push w to m v (omega (arith, W.kept.len, W.linked.room, W.few, T.after)) ∙ ap (λ (r : List ℕ). part to m w ++ r) (sym e))
            ∙ append_assoc (part to m w) (g a) (down z)
            ∙ ap (λ (r : List ℕ). part to m w ++ r) (rest z d)
            ∙ W.is);
      }

    pub walk_done : next ≡ 0 → Listed rows g l to w₀ w m
    walk_done e = record {
      kept = W.kept;
      count_le = omega (arith, W.few);
      is = sym (append-nil (part to m w)) ∙ ap (λ (r : List ℕ). part to m w ++ r) (sym (ap down e ∙ down_none)) ∙ W.is;
    }

-- what an end gives, by the flag that is read
module _ (insts ends : List ℕ) (k x : ℕ) (e : x ≡ inst_width * get_or ends (mention_width * k) 0) where
  flag : inst_placed insts (get_or ends (mention_width * k) 0) ≡ get_or insts x 0
  flag = ap (λ (z : ℕ). get_or insts z 0) (omega arith)

  pub end_given : get_or insts x 0 ≡ 1 → end_at insts ends k ≡ get_or insts (x + 2) 0 ∷ []
  end_given h =
      ap (λ (t : Bool). cond t (inst_early insts (get_or ends (mention_width * k) 0) ∷ []) []) (eq-eqb (inst_placed insts (get_or ends (mention_width * k) 0)) 1 (flag ∙ h))
      ∙ ap (λ (z : ℕ). get_or insts z 0 ∷ []) (omega arith)

  pub end_none : get_or insts x 0 ≢ 1 → end_at insts ends k ≡ []
  end_none h = ap (λ (t : Bool). cond t (inst_early insts (get_or ends (mention_width * k) 0) ∷ []) []) (ne_eqb (inst_placed insts (get_or ends (mention_width * k) 0)) 1 (λ q. h (sym flag ∙ q)))

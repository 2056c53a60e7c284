-- The loops of the preparation: crossings, first edges, placed ends.
use Prim.Native.Nat.{ℕ, suc, ◌+◌, ◌-◌, ◌*◌, ◌^◌, ◌≤◌, ◌<◌}
use native.Mathlib.Omega.{arith}
use native.Mathlib.Nat.{add-zero}
use mathlib.Core.Path.{◌≡◌, refl, sym, ap, ◌∙◌, subst}
use mathlib.Core.Logic.{◌≢◌}
use mathlib.Core.Bool.{Bool, true, false, not, ◌&&◌, ◌||◌, or-false, and-false}
use mathlib.Core.List.{List}
use lib.ListN.{length, get_or, set}
use lib.Seq.{get_or-set_same, get_or-set_other}
use lib.Dec.{eqb, ltb}
use borrow.Author.Tests.{eqb-true, eq-eqb, ne_eqb, lt-ltb}
use Rattle.words.specs.Inner.{Rising, Splits, Region, part, inst_placed, mention_count}
use Rattle.words.specs.Sort.{sort_of}
use Rattle.words.specs.Widths.{inst_width, mention_width}
use Rattle.words.proofs.SortLaws.{sorted_rising}
use Rattle.words.proofs.Points.{same, stored}
use Rattle.words.proofs.RegionLaws.{length_part}
use Rattle.words.proofs.Bools.{and_both, and_pair, both_ways}
use Rattle.graph.specs.Inner.Work.{Within}
use Rattle.graph.proofs.Within.{within_refl, within_set, within_trans, within_wider, region_within}
use Rattle.graph.proofs.Line.{mem_at, at_mem}
use Rattle.carrying.specs.Lists.{any}
use Rattle.carrying.specs.Insts.{is_set}
use Rattle.carrying.proofs.ListLaws.{any_true, any_entry}
use Rattle.insts.proofs.DealtLaws.{any_none, any_next}
use Rattle.reach.specs.declared.Lay.{Lay}
use Rattle.reach.specs.Inner.{row_local}
use Rattle.preparing.specs.Inner.{Firsts, Indexed, placed_end, Ends}
use Rattle.reach.proofs.UseLaws.{Some, some_at, some_index}
use Rattle.reach.proofs.StepLaws.{splits_same}

-- ---- crossings

pub cross_found : (xs : List ℕ) (v r : ℕ) → r < v → Some (length xs) (λ k. ltb (get_or xs k 0) v && eqb (get_or xs k 0) r) ≡ any (eqb r) xs
cross_found xs v r l = both_ways _ _ to from
  where
    to : Some (length xs) (λ k. ltb (get_or xs k 0) v && eqb (get_or xs k 0) r) ≡ true → any (eqb r) xs ≡ true
    to e =
        let (k, h, t) = some_index (length xs) (λ k. ltb (get_or xs k 0) v && eqb (get_or xs k 0) r) e in
        let (a, b) = and_both (ltb (get_or xs k 0) v) (eqb (get_or xs k 0) r) t in
        any_true (eqb r) xs (get_or xs k 0) (mem_at xs k 0 h) (eq-eqb r (get_or xs k 0) (sym (eqb-true _ _ b)))

    from : any (eqb r) xs ≡ true → Some (length xs) (λ k. ltb (get_or xs k 0) v && eqb (get_or xs k 0) r) ≡ true
    from e =
        let (x, m, t) = any_entry (eqb r) xs e in
        let (k, h, z) = at_mem xs x 0 m in
        let y = eqb-true r x t in
        some_at (length xs) (λ k. ltb (get_or xs k 0) v && eqb (get_or xs k 0) r) k h
        (and_pair (ltb (get_or xs k 0) v) _ (lt-ltb (get_or xs k 0) v (omega arith)) (eq-eqb _ _ (z ∙ sym y)))

-- ---- first edges

pub record Firsting (defs first edges m n : ℕ) (w₀ w : List ℕ) (i : ℕ) : Type 0 where
  pub low : defs + m ≤ first
  pub middle : first + m ≤ edges
  pub high : edges + n ≤ length w₀
  pub i_le : i ≤ m
  pub kept : Within first (first + m) w₀ w
  pub done : (j q : ℕ) → j < i → get_or w₀ (defs + j) 0 ≡ suc q → Splits (λ k. ltb (get_or w (edges + k) 0) (q * 2 ^ 32)) n (get_or w (first + j) 0)

pub first_start : (defs first edges m n : ℕ) (w : List ℕ) → defs + m ≤ first → first + m ≤ edges → edges + n ≤ length w → Firsting defs first edges m n w w 0
first_start defs first edges m n w a b c = record { low = a; middle = b; high = c; i_le = omega arith; kept = within_refl _ _ w; done = λ j q l. absurd (omega arith) }

module _ {defs first edges m n : ℕ} {w₀ w : List ℕ} {i : ℕ} (d : Firsting defs first edges m n w₀ w i) where
  pub first_rising : Rising (λ k. get_or w₀ (edges + k) 0) n → Rising (λ k. get_or w (edges + k) 0) n
  first_rising r k h =
      let a = d.kept.past (edges + k) (let q = d.middle in omega arith) in
      let b = d.kept.past (edges + (k + 1)) (let q = d.middle in omega arith) in
      let z = r k h in
      omega arith

  pub first_def : i < m → get_or w (defs + i) 0 ≡ get_or w₀ (defs + i) 0
  first_def h = d.kept.below (defs + i) (let q = d.low in omega arith)

  pub first_skip : i < m → get_or w (defs + i) 0 ≡ 0 → Firsting defs first edges m n w₀ w (i + 1)
  first_skip h e = record {
    low = d.low;
    middle = d.middle;
    high = d.high;
    i_le = omega arith;
    kept = d.kept;
    done = λ j q l z. same j i
        (λ y. let x : get_or w₀ (defs + i) 0 ≡ suc q = (rw y at z) in absurd (let u = first_def h in omega arith))
        (λ y. d.done j q (omega arith) z);
  }

  pub first_put : (x f b : ℕ) → i < m → get_or w (defs + i) 0 ≢ 0 → x ≡ first + i → b ≡ (get_or w (defs + i) 0 - 1) * 4294967296
      → Splits (λ k. ltb (get_or w (edges + k) 0) b) n f → Firsting defs first edges m n w₀ (set w x f) (i + 1)
  first_put x f b h e ex eb s = record {
    low = d.low;
    middle = d.middle;
    high = d.high;
    i_le = omega arith;
    kept = within_set d.kept x f (omega arith) (omega arith);
    done = λ j q l z. same j i
        (λ y.
        let u : get_or w (defs + i) 0 ≡ suc q = (let k : get_or w₀ (defs + i) 0 ≡ suc q = (rw y at z) in first_def h ∙ k) in
        let p : b ≡ q * 2 ^ 32 = (let a : get_or w (defs + i) 0 - 1 ≡ q = omega arith in eb ∙ ap (λ (c : ℕ). c * 4294967296) a) in
        let o : get_or (set w x f) (first + j) 0 ≡ f = (let a : first + j ≡ x = omega arith in ap (λ (c : ℕ). get_or (set w x f) c 0) a ∙ get_or-set_same w x f 0 inside) in
        subst (λ (c : ℕ). Splits (λ k. ltb (get_or (set w x f) (edges + k) 0) (q * 2 ^ 32)) n c) (sym o)
        (splits_same s (λ k g. ap (λ (c : ℕ). ltb c (q * 2 ^ 32)) (outside k) ∙ ap (λ (c : ℕ). ltb (get_or w (edges + k) 0) c) (sym p))))
        (λ y.
        let o : get_or (set w x f) (first + j) 0 ≡ get_or w (first + j) 0 = get_or-set_other w x (first + j) f 0 (λ a. absurd (omega arith)) in
        subst (λ (c : ℕ). Splits (λ k. ltb (get_or (set w x f) (edges + k) 0) (q * 2 ^ 32)) n c) (sym o)
        (splits_same (d.done j q (omega arith) z) (λ k g. ap (λ (c : ℕ). ltb c (q * 2 ^ 32)) (outside k))));
  }
    where
      inside : x < length w
      inside = let a = d.middle in let b = d.high in let l = d.kept.len in omega arith

      outside : (k : ℕ) → get_or (set w x f) (edges + k) 0 ≡ get_or w (edges + k) 0
      outside k = get_or-set_other w x (edges + k) f 0 (λ a. absurd (let q = d.middle in omega arith))

pub first_done : {lay : Lay} {m n : ℕ} {w₀ w : List ℕ} {i : ℕ} → Firsting lay.defs lay.firsts lay.edges m n w₀ w i → m ≤ i → Firsts lay m n w₀ w
first_done d h = record { kept = d.kept; first = λ j q l z. d.done j q (omega arith) z }

-- the edges are sorted, then indexed
module _ (lay : Lay) (m n : ℕ) (w₀ w₁ : List ℕ) (fits : lay.edges + n ≤ length w₀) (below : lay.firsts + m ≤ lay.edges)
    (s : Region w₀ w₁ lay.edges n (λ i. get_or (sort_of (part lay.edges n w₀)) i 0)) where
  pub index_rising : Rising (λ k. get_or w₁ (lay.edges + k) 0) n
  index_rising =
      sorted_rising (part lay.edges n w₀) w₁ lay.edges n (let q = length_part lay.edges n w₀ fits in omega arith) (λ i h. s.inside (lay.edges + i) i refl h)

  pub index_done : {w : List ℕ} → lay.defs + m ≤ lay.firsts → Firsts lay m n w₁ w → Indexed lay m n w₀ w
  index_done {w} h f = record {
    kept = within_trans (within_wider lay.firsts (lay.edges + n) (omega arith) (omega arith) (region_within s))
        (within_wider lay.firsts (lay.edges + n) (omega arith) (omega arith) f.kept);
    edges = λ k l. f.kept.past (lay.edges + k) (omega arith) ∙ s.inside (lay.edges + k) k refl l;
    first = λ i q l z. f.first i q l (s.before (lay.defs + i) (omega arith) ∙ z);
  }

-- ---- placed ends

not_or : (a : Bool) → not (a || true) ≡ false
not_or true = refl
not_or false = refl

pub record Ending (ended : ℕ) (insts s : List ℕ) (l : ℕ) (w₀ w : List ℕ) (k : ℕ) : Type 0 where
  pub high : ended + l ≤ length w₀
  pub k_le : k ≤ mention_count s
  pub kept : Within ended (ended + l) w₀ w
  pub is : (m : ℕ) → m < l → eqb (get_or w (ended + m) 0) 0 ≡ not (Some k (placed_end insts s m))

pub end_start : (ended : ℕ) (insts s : List ℕ) (l : ℕ) (w : List ℕ) → ended + l ≤ length w → ((m : ℕ) → m < l → get_or w (ended + m) 0 ≡ 0) → Ending ended insts s l w w 0
end_start ended insts s l w h z = record {
  high = h;
  k_le = omega arith;
  kept = within_refl _ _ w;
  is = λ m g. eq-eqb _ 0 (z m g) ∙ sym (ap not (any_none (placed_end insts s m) (λ j. j)));
}

module _ {ended : ℕ} {insts s : List ℕ} {l : ℕ} {w₀ w : List ℕ} {k : ℕ} (d : Ending ended insts s l w₀ w k) where
  end_none : k < mention_count s → ((m : ℕ) → m < l → placed_end insts s m k ≡ false) → Ending ended insts s l w₀ w (k + 1)
  end_none h e = record {
    high = d.high;
    k_le = omega arith;
    kept = d.kept;
    is = λ m g. d.is m g ∙ ap not (sym (any_next (placed_end insts s m) (λ j. j) k ∙ ap (λ (t : Bool). Some k (placed_end insts s m) || t) (e m g) ∙ or-false (Some k (placed_end insts s m))));
  }

  pub end_unplaced : (i : ℕ) → k < mention_count s → i ≡ get_or s (mention_width * k) 0 → get_or insts (inst_width * i) 0 ≢ 1 → Ending ended insts s l w₀ w (k + 1)
  end_unplaced i h z e =
      end_none h
      (λ m g. ap (λ (t : Bool). eqb (row_local s k) m && t) (ne_eqb (inst_placed insts (get_or s (mention_width * k) 0)) 1 (λ q. e (ap (λ (c : ℕ). get_or insts c 0) (ap (λ (c : ℕ).
      inst_width * c) z ∙ sym (add-zero (inst_width * get_or s (mention_width * k) 0))) ∙ q))) ∙ and-false (eqb (row_local s k) m))

  pub end_past : k < mention_count s → l ≤ row_local s k → Ending ended insts s l w₀ w (k + 1)
  end_past h p = end_none h (λ m g. ap (λ (t : Bool). t && is_set (inst_placed insts (get_or s (mention_width * k) 0))) (ne_eqb (row_local s k) m (λ z. absurd (omega arith))))

  pub end_put : (i x : ℕ) → k < mention_count s → i ≡ get_or s (mention_width * k) 0 → get_or insts (inst_width * i) 0 ≡ 1 → row_local s k < l → x ≡ ended + row_local s k → Ending ended insts s l w₀ (set w x 1) (k + 1)
  end_put i x h z e p ex = record {
    high = d.high;
    k_le = omega arith;
    kept = within_set d.kept x 1 (omega arith) (omega arith);
    is = λ m g. stored (λ y. eqb y 0 ≡ not (Some (k + 1) (placed_end insts s m))) w x 1 (ended + m) (let q = d.high in let r = d.kept.len in omega arith)
        (λ q. sym (ap not (any_next (placed_end insts s m) (λ j. j) k
        ∙ ap (λ (t : Bool). Some k (placed_end insts s m) || t) (and_pair (eqb (row_local s k) m) _ (eq-eqb (row_local s k) m (omega arith)) placed)) ∙ not_or (Some k (placed_end insts s m))))
        (λ q. d.is m g ∙ ap not (sym (any_next (placed_end insts s m) (λ j. j) k
        ∙ ap (λ (t : Bool). Some k (placed_end insts s m) || (t && is_set (inst_placed insts (get_or s (mention_width * k) 0)))) (ne_eqb (row_local s k) m (λ y. q (omega arith))) ∙ or-false (Some k (placed_end insts s m)))));
  }
    where
      placed : is_set (inst_placed insts (get_or s (mention_width * k) 0)) ≡ true
      placed = eq-eqb _ 1 (ap (λ (c : ℕ). get_or insts c 0) (add-zero (inst_width * get_or s (mention_width * k) 0) ∙ ap (λ (c : ℕ). inst_width * c) (sym z)) ∙ e)

pub end_done : {lay : Lay} {insts s : List ℕ} {l : ℕ} {w₀ w : List ℕ} {k : ℕ} → Ending lay.ended insts s l w₀ w k → mention_count s ≤ k → Ends lay insts s l (mention_count s) w₀ w
end_done {insts = insts} {s = s} {k = k} d h =
    let z : k ≡ mention_count s = let q = d.k_le in omega arith in
    record { kept = d.kept; ended = λ m g. d.is m g ∙ ap (λ (c : ℕ). not (Some c (placed_end insts s m))) z }

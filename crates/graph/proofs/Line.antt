-- Laws of the line: records by index, numbers and places the one from the other, and what numbers 2 and 3 leave.
use Prim.Native.Nat.{ℕ, zero, suc, ◌+◌, ◌*◌, ◌≤◌, ◌<◌}
use mathlib.Core.Path.{◌≡◌, refl, sym, ap, ◌∙◌}
use mathlib.Core.Logic.{◌≢◌, ◌⊎◌, inl, inr}
use mathlib.Core.Bool.{false}
use mathlib.Core.List.Memᴰ
use mathlib.Core.List.{List, [], ◌∷◌, Memᴰ}
use native.Mathlib.Nat.{add-zero}
use native.Mathlib.Numerals.{add-one}
use native.Mathlib.Omega.{arith}
use lib.Dec.{leb, ltb}
use lib.ListN.{length, get_or, length-map}
use borrow.Author.Tests.{eq-eqb, ne_eqb, eqb-true, eqb-false, leb-false, ltb-false, not-false}
use Rattle.refusals.specs.declared.Refusal.TheVariants.{Line, Edge as EdgeWord}
use Rattle.refusals.proofs.Laws.{scan_fine}
use Rattle.words.specs.Inner.{Rising, block_number, edge_from, edge_into}
use Rattle.words.specs.Widths.{block_width, block_count, block_start, block_end, edge_width, edge_count}
use Rattle.words.proofs.RowLaws.{length_tabulate, get_d_tabulate}
use Rattle.words.proofs.Points.{cut, same}
use Rattle.words.proofs.Bools.{or_neither}
use Rattle.graph.specs.declared.Block.{Block}
use Rattle.graph.specs.declared.Place.{Place}
use Rattle.graph.specs.Paths.{Edge, edge, Between}
use Rattle.graph.specs.Line.{Stretch, Jump, blocks_of, jumps_of, block_at, place_in, edges_of, used_before, gap_at, bad_block, line_verdict, bad_edge, edge_verdict, Sound}
use Rattle.graph.specs.Inner.Line.{nowhere, linked, place_of, number_at}
use Rattle.graph.proofs.Counting.{all_taken}
use Rattle.refusals.specs.Verdicts.{Fine}

-- ---- lists by index

pub mem_at : {A : Type 0} (l : List A) (k : ℕ) (d : A) → k < length l → Memᴰ (get_or l k d) l
mem_at [] k d h = absurd (omega arith)
mem_at (x ∷ l) zero d h = Memᴰ.head refl
mem_at (x ∷ l) (suc k) d h = Memᴰ.tail (mem_at l k d (omega arith))

pub at_mem : {A : Type 0} (l : List A) (a d : A) → Memᴰ a l → (k : ℕ) × (k < length l) × (get_or l k d ≡ a)
at_mem [] a d m = absurd (Memᴰ.not-nil m)
at_mem {A} (x ∷ l) a d m = go (Memᴰ.cases_cons m) (at_mem l a d)
  where
    go : (a ≡ x) ⊎ Memᴰ a l → (Memᴰ a l → (k : ℕ) × (k < length l) × (get_or l k d ≡ a)) → (k : ℕ) × (k < suc (length l)) × (get_or (x ∷ l) k d ≡ a)
    go (inl e) f = (0, omega arith, sym e)
    go (inr r) f = let p = f r in (suc p.0, omega (arith, p.1), p.2)

-- ---- the records of the rows

module _ (s : List ℕ) where
  pub blocks_length : length (blocks_of s) ≡ block_count s
  blocks_length = length_tabulate (block_count s) _

  pub jumps_length : length (jumps_of s) ≡ edge_count s
  jumps_length = length_tabulate (edge_count s) _

  module _ (k : ℕ) where
    pub block_at_lem : k < block_count s → block_at (blocks_of s) k ≡ record { number = block_number s k; start = block_start s k; end = block_end s k }
    block_at_lem h = get_d_tabulate (block_count s) _ k nowhere h

    pub number_is : k < block_count s → (block_at (blocks_of s) k).number ≡ get_or s (block_width * k) 0
    number_is h = ap (λ (b : Stretch). b.number) (block_at_lem h) ∙ ap (λ (i : ℕ). get_or s i 0) (add-zero (block_width * k))

    pub start_is : k < block_count s → (block_at (blocks_of s) k).start ≡ block_start s k
    start_is h = ap (λ (b : Stretch). b.start) (block_at_lem h)

    pub end_is : k < block_count s → (block_at (blocks_of s) k).end ≡ block_end s k
    end_is h = ap (λ (b : Stretch). b.end) (block_at_lem h)

    pub jump_at : k < edge_count s → get_or (jumps_of s) k (record { from = 0; to = 0 }) ≡ record { from = edge_from s k; to = edge_into s k }
    jump_at h = get_d_tabulate (edge_count s) _ k _ h

    pub from_is : k < edge_count s → (get_or (jumps_of s) k (record { from = 0; to = 0 })).from ≡ get_or s (edge_width * k) 0
    from_is h = ap (λ (j : Jump). j.from) (jump_at h) ∙ ap (λ (i : ℕ). get_or s i 0) (add-zero (edge_width * k))

    pub to_is : k < edge_count s → (get_or (jumps_of s) k (record { from = 0; to = 0 })).to ≡ edge_into s k
    to_is h = ap (λ (j : Jump). j.to) (jump_at h)

  -- the starts of blocks in the form of number 2 rise
  pub starts_rise : Sound (blocks_of s) → Rising (λ i. block_start s i) (block_count s)
  starts_rise S k h =
      let n = blocks_length in
      let a = start_is k (omega arith) in
      let b = start_is (k + 1) h in
      let g = rw (← add-one k) at (S.gapless k (let z = add-one k in omega arith)) in
      let u = S.upright k (omega arith) in
      omega arith

-- ---- numbers and places

-- the place is the first with the number
pub place_first : (bs : List Stretch) (n k : ℕ) → k < length bs → (block_at bs k).number ≡ n → ((j : ℕ) → j < k → (block_at bs j).number ≢ n) → place_in bs n ≡ k
unfolding place_in
place_first [] n k h e f = absurd (omega arith)
place_first (b ∷ bs) n zero h e f = rw (eq-eqb b.number n e)
place_first (b ∷ bs) n (suc k) h e f =
    rw (ne_eqb b.number n (f 0 (omega arith))) (ap suc (place_first bs n k (omega arith) e (λ j l. f (suc j) (omega arith))))

module _ {bs : List Stretch} (S : Sound bs) where
  -- "one converting table between": the place of the number at a place is that place
  pub place_of_number : (k : ℕ) → k < length bs → place_in bs (block_at bs k).number ≡ k
  place_of_number k h =
      place_first bs (block_at bs k).number k h refl
      (λ j l e. let q : j ≡ k = S.once j k (omega arith) h e in omega arith)

  -- each number below B is some block's
  pub number_taken : (n : ℕ) → n < length bs → (k : ℕ) × (k < length bs) × ((block_at bs k).number ≡ n)
  number_taken =
      all_taken (length bs) (λ k. (block_at bs k).number) S.numbered
      (λ j k h l e. let q : j ≡ k = S.once j k (omega arith) l e in omega arith)

  pub place_lt : (n : ℕ) → n < length bs → place_in bs n < length bs
  place_lt n h =
      let p = number_taken n h in
      let e : place_in bs n ≡ p.0 = ap (place_in bs) (sym p.2) ∙ place_of_number p.0 p.1 in
      omega (arith, p.1)

  -- and the number at the place of a number is that number
  pub number_of_place : (n : ℕ) → n < length bs → (block_at bs (place_in bs n)).number ≡ n
  number_of_place n h =
      let p = number_taken n h in
      let e : place_in bs n ≡ p.0 = ap (place_in bs) (sym p.2) ∙ place_of_number p.0 p.1 in
      ap (λ (k : ℕ). (block_at bs k).number) e ∙ p.2

  -- `place_of` and `number_at` undo each other
  pub place_number : (p : Place) → p.0 < length bs → place_of bs (number_at bs p) ≡ p
  place_number p h = ap (λ (k : ℕ). place k) (place_of_number p.0 h)
    where
      place : ℕ → Place
      place k = record { 0 = k }

  pub number_place : (b : Block) → b.0 < length bs → number_at bs (place_of bs b) ≡ b
  number_place b h = ap (λ (k : ℕ). block k) (number_of_place b.0 h)
    where
      block : ℕ → Block
      block k = record { 0 = k }

-- ---- what number 2 leaves

pub unused : (bs : List Stretch) (n i : ℕ) → used_before bs n i ≡ false → (j : ℕ) → j < i → (block_at bs j).number ≢ n
unfolding used_before
unused bs n zero e j h = absurd (omega arith)
unused bs n (suc i) e j h =
    same j i
    (λ q. rw q (eqb-false _ _ (or_neither (used_before bs n i) _ e).1))
    (λ q. unused bs n i (or_neither (used_before bs n i) _ e).0 j (omega arith))

-- a block that is fine
pub record Good (bs : List Stretch) (i : ℕ) : Type 0 where
  pub numbered : (block_at bs i).number < length bs
  pub unused : used_before bs (block_at bs i).number i ≡ false
  pub upright : (block_at bs i).start ≤ (block_at bs i).end
  pub gapless : gap_at bs i ≡ false

pub good : (bs : List Stretch) (points i : ℕ) → bad_block bs points i ≡ false → Good bs i
unfolding bad_block
good bs points i e =
    let a = (or_neither (leb (length bs) (block_at bs i).number) _ e).1 in
    let b = (or_neither (used_before bs (block_at bs i).number i) _ a).1 in
    let c = (or_neither (ltb (block_at bs i).end (block_at bs i).start) _ b).1 in
    record {
      numbered = leb-false _ _ (or_neither _ _ e).0;
      unused = (or_neither _ _ a).0;
      upright = ltb-false _ _ (or_neither _ _ b).0;
      gapless = (or_neither _ _ c).0;
    }

-- "a block number ≥ B or repeated, a reversed block, a start not the last end plus 1" are ruled out
pub line_sound : (bs : List Stretch) (points : ℕ) → 1 ≤ length bs → line_verdict bs points ≡ Fine → Sound bs
line_sound bs points some e =
    let g : (k : ℕ) → k < length bs → Good bs k = λ k h. good bs points k (scan_fine Line (bad_block bs points) (length bs) e k h) in
    record {
      some_block = some;
      upright = λ k h. (g k h).upright;
      gapless = λ k h. eqb-true _ _ (not-false _ (g (suc k) h).gapless);
      numbered = λ k h. (g k h).numbered;
      once = λ j k h l q. cut j k
          (λ m. same j k (λ r. r) (λ r. absurd (unused bs _ k (g k l).unused j (omega arith) q)))
          (λ m. absurd (unused bs _ j (g j h).unused k (omega arith) (sym q)));
    }

-- ---- what number 3 leaves

none : Jump
none = record { from = 0; to = 0 }

pub edges_length : (bs : List Stretch) (js : List Jump) → length (edges_of bs js) ≡ length js
edges_length bs js = length-map js (linked bs)

module _ (bs : List Stretch) (js : List Jump) (e : edge_verdict bs js ≡ Fine) where
  pub from_lt : (k : ℕ) → k < length js → (get_or js k (record { from = 0; to = 0 })).from < length bs
  from_lt k h = leb-false _ _ (or_neither _ _ (scan_fine EdgeWord (bad_edge (length bs) js) (length js) e k h)).0

  pub to_lt : (k : ℕ) → k < length js → (get_or js k (record { from = 0; to = 0 })).to < length bs
  to_lt k h = leb-false _ _ (or_neither (leb (length bs) (get_or js k (record { from = 0; to = 0 })).from) _ (scan_fine EdgeWord (bad_edge (length bs) js) (length js) e k h)).1

-- an edge by place, from the edge as it is lent
pub edge_at : (bs : List Stretch) (js : List Jump) (k : ℕ) (d : Edge) → k < length js → get_or (edges_of bs js) k d ≡ linked bs (get_or js k (record { from = 0; to = 0 }))
edge_at bs [] k d h = absurd (omega arith)
edge_at bs (j ∷ js) zero d h = refl
edge_at bs (j ∷ js) (suc k) d h = edge_at bs js k d (omega arith)

-- each edge leads from a place to a place
pub edges_between : (bs : List Stretch) (js : List Jump) → Sound bs → edge_verdict bs js ≡ Fine → Between (length bs) (edges_of bs js)
edges_between bs js S v =
    let at : (e : Edge) → Memᴰ e (edges_of bs js) → (k : ℕ) × (k < length js) × (e ≡ linked bs (get_or js k (record { from = 0; to = 0 }))) = λ e m.
    let p = at_mem (edges_of bs js) e (edge 0 0) m in
    let l : p.0 < length js = omega (arith, p.1, edges_length bs js) in
    (p.0, l, sym p.2 ∙ edge_at bs js p.0 (edge 0 0) l) in
    record {
      from = λ e m. let p = at e m in rw p.2 (place_lt S _ (from_lt bs js v p.0 p.1));
      to = λ e m. let p = at e m in rw p.2 (place_lt S _ (to_lt bs js v p.0 p.1));
    }

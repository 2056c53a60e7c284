-- What each way out of a check comes to: numbers 1, 4 and 5.
use Prim.Native.Nat.{ℕ, ◌+◌, ◌*◌, ◌/◌, ◌%◌, ◌≤◌, ◌<◌}
use native.Mathlib.Numerals.{add-one}
use native.Mathlib.Nat.{add-zero}
use native.Mathlib.Omega.{arith}
use mathlib.Core.Path.{◌≡◌, refl, sym, ap, ◌∙◌}
use mathlib.Core.Logic.{◌≢◌}
use mathlib.Core.Bool.{Bool, true, false, not, ◌||◌, ◌&&◌}
use mathlib.Core.List.{List, []}
use lib.ListN.{length, get_or}
use lib.Dec.{eqb, leb, ltb}
use borrow.Author.Tests.{eq-eqb, ne_eqb, lt-ltb, le-ltb, le-leb, lt-leb, leb-false}
use Rattle.refusals.specs.declared.Refusal.{Refusal}
use Rattle.refusals.specs.declared.Refusal.TheVariants.{Count, Inst as InstWord, Stray}
use Rattle.refusals.specs.Verdicts.{first, scan, check, Bad, Fine, Verdict}
use Rattle.refusals.proofs.Laws.{first_fine, first_bad, first_left, first_right, bad_fine}
use Rattle.words.specs.Rows.{row_count, field}
use Rattle.words.specs.Inner.{Splits, inst_placed, inst_early, inst_late, mention_count, mention_inst}
use Rattle.words.specs.Widths.{block_width, block_count, block_start, block_end, inst_width, inst_count, inst_operands, operand_width, operand_count, local_width, mention_width}
use Rattle.words.proofs.RowLaws.{length_records, get_d_records}
use Rattle.words.proofs.Points.{cut, same}
use Rattle.graph.specs.Line.{Stretch, blocks_of, block_at, place_in, Sound}
use Rattle.graph.proofs.Line.{blocks_length, number_is, start_is, end_is, place_of_number, place_lt, number_of_place}
use Rattle.carrying.specs.Lists.{any}
use Rattle.carrying.specs.Insts.{insts_of, inst_at, is_set}
use Rattle.carrying.specs.Carried.{Mention, mentions_of}
use Rattle.carrying.specs.Checks.{misplaced, bad_register, bad_operand, bad_flags, bad_positions, bad_inst, crossing_verdict, absent, mention_at, address_verdict, end_verdict}
use Rattle.insts.specs.Counts.{rows_verdict, most_verdict, block_counts, offset, add_up, inst_counts, code_counts}
use Rattle.insts.specs.Inner.{operands_from, placing, row_inst}
use Rattle.insts.specs.Rows.{AddsUp}
use Rattle.insts.proofs.DealtLaws.{scan_same, insts_length, inst_at_lem, placed_is}

-- ---- number 1

module _ (w m n : ℕ) where
  pub rows_cut : n % w ≢ 0 → Bad Count 0 ≡ rows_verdict w m n
  rows_cut h = simp (ne_eqb (n % w) 0 h)

  pub rows_many : n % w ≡ 0 → m < n / w → Bad Count 0 ≡ rows_verdict w m n
  rows_many h l = simp (eq-eqb (n % w) 0 h, lt-ltb m (n / w) l)

  pub rows_fine : n % w ≡ 0 → n / w ≤ m → Fine ≡ rows_verdict w m n
  rows_fine h l = simp (eq-eqb (n % w) 0 h, le-ltb m (n / w) l)

  pub rows_whole : rows_verdict w m n ≡ Fine → n % w ≡ 0
  rows_whole v = same (n % w) 0 (λ e. e) (λ e. absurd (bad_fine (rows_cut e ∙ v)))

  pub rows_few : rows_verdict w m n ≡ Fine → n / w ≤ m
  rows_few v = cut (n / w) m (λ e. e) (λ e. absurd (bad_fine (rows_many (rows_whole v) e ∙ v)))

pub most_many : (m n : ℕ) → m < n → Bad Count 0 ≡ most_verdict m n
most_many m n h = simp (lt-ltb m n h)

pub most_fine : (m n : ℕ) → n ≤ m → Fine ≡ most_verdict m n
most_fine m n h = simp (le-ltb m n h)

pub most_few : (m n : ℕ) → most_verdict m n ≡ Fine → n ≤ m
most_few m n v = cut n m (λ e. e) (λ e. absurd (bad_fine (most_many m n e ∙ v)))

module _ (blocks : List ℕ) where
  pub no_rows : (r : Refusal) (i : ℕ) → rows_verdict block_width 4096 (length blocks) ≡ Bad r i → Bad r i ≡ block_counts blocks
  no_rows r i e = sym (first_bad _ _ r i e)

  pub no_block : rows_verdict block_width 4096 (length blocks) ≡ Fine → block_count blocks < 1 → Bad Count 0 ≡ block_counts blocks
  no_block e h = sym (first_fine _ _ e ∙ rw (lt-ltb (block_count blocks) 1 h))

  pub blocks_fine : rows_verdict block_width 4096 (length blocks) ≡ Fine → 1 ≤ block_count blocks → Fine ≡ block_counts blocks
  blocks_fine e h = sym (first_fine _ _ e ∙ rw (le-ltb (block_count blocks) 1 h))

  pub blocks_few : block_counts blocks ≡ Fine → block_count blocks ≤ 4096
  blocks_few v = rows_few block_width 4096 (length blocks) (first_left _ _ v)

  none_lent : block_count blocks < 1 → Bad Count 0 ≡ check Count (ltb (block_count blocks) 1)
  none_lent h = simp (lt-ltb (block_count blocks) 1 h)

  pub blocks_some : block_counts blocks ≡ Fine → 1 ≤ block_count blocks
  blocks_some v =
      cut 1 (block_count blocks) (λ e. e)
      (λ e. absurd (bad_fine (none_lent e ∙ first_right (rows_verdict block_width 4096 (length blocks)) (check Count (ltb (block_count blocks) 1)) v)))

module _ (insts operands : List ℕ) where
  pub sum_off : offset insts (inst_count insts) ≢ operand_count operands → Bad Count 0 ≡ add_up insts operands
  sum_off h = simp (ne_eqb (offset insts (inst_count insts)) (operand_count operands) h)

  pub sum_fine : AddsUp insts operands → Fine ≡ add_up insts operands
  sum_fine h = simp (eq-eqb (offset insts (inst_count insts)) (operand_count operands) h)

  pub insts_bad : (r : Refusal) (i : ℕ) → rows_verdict inst_width 65536 (length insts) ≡ Bad r i → Bad r i ≡ inst_counts insts operands
  unfolding inst_counts
  insts_bad r i e = sym (first_bad _ _ r i e)

  pub operands_bad : (r : Refusal) (i : ℕ) → rows_verdict inst_width 65536 (length insts) ≡ Fine → rows_verdict operand_width 262144 (length operands) ≡ Bad r i → Bad r i ≡ inst_counts insts operands
  unfolding inst_counts
  operands_bad r i e f = sym (first_fine _ _ e ∙ first_bad _ _ r i f)

  pub sum_last : rows_verdict inst_width 65536 (length insts) ≡ Fine → rows_verdict operand_width 262144 (length operands) ≡ Fine → add_up insts operands ≡ inst_counts insts operands
  unfolding inst_counts
  sum_last e f = sym (first_fine _ _ e ∙ first_fine _ _ f)

  -- what a fine verdict says
  pub record InstsCounted : Type 0 where
    pub few : inst_count insts ≤ 65536
    pub few_operands : operand_count operands ≤ 262144
    pub adds : AddsUp insts operands

  pub insts_counted : inst_counts insts operands ≡ Fine → InstsCounted
  unfolding inst_counts
  insts_counted v =
      let a = first_left (rows_verdict inst_width 65536 (length insts)) _ v in
      let b = first_right (rows_verdict inst_width 65536 (length insts)) _ v in
      let d = first_right (rows_verdict operand_width 262144 (length operands)) (add_up insts operands) b in
      record {
        few = rows_few inst_width 65536 (length insts) a;
        few_operands = rows_few operand_width 262144 (length operands) (first_left (rows_verdict operand_width 262144 (length operands)) (add_up insts operands) b);
        adds = same _ _ (λ e. e) (λ e. absurd (bad_fine (sum_off e ∙ d)));
      }

-- the chain of all counts
pub counts_chain : (v : ℕ) (insts operands crossings locals addresses ends : List ℕ) {a b c d e f g h i j r : Verdict}
    → a ≡ most_verdict 65535 v → b ≡ inst_counts insts operands → c ≡ most_verdict 65536 (length crossings) → d ≡ rows_verdict local_width 2048 (length locals)
    → e ≡ rows_verdict mention_width 65536 (length addresses) → f ≡ rows_verdict mention_width 65536 (length ends)
    → g ≡ first e f → h ≡ first d g → i ≡ first c h → j ≡ first b i → r ≡ first a j
    → r ≡ code_counts v insts operands crossings locals addresses ends
unfolding code_counts
counts_chain v insts operands crossings locals addresses ends ea eb ec ed ee ef eg eh ei ej er = cc

-- ---- number 4: the block of an instruction

module _ (s : List ℕ) (S : Sound (blocks_of s)) where
  -- the search finds the one block that has the point
  pub search_found : (r k e : ℕ) → Splits (λ i. leb (block_start s i) e) (block_count s) r → k < block_count s
      → (block_at (blocks_of s) k).start ≤ e → e ≤ (block_at (blocks_of s) k).end → r ≡ k + 1
  search_found r k e p h a b =
      cut r k
      (λ l. absurd (let z = leb-false (block_start s k) e (p.fails k l h) in let q = start_is s k h in omega arith))
      (λ l. cut r (k + 1) (λ m. omega arith)
      (λ m. absurd (
      let z = p.holds (k + 1) m in
      let n = blocks_length s in
      let w = p.within in
      let q = start_is s (k + 1) (omega arith) in
      let g = rw (← add-one k) at (S.gapless k (let y = add-one k in omega arith)) in
      cut (block_start s (k + 1)) e (λ y. omega arith) (λ y. let o : ◌≡◌ {A = ℕ} 0 1 = cc (lt-leb (block_start s (k + 1)) e y) in omega arith))))

  module _ (number early late : ℕ) where
    bs : List Stretch
    bs = blocks_of s

    -- no block, or one that has not both points
    pub not_in : ((k : ℕ) → k < block_count s → (block_at (blocks_of s) k).number ≡ number → (block_at (blocks_of s) k).start ≤ early → late ≤ (block_at (blocks_of s) k).end → ⊥)
        → true ≡ misplaced (blocks_of s) (placing number early late)
    not_in f =
        cut (length (blocks_of s)) number
        (λ h. sym (rw (le-leb _ _ h)))
        (λ h.
        let p = place_lt S number h in
        let n = blocks_length s in
        rw (lt-leb (length (blocks_of s)) number h)
        (cut (block_at (blocks_of s) (place_in (blocks_of s) number)).start early
        (λ a. rw (le-ltb early (block_at (blocks_of s) (place_in (blocks_of s) number)).start a)
        (cut late (block_at (blocks_of s) (place_in (blocks_of s) number)).end
        (λ b. absurd (f (place_in (blocks_of s) number) (omega arith) (number_of_place S number h) a b))
        (λ b. sym (lt-ltb _ _ b))))
        (λ a. rw (lt-ltb early (block_at (blocks_of s) (place_in (blocks_of s) number)).start a) refl)))

    pub found_in : (k : ℕ) → k < block_count s → get_or s (block_width * k) 0 ≡ number → block_start s k ≤ early
        → ltb (block_end s k) late ≡ misplaced (blocks_of s) (placing number early late)
    found_in k h e l =
        let a : k < length (blocks_of s) = rw (blocks_length s) h in
        let n : (block_at (blocks_of s) k).number ≡ number = number_is s k h ∙ e in
        let b : number < length (blocks_of s) = rw n at (S.numbered k a) in
        let p : place_in (blocks_of s) number ≡ k = rw n at (place_of_number S k a) in
        let st = start_is s k h in
        rw (lt-leb (length (blocks_of s)) number b)
        (rw p
        (rw (le-ltb early (block_at (blocks_of s) k).start (omega arith))
        (ap (λ (x : ℕ). ltb x late) (sym (end_is s k h)))))

-- ---- number 4: an instruction

module _ (a b c d e : ℕ) where
  pub fields_1 : 1 < a → true ≡ ((ltb 1 a || (ltb 1 b || ltb 1 c)) || (ltb 256 d || ltb 256 e))
  fields_1 h = simp (lt-ltb 1 a h)

  pub fields_2 : a ≤ 1 → 1 < b → true ≡ ((ltb 1 a || (ltb 1 b || ltb 1 c)) || (ltb 256 d || ltb 256 e))
  fields_2 h i = simp (le-ltb 1 a h, lt-ltb 1 b i)

  pub fields_3 : a ≤ 1 → b ≤ 1 → 1 < c → true ≡ ((ltb 1 a || (ltb 1 b || ltb 1 c)) || (ltb 256 d || ltb 256 e))
  fields_3 h i j = simp (le-ltb 1 a h, le-ltb 1 b i, lt-ltb 1 c j)

  pub fields_4 : a ≤ 1 → b ≤ 1 → c ≤ 1 → 256 < d → true ≡ ((ltb 1 a || (ltb 1 b || ltb 1 c)) || (ltb 256 d || ltb 256 e))
  fields_4 h i j k = simp (le-ltb 1 a h, le-ltb 1 b i, le-ltb 1 c j, lt-ltb 256 d k)

  pub fields_5 : a ≤ 1 → b ≤ 1 → c ≤ 1 → d ≤ 256 → ltb 256 e ≡ ((ltb 1 a || (ltb 1 b || ltb 1 c)) || (ltb 256 d || ltb 256 e))
  fields_5 h i j k = simp (le-ltb 1 a h, le-ltb 1 b i, le-ltb 1 c j, le-ltb 256 d k)

pub points_1 : (late early : ℕ) (t : Bool) → late < early → true ≡ ltb late early || t
points_1 late early t h = simp (lt-ltb late early h)

pub points_2 : (late early placed : ℕ) (t : Bool) → early ≤ late → placed ≢ 1 → false ≡ ltb late early || is_set placed && t
points_2 late early placed t h i = simp (le-ltb late early h, ne_eqb placed 1 i)

pub points_3 : (late early placed : ℕ) (t r : Bool) → early ≤ late → placed ≡ 1 → r ≡ t → r ≡ ltb late early || is_set placed && t
points_3 late early placed t r h i e = e ∙ simp (le-ltb late early h, eq-eqb placed 1 i)

split : (a b c d e : Bool) → (a || (b || (c || (d || e)))) ≡ ((a || b) || ((c || d) || e))
split true b c d e = refl
split false true c d e = refl
split false false true d e = refl
split false false false true e = refl
split false false false false e = refl

-- an instruction in three parts
pub inst_split : (bs : List Stretch) (v : ℕ) (insts operands : List ℕ) (i : ℕ) → AddsUp insts operands → i < inst_count insts
    → bad_inst bs v (inst_at (insts_of insts operands) i)
    ≡ ((ltb (inst_late insts i) (inst_early insts i) || is_set (inst_placed insts i) && misplaced bs (row_inst insts i))
    || ((bad_flags (row_inst insts i) || bad_positions (row_inst insts i)) || any (bad_operand v) (operands_from operands (offset insts i) (inst_operands insts i))))
unfolding bad_inst
inst_split bs v insts operands i adds h =
    ap (bad_inst bs v) (inst_at_lem insts operands adds i h)
    ∙ split (ltb (inst_late insts i) (inst_early insts i)) (is_set (inst_placed insts i) && misplaced bs (row_inst insts i)) (bad_flags (row_inst insts i)) (bad_positions (row_inst insts i))
    (any (bad_operand v) (operands_from operands (offset insts i) (inst_operands insts i)))

module _ (bs : List Stretch) (v : ℕ) (insts operands : List ℕ) (i : ℕ) (adds : AddsUp insts operands) (h : i < inst_count insts) where
  abbrev Points : Bool
  Points = ltb (inst_late insts i) (inst_early insts i) || is_set (inst_placed insts i) && misplaced bs (row_inst insts i)

  abbrev Fields : Bool
  Fields = bad_flags (row_inst insts i) || bad_positions (row_inst insts i)

  abbrev Operands : Bool
  Operands = any (bad_operand v) (operands_from operands (offset insts i) (inst_operands insts i))

  pub by_points : Points ≡ true → true ≡ bad_inst bs v (inst_at (insts_of insts operands) i)
  by_points e = sym (inst_split bs v insts operands i adds h ∙ ap (λ (t : Bool). t || (Fields || Operands)) e)

  pub by_fields : Points ≡ false → Fields ≡ true → true ≡ bad_inst bs v (inst_at (insts_of insts operands) i)
  by_fields e f =
      sym (inst_split bs v insts operands i adds h ∙ ap (λ (t : Bool). t || (Fields || Operands)) e ∙ ap (λ (t : Bool). t || Operands) f)

  pub by_operands : Points ≡ false → Fields ≡ false → Operands ≡ bad_inst bs v (inst_at (insts_of insts operands) i)
  by_operands e f =
      sym (inst_split bs v insts operands i adds h ∙ ap (λ (t : Bool). t || (Fields || Operands)) e ∙ ap (λ (t : Bool). t || Operands) f)

-- ---- number 4: crossings; number 5

pub crossing_is : (v : ℕ) (xs : List ℕ) → scan InstWord (λ n. leb (v + 256) (field 1 xs n 0)) (row_count 1 xs) ≡ crossing_verdict v xs
crossing_is v xs =
    let e : row_count 1 xs ≡ length xs = omega arith in
    ap (scan InstWord (λ n. leb (v + 256) (field 1 xs n 0))) e
    ∙ scan_same InstWord (λ n. leb (v + 256) (field 1 xs n 0)) (λ n. bad_register v (get_or xs n 0)) (length xs)
    (λ i h. let z : 1 * i + 0 ≡ i = omega arith in ap (λ (k : ℕ). leb (v + 256) (get_or xs k 0)) z)

module _ (insts operands s : List ℕ) where
  pub mentions_length : length (mentions_of s) ≡ mention_count s
  mentions_length = length_records {A = Mention} mention_width (λ f. record { inst = f 0; local = f 1 }) s

  pub inst_is : (i : ℕ) → i < mention_count s → (mention_at (mentions_of s) i).inst ≡ get_or s (mention_width * i) 0
  inst_is i h =
      ap (λ (m : Mention). m.inst) (get_d_records mention_width (λ f. record { inst = f 0; local = f 1 }) s i (record { inst = 0; local = 0 }) h) ∙ ap (λ (k : ℕ). get_or s k 0) (add-zero (mention_width * i))

  pub unplaced_same : (x : ℕ) → (leb (inst_count insts) x || not (is_set (inst_placed insts x)))
      ≡ (absent (insts_of insts operands) x || not (is_set (inst_at (insts_of insts operands) x).placed))
  unplaced_same x =
      cut (inst_count insts) x
      (λ h. rw (insts_length insts operands) (rw (le-leb (inst_count insts) x h) refl))
      (λ h. rw (insts_length insts operands, placed_is insts operands x h))

  pub address_is : (i : ℕ) (r : Bool) → i < mention_count s → r ≡ (leb (inst_count insts) (get_or s (mention_width * i) 0) || not (is_set (inst_placed insts (get_or s (mention_width * i) 0))))
      → (absent (insts_of insts operands) (mention_at (mentions_of s) i).inst || not (is_set (inst_at (insts_of insts operands) (mention_at (mentions_of s) i).inst).placed)) ≡ r
  address_is i r h e =
      ap (λ (x : ℕ). absent (insts_of insts operands) x || not (is_set (inst_at (insts_of insts operands) x).placed)) (inst_is i h)
      ∙ sym (unplaced_same (get_or s (mention_width * i) 0)) ∙ sym e

  pub end_is_below : scan Stray (λ n. leb (inst_count insts) (mention_inst s n)) (mention_count s) ≡ end_verdict (insts_of insts operands) (mentions_of s)
  end_is_below =
      ap (scan Stray (λ n. leb (inst_count insts) (mention_inst s n))) (sym mentions_length)
      ∙ scan_same Stray _ _ (length (mentions_of s)) (λ i h.
      let l : i < mention_count s = rw mentions_length at h in
      rw (insts_length insts operands) (ap (leb (inst_count insts)) (ap (λ (k : ℕ). get_or s k 0) (add-zero (mention_width * i)) ∙ sym (inst_is i l))))

-- the verdicts do not depend on the operands
pub address_whatever : (insts operands s : List ℕ) → address_verdict (insts_of insts []) (mentions_of s) ≡ address_verdict (insts_of insts operands) (mentions_of s)
address_whatever insts operands s =
    scan_same Stray _ _ (length (mentions_of s)) (λ i h.
    sym (unplaced_same insts [] s (mention_at (mentions_of s) i).inst) ∙ unplaced_same insts operands s (mention_at (mentions_of s) i).inst)

pub end_whatever : (insts operands s : List ℕ) → end_verdict (insts_of insts []) (mentions_of s) ≡ end_verdict (insts_of insts operands) (mentions_of s)
end_whatever insts operands s =
    scan_same Stray _ _ (length (mentions_of s)) (λ i h. ap (λ (n : ℕ). leb n (mention_at (mentions_of s) i).inst) (insts_length insts [] ∙ sym (insts_length insts operands)))

pub unplaced_1 : (n x : ℕ) (t : Bool) → n ≤ x → true ≡ leb n x || t
unplaced_1 n x t h = simp (le-leb n x h)

pub unplaced_2 : (n x p : ℕ) → x < n → not (eqb p 1) ≡ leb n x || not (is_set p)
unplaced_2 n x p h = simp (lt-leb n x h)

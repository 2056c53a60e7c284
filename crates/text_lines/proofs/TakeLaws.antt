-- One line more: what the reader's lists hold, and what it knows, afterwards.
use Prim.Native.Nat.{ℕ, suc, ◌+◌, ◌-◌, ◌*◌, ◌≤◌, ◌<◌}
use native.Mathlib.Omega.{arith}
use native.Mathlib.Nat.{mul-suc, mul-le-mul_left, add-zero}
use native.Mathlib.Numerals.{add-one}
use mathlib.Core.Path.{◌≡◌, refl, ap, sym, subst, ◌∙◌}
use mathlib.Core.Logic.{inl, inr, ⊎_elim, ◌≢◌}
use mathlib.Core.Bool.{Bool, true, cond}
use mathlib.Core.List.{List, [], ◌∷◌, ◌++◌, append-nil, append_assoc}
use lib.ListN.{length, get_or, set, take, drop, length-set, length-append, get_or-append}
use lib.Seq.{get_or-set_same, get_or-set_other, take-add, drop-drop, get_or-append_seam}
use lib.Dec.{lit<}
use borrow.Author.Tests.{eq-eqb, ne_eqb}
use Rattle.words.specs.Rows.{flat, tabulate}
use Rattle.words.specs.Inner.{Region, Kept, part}
use Rattle.words.proofs.Points.{cut, same, stored}
use Rattle.words.proofs.RegionLaws.{kept_before, kept_after, kept_part, kept_part_list, kept_then, kept_store, region_part, length_part, get_d_part, part_is}
use Rattle.words.proofs.RowLaws.{tabulate_get_d}
use Rattle.text_grammar.specs.Groups.{group_at, base_at, group_count, row_numbers, inst_group, operand_group}
use Rattle.text_grammar.specs.Lines.{line_group, line_fields}
use Rattle.text_grammar.specs.Text.{row_with, rows_in, count_of}
use Rattle.text_grammar.proofs.TableLaws.{region_end, end_within, regions_apart, row_within}
use Rattle.text_grammar.proofs.RowLaws.{group_fits, length_row, count_more, rows_more, row_of, row_none}
use Rattle.text_grammar.proofs.OperandLaws.{opens, Raised, raised}
use Rattle.text_lines.specs.Inner.{Meant, Storable, Put, count_at, Stored}

-- ---- parts of the rows

pub flat_append : (a b : List (List ℕ)) → flat (a ++ b) ≡ flat a ++ flat b
unfolding flat
flat_append [] b = refl
flat_append (x ∷ a) b = ap (λ (l : List ℕ). x ++ l) (flat_append a b) ∙ sym (append_assoc x (flat a) (flat b))

pub flat_one : (x : List ℕ) → flat (x ∷ []) ≡ x
unfolding flat
flat_one x = append-nil x

-- a part with a region behind it
part_more : (rows r : List ℕ) (b m w : ℕ) (row : List ℕ) → length row ≡ w → b + m + w ≤ length rows → Region rows r (b + m) w (λ j. get_or row j 0) → part b (m + w) r ≡ part b m rows ++ row
part_more rows r b m w row le h g =
    take-add m w (drop b r)
    ∙ ap (λ (l : List ℕ). l ++ take w (drop m (drop b r))) (kept_part_list (kept_before g b m (omega arith)) (omega arith) g.len)
    ∙ ap (λ (l : List ℕ). part b m rows ++ take w l) (drop-drop m b r)
    ∙ ap (λ (l : List ℕ). part b m rows ++ l) (region_part g (omega arith) ∙ ap (λ (n : ℕ). tabulate n (λ j. get_or row j 0)) (sym le) ∙ tabulate_get_d row 0)

-- the last number of a part
part_last : (rows : List ℕ) (b n v : ℕ) (front : List ℕ) → b + n ≤ length rows → part b n rows ≡ front ++ (v ∷ []) → (get_or rows (b + n - 1) 0 ≡ v) × (0 < n)
part_last rows b n v front h e =
    let l : length (part b n rows) ≡ n = length_part b n rows h in
    let q : length (front ++ (v ∷ [])) ≡ length front + 1 = length-append front (v ∷ []) in
    let m : length (part b n rows) ≡ length (front ++ (v ∷ [])) = ap length e in
    let i : b + n - 1 ≡ b + length front = omega arith in
    (ap (λ (x : ℕ). get_or rows x 0) i ∙ sym (get_d_part b n rows (length front) (omega arith)) ∙ ap (λ (x : List ℕ). get_or x (length front) 0) e ∙ get_or-append_seam front v [] 0, omega arith)

-- and the part after a store there
part_raised : (rows : List ℕ) (b n v u : ℕ) (front : List ℕ) → b + n ≤ length rows → part b n rows ≡ front ++ (v ∷ []) → part b n (set rows (b + n - 1) u) ≡ front ++ (u ∷ [])
part_raised rows b n v u front h e =
    let l : length (part b n rows) ≡ n = length_part b n rows h in
    let q : length (front ++ (v ∷ [])) ≡ length front + 1 = length-append front (v ∷ []) in
    let q' : length (front ++ (u ∷ [])) ≡ length front + 1 = length-append front (u ∷ []) in
    let m : length (part b n rows) ≡ length (front ++ (v ∷ [])) = ap length e in
    part_is b n (set rows (b + n - 1) u) (front ++ (u ∷ [])) (rw (length-set rows (b + n - 1) u) h) (omega arith)
    (λ i s. stored (λ y. y ≡ get_or (front ++ (u ∷ [])) i 0) rows (b + n - 1) u (b + i) (omega arith)
    (λ z. let w : length front ≡ i = omega arith in sym (get_or-append_seam front u [] 0) ∙ ap (λ (x : ℕ). get_or (front ++ (u ∷ [])) x 0) w)
    (λ z. let w : i < length front = cut (length front) i (λ a. absurd (z (omega arith))) (λ a. a) in
    sym (get_d_part b n rows i s) ∙ ap (λ (x : List ℕ). get_or x i 0) e ∙ get_or-append front (v ∷ []) 0 i w ∙ sym (get_or-append front (u ∷ []) 0 i w)))

-- ---- a line that is stored

module _ {ls : List (List ℕ)} {rows counts : List ℕ} (s : Stored ls rows counts) (rl : length rows ≡ row_numbers) (cl : length counts ≡ group_count)
    (l : List ℕ) (h : line_group l < group_count) (room : count_of (line_group l) ls < (group_at (line_group l)).room) (may : line_group l ≡ operand_group → opens ls ≡ true) where
  -- a group's part lies in its region
  part_in : (k n : ℕ) → k < group_count → n ≤ (group_at k).room → base_at k + (group_at k).width * n ≤ region_end k
  part_in k n kh nh = let m : (group_at k).width * n ≤ (group_at k).width * (group_at k).room = mul-le-mul_left (group_at k).width nh in omega arith

  insts_raised : line_group l ≡ operand_group → Raised ls l
  insts_raised e = raised l (eq-eqb (line_group l) operand_group e) ls (may e)

  -- the operand count of the last instruction
  count_place : count_at (count_of inst_group ls) ≡ base_at inst_group + (group_at inst_group).width * count_of inst_group ls - 1
  count_place = omega arith

  last_number : (e : line_group l ≡ operand_group) → (get_or rows (count_at (count_of inst_group ls)) 0 ≡ (insts_raised e).last) × (0 < count_of inst_group ls)
  last_number e =
      let p = part_last rows (base_at inst_group) ((group_at inst_group).width * count_of inst_group ls) (insts_raised e).last (insts_raised e).front
      (let a = part_in inst_group (count_of inst_group ls) (lit< tt) (s.fitting inst_group (lit< tt)) in let b = end_within inst_group (lit< tt) in omega arith)
      (s.rows_are inst_group (lit< tt) ∙ (insts_raised e).was) in
      (ap (λ (x : ℕ). get_or rows x 0) count_place ∙ p.0, (let z = p.1 in omega arith))

  pub storable : (fields : List ℕ) → Meant (line_group l) fields → Storable (line_group l) fields rows counts
  storable fields m = record {
    meant = m;
    rows_length = rl;
    counts_length = cl;
    room = rw (s.counted (line_group l) h) room;
    last = λ e. (
      let a = s.fitting inst_group (lit< tt) in let b = s.counted inst_group (lit< tt) in omega arith,
      (let b = s.counted inst_group (lit< tt) in
          let c = (last_number e).0 in
          let d = (insts_raised e).few in
          let f = s.fitting operand_group (lit< tt) in
          let g = ap (λ (n : ℕ). get_or rows (count_at n) 0) b in omega arith),
    );
  }

  module _ {fields rows' counts' : List ℕ} (p : Put (line_group l) fields rows counts rows' counts') (re : row_with (line_group l) fields 0 ≡ row_with (line_group l) (line_fields l) 0) where
    -- where the row stands
    at_is : (group_at (line_group l)).width * get_or counts (line_group l) 0 ≡ (group_at (line_group l)).width * count_of (line_group l) ls
    at_is = ap (λ (n : ℕ). (group_at (line_group l)).width * n) (s.counted (line_group l) h)

    row_in : base_at (line_group l) + (group_at (line_group l)).width * count_of (line_group l) ls + (group_at (line_group l)).width ≤ region_end (line_group l)
    row_in = row_within (line_group l) (count_of (line_group l) ls) h room

    middle_kept : (k : ℕ) → k < group_count → k ≢ line_group l → Kept rows p.middle (base_at k) ((group_at k).width * (group_at k).room)
    middle_kept k kh d =
        ⊎_elim (λ a. kept_before p.row (base_at k) ((group_at k).width * (group_at k).room) (omega (arith, at_is)))
        (λ a. kept_after p.row (base_at k) ((group_at k).width * (group_at k).room) (omega (arith, at_is, row_in)))
        (regions_apart k (line_group l) kh h d)

    middle_length : length p.middle ≡ row_numbers
    middle_length = p.row.len ∙ rl

    put_operand : (e : line_group l ≡ operand_group) → rows' ≡ set p.middle (count_at (count_of inst_group ls)) (suc (get_or p.middle (count_at (count_of inst_group ls)) 0))
    put_operand e =
        p.raised e ∙ ap (λ (n : ℕ). set p.middle (count_at n) (suc (get_or p.middle (count_at n) 0))) (s.counted inst_group (lit< tt))

    place_in : (e : line_group l ≡ operand_group) → (base_at inst_group ≤ count_at (count_of inst_group ls)) × (count_at (count_of inst_group ls) < region_end inst_group)
    place_in e = let a = (last_number e).1 in let b = s.fitting inst_group (lit< tt) in (omega arith, omega arith)

    all_kept : (k : ℕ) → k < group_count → k ≢ line_group l → (k ≡ inst_group → line_group l ≡ operand_group → ⊥) → Kept rows rows' (base_at k) ((group_at k).width * (group_at k).room)
    all_kept k kh d n =
        same (line_group l) operand_group
        (λ e. kept_then (middle_kept k kh d)
        (subst (λ (r : List ℕ). Kept p.middle r (base_at k) ((group_at k).width * (group_at k).room)) (sym (put_operand e))
        (kept_store p.middle (count_at (count_of inst_group ls)) _ (base_at k) ((group_at k).width * (group_at k).room)
        (let a = (place_in e).1 in let b = end_within inst_group (lit< tt) in let c = middle_length in omega arith)
        (⊎_elim (λ a. inr (let b = (place_in e).0 in omega arith)) (λ a. inl (let b = (place_in e).1 in omega arith)) (regions_apart k inst_group kh (lit< tt) (λ q. n q e))))))
        (λ e. subst (λ (r : List ℕ). Kept rows r (base_at k) ((group_at k).width * (group_at k).room)) (sym (p.plain e)) (middle_kept k kh d))

    rows_length' : length rows' ≡ row_numbers
    rows_length' =
        same (line_group l) operand_group (λ e. ap length (put_operand e) ∙ length-set p.middle (count_at (count_of inst_group ls)) _ ∙ middle_length) (λ e. ap length (p.plain e) ∙ middle_length)

    counts_length' : length counts' ≡ group_count
    counts_length' = ap length p.in_counts ∙ length-set counts (line_group l) (get_or counts (line_group l) 0 + 1) ∙ cl

    -- the parts of the groups that have no row more
    part_kept : (k : ℕ) → k < group_count → k ≢ line_group l → (k ≡ inst_group → line_group l ≡ operand_group → ⊥) → (n : ℕ) → n ≤ (group_at k).room
        → part (base_at k) ((group_at k).width * n) rows' ≡ part (base_at k) ((group_at k).width * n) rows
    part_kept k kh d q n nh =
        let a = part_in k n kh nh in
        let b = end_within k kh in
        kept_part_list (kept_part (all_kept k kh d q) (base_at k) ((group_at k).width * n) (omega arith) (omega arith)) (omega arith) (rows_length' ∙ sym rl)

    count_same : (k : ℕ) → k ≢ line_group l → count_of k (ls ++ (l ∷ [])) ≡ count_of k ls
    count_same k d = count_more l k ls ∙ ap (λ (t : Bool). count_of k ls + cond t 1 0) (ne_eqb (line_group l) k (λ e. d (sym e))) ∙ add-zero (count_of k ls)

    count_next : count_of (line_group l) (ls ++ (l ∷ [])) ≡ count_of (line_group l) ls + 1
    count_next = count_more l (line_group l) ls ∙ ap (λ (t : Bool). count_of (line_group l) ls + cond t 1 0) (eq-eqb (line_group l) (line_group l) refl)

    -- a group with no row more
    rows_same : (k : ℕ) → k < group_count → k ≢ line_group l → (k ≡ inst_group → line_group l ≡ operand_group → ⊥)
        → part (base_at k) ((group_at k).width * count_of k (ls ++ (l ∷ []))) rows' ≡ flat (rows_in k (ls ++ (l ∷ [])))
    rows_same k kh d q =
        ap (λ (n : ℕ). part (base_at k) ((group_at k).width * n) rows') (count_same k d) ∙ part_kept k kh d q (count_of k ls) (s.fitting k kh) ∙ s.rows_are k kh
        ∙ ap flat (sym (rows_more l k q ls ∙ ap (λ (x : List (List ℕ)). rows_in k ls ++ x) (row_none l k (λ e. d (sym e))) ∙ append-nil (rows_in k ls)))

    -- the instructions, where the line is an operand
    insts_now : (e : line_group l ≡ operand_group) → part (base_at inst_group) ((group_at inst_group).width * count_of inst_group (ls ++ (l ∷ []))) rows' ≡ flat (rows_in inst_group (ls ++ (l ∷ [])))
    insts_now e =
        let d : inst_group ≢ line_group l = (λ q. absurd (let z : ◌≡◌ {A = ℕ} 3 4 = q ∙ e in omega arith)) in
        let a = part_in inst_group (count_of inst_group ls) (lit< tt) (s.fitting inst_group (lit< tt)) in
        let b = end_within inst_group (lit< tt) in
        let m : part (base_at inst_group) ((group_at inst_group).width * count_of inst_group ls) p.middle ≡ (insts_raised e).front ++ ((insts_raised e).last ∷ []) =
        kept_part_list (kept_part (middle_kept inst_group (lit< tt) d) (base_at inst_group) ((group_at inst_group).width * count_of inst_group ls) (omega arith) (omega arith)) (omega arith) p.row.len
        ∙ s.rows_are inst_group (lit< tt) ∙ (insts_raised e).was in
        let v = (part_last p.middle (base_at inst_group) ((group_at inst_group).width * count_of inst_group ls) (insts_raised e).last (insts_raised e).front (let c = middle_length in omega arith) m).0 in
        ap (λ (n : ℕ). part (base_at inst_group) ((group_at inst_group).width * n) rows') (count_same inst_group d)
        ∙ ap (λ (r : List ℕ). part (base_at inst_group) ((group_at inst_group).width * count_of inst_group ls) r)
        (put_operand e ∙ ap (λ (x : ℕ). set p.middle x (suc (get_or p.middle x 0))) count_place
        ∙ ap (λ (x : ℕ). set p.middle (base_at inst_group + (group_at inst_group).width * count_of inst_group ls - 1) (suc x)) v)
        ∙ part_raised p.middle (base_at inst_group) ((group_at inst_group).width * count_of inst_group ls) (insts_raised e).last (suc (insts_raised e).last) (insts_raised e).front (let c = middle_length in omega arith) m
        ∙ sym (insts_raised e).is

    -- the line's own group
    row_length : length (row_with (line_group l) fields 0) ≡ (group_at (line_group l)).width
    row_length = ap length re ∙ length_row (line_group l) (line_fields l) 0 h (group_fits l h)

    own_middle : part (base_at (line_group l)) ((group_at (line_group l)).width * count_of (line_group l) ls + (group_at (line_group l)).width) p.middle ≡ flat (rows_in (line_group l) ls) ++ row_with (line_group l) fields 0
    own_middle =
        part_more rows p.middle (base_at (line_group l)) ((group_at (line_group l)).width * count_of (line_group l) ls) (group_at (line_group l)).width (row_with (line_group l) fields 0) row_length
        (let a = row_in in let b = end_within (line_group l) h in omega arith)
        (subst (λ (x : ℕ). Region rows p.middle (base_at (line_group l) + x) (group_at (line_group l)).width (λ j. get_or (row_with (line_group l) fields 0) j 0)) at_is p.row)
        ∙ ap (λ (x : List ℕ). x ++ row_with (line_group l) fields 0) (s.rows_are (line_group l) h)

    own_kept : part (base_at (line_group l)) ((group_at (line_group l)).width * count_of (line_group l) ls + (group_at (line_group l)).width) rows'
        ≡ part (base_at (line_group l)) ((group_at (line_group l)).width * count_of (line_group l) ls + (group_at (line_group l)).width) p.middle
    own_kept =
        same (line_group l) operand_group
        (λ e. let a = row_in in let b = end_within (line_group l) h in let c = middle_length in let r = rows_length' in
        let d : line_group l ≢ inst_group = (λ q. absurd (let z : ◌≡◌ {A = ℕ} 4 3 = sym e ∙ q in omega arith)) in
        kept_part_list
        (subst (λ (r : List ℕ). Kept p.middle r (base_at (line_group l)) ((group_at (line_group l)).width * count_of (line_group l) ls + (group_at (line_group l)).width)) (sym (put_operand e))
        (kept_store p.middle (count_at (count_of inst_group ls)) _ (base_at (line_group l)) ((group_at (line_group l)).width * count_of (line_group l) ls + (group_at (line_group l)).width)
        (let i = (place_in e).1 in let j = end_within inst_group (lit< tt) in omega arith)
        (⊎_elim (λ u. inr (let i = (place_in e).0 in omega arith)) (λ u. inl (let i = (place_in e).1 in omega arith)) (regions_apart (line_group l) inst_group h (lit< tt) d))))
        (omega arith) (omega arith))
        (λ e. ap (part (base_at (line_group l)) ((group_at (line_group l)).width * count_of (line_group l) ls + (group_at (line_group l)).width)) (p.plain e))

    own_rows : part (base_at (line_group l)) ((group_at (line_group l)).width * count_of (line_group l) (ls ++ (l ∷ []))) rows' ≡ flat (rows_in (line_group l) (ls ++ (l ∷ [])))
    own_rows =
        let q : line_group l ≡ inst_group → line_group l ≡ operand_group → ⊥ = (λ a b. let z : ◌≡◌ {A = ℕ} 3 4 = sym a ∙ b in omega arith) in
        ap (λ (n : ℕ). part (base_at (line_group l)) n rows') (ap (λ (n : ℕ). (group_at (line_group l)).width * n) (count_next ∙ add-one (count_of (line_group l) ls)) ∙ mul-suc (group_at (line_group l)).width (count_of (line_group l) ls))
        ∙ own_kept ∙ own_middle ∙ ap (λ (x : List ℕ). flat (rows_in (line_group l) ls) ++ x) (re ∙ sym (flat_one (row_with (line_group l) (line_fields l) 0)))
        ∙ sym (ap flat (rows_more l (line_group l) q ls ∙ ap (λ (x : List (List ℕ)). rows_in (line_group l) ls ++ x) (row_of l (line_group l) refl)) ∙ flat_append (rows_in (line_group l) ls) (row_with (line_group l) (line_fields l) 0 ∷ []))

    pub stored_more : Stored (ls ++ (l ∷ [])) rows' counts'
    stored_more = record {
      fitting = λ k kh. same k (line_group l) (λ e. rw e (let a = count_next in omega arith)) (λ d. rw (count_same k d) (s.fitting k kh));
      counted = λ k kh. ap (λ (x : List ℕ). get_or x k 0) p.in_counts
          ∙ same k (line_group l)
          (λ e. ap (λ (n : ℕ). get_or (set counts (line_group l) (get_or counts (line_group l) 0 + 1)) n 0) e ∙ get_or-set_same counts (line_group l) _ 0 (rw cl h)
          ∙ ap (λ (n : ℕ). n + 1) (s.counted (line_group l) h) ∙ sym (ap (λ (n : ℕ). count_of n (ls ++ (l ∷ []))) e ∙ count_next))
          (λ d. get_or-set_other counts (line_group l) k _ 0 d ∙ s.counted k kh ∙ sym (count_same k d));
      rows_are = λ k kh. same k (line_group l)
          (λ e. subst (λ (n : ℕ). part (base_at n) ((group_at n).width * count_of n (ls ++ (l ∷ []))) rows' ≡ flat (rows_in n (ls ++ (l ∷ [])))) (sym e) own_rows)
          (λ d. same k inst_group
          (λ i. same (line_group l) operand_group
          (λ o. subst (λ (n : ℕ). part (base_at n) ((group_at n).width * count_of n (ls ++ (l ∷ []))) rows' ≡ flat (rows_in n (ls ++ (l ∷ [])))) (sym i) (insts_now o))
          (λ o. rows_same k kh d (λ _ q. o q)))
          (λ i. rows_same k kh d (λ q _. i q)));
    }

    pub lengths_more : (length rows' ≡ row_numbers) × (length counts' ≡ group_count)
    lengths_more = (rows_length', counts_length')

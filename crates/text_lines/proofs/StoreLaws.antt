-- The store of one line: where its row stands, and the instruction that an operand belongs to.
use Prim.Native.Nat.{ℕ, suc, ◌+◌, ◌-◌, ◌*◌, ◌≤◌, ◌<◌}
use native.Mathlib.Omega.{arith}
use native.Mathlib.Numerals.{add-one}
use mathlib.Core.Path.{◌≡◌, refl, ap, sym, subst, ◌∙◌}
use mathlib.Core.Bool.{Bool, false, ◌&&◌}
use mathlib.Core.List.{List}
use lib.ListN.{length, get_or, set}
use lib.Dec.{leb, ltb}
use borrow.Author.Tests.{lt-ltb, le-ltb, le-leb, lt-leb}
use Rattle.words.specs.Inner.{Region}
use Rattle.text_grammar.specs.Groups.{group_at, base_at, group_count, row_numbers, allowed, may_follow, inst_group, operand_group}
use Rattle.text_grammar.specs.Text.{row_with}
use Rattle.text_grammar.proofs.TableLaws.{row_within, end_within, room_most}
use Rattle.text_lines.specs.Inner.{Storable, Put, count_at}

-- ---- whether a line may follow

pub follow_none : (k p : ℕ) → group_count ≤ k → false ≡ (ltb k group_count && may_follow p k)
follow_none k p h = rw (le-ltb k group_count h)

module _ (k p least : ℕ) (h : k < group_count) (e : least ≡ (group_at k).least) where
  pub follow_early : p < least → false ≡ (ltb k group_count && may_follow p k)
  follow_early l = sym (ap (λ (t : Bool). t && may_follow p k) (lt-ltb k group_count h) ∙ ap (λ (t : Bool). t && leb p (group_at k).most) (lt-leb (group_at k).least p (omega arith)))

  pub follow_rest : (most : ℕ) → most ≡ (group_at k).most → least ≤ p → leb p most ≡ (ltb k group_count && may_follow p k)
  follow_rest most q l =
      ap (leb p) q
      ∙ sym (ap (λ (t : Bool). t && may_follow p k) (lt-ltb k group_count h) ∙ ap (λ (t : Bool). t && leb p (group_at k).most) (le-leb (group_at k).least p (omega arith)))

-- ---- where the row stands

module _ {k : ℕ} {fields rows counts : List ℕ} (s : Storable k fields rows counts) where
  pub row_room : base_at k + (group_at k).width * get_or counts k 0 + (group_at k).width ≤ row_numbers
  row_room = let a = row_within k (get_or counts k 0) s.meant.group s.room in let b = end_within k s.meant.group in omega arith

  pub few : get_or counts k 0 < allowed
  few = let a = room_most k s.meant.group in let b = s.room in omega arith

  module _ (e : k ≡ operand_group) (middle : List ℕ) (g : Region rows middle (base_at k + (group_at k).width * get_or counts k 0) (group_at k).width (λ j. get_or (row_with k fields 0) j 0)) (i : ℕ) (ie : i ≡ get_or counts inst_group 0) where
    pub last_fine : (i ≤ allowed) × (length middle ≡ row_numbers) × (get_or middle (count_at i) 0 ≤ allowed)
    last_fine =
        let l = (s.last e).0 in
        let m = (s.last e).1 in
        let b : base_at k ≡ base_at operand_group = ap base_at e in
        let w : get_or middle (count_at i) 0 ≡ get_or rows (count_at i) 0 = g.before (count_at i) (omega arith) in
        let z : get_or rows (count_at i) 0 ≡ get_or rows (count_at (get_or counts inst_group 0)) 0 = ap (λ (n : ℕ). get_or rows (count_at n) 0) ie in
        (omega arith, g.len ∙ s.rows_length, omega arith)

    pub put_operand : {rows' counts' : List ℕ} → rows' ≡ set middle (count_at i) (suc (get_or middle (count_at i) 0)) → counts' ≡ set counts k (get_or counts k 0 + 1) → Put k fields rows counts rows' counts'
    put_operand re ce = record {
      middle = middle;
      row = g;
      plain = λ d. absurd (d e);
      raised = λ _. re ∙ ap (λ (n : ℕ). set middle (count_at n) (suc (get_or middle (count_at n) 0))) ie;
      in_counts = ce;
    }

  pub put_plain : (k ≡ operand_group → ⊥) → (middle : List ℕ) → Region rows middle (base_at k + (group_at k).width * get_or counts k 0) (group_at k).width (λ j. get_or (row_with k fields 0) j 0)
      → {counts' : List ℕ} → counts' ≡ set counts k (get_or counts k 0 + 1) → Put k fields rows counts middle counts'
  put_plain d middle g ce = record { middle = middle; row = g; plain = λ _. refl; raised = λ e. absurd (d e); in_counts = ce }

-- the code's base and width
pub placed_at : (k n b w x : ℕ) {rows r : List ℕ} {f : ℕ → ℕ} → b ≡ base_at k → w ≡ (group_at k).width → x ≡ b + w * n → Region rows r x (group_at k).width f → Region rows r (base_at k + (group_at k).width * n) (group_at k).width f
placed_at k n b w x {rows} {r} {f} be we xe g = subst (λ (y : ℕ). Region rows r y (group_at k).width f) (xe ∙ ap (λ (y : ℕ). y + w * n) be ∙ ap (λ (y : ℕ). base_at k + y * n) we) g

-- ---- an instruction's operand count, by the code's base and width

module _ (i : ℕ) {b w : ℕ} (be : b ≡ base_at inst_group) (we : w ≡ (group_at inst_group).width) (h : i ≤ allowed) where
  pub count_is : b - 1 + w * i ≡ count_at i
  count_is = ap (λ (x : ℕ). x - 1 + w * i) be ∙ ap (λ (x : ℕ). base_at inst_group - 1 + x * i) we

  pub count_in_lem : (w * i < row_numbers) × (b - 1 + w * i < row_numbers)
  count_in_lem = let e = ap (λ (x : ℕ). x * i) we in (omega arith, omega arith)

pub raised_at : (rows : List ℕ) (i : ℕ) {x : ℕ} → x ≡ count_at i → set rows x (get_or rows x 0 + 1) ≡ set rows (count_at i) (suc (get_or rows (count_at i) 0))
raised_at rows i {x} e = ap (λ (v : ℕ). set rows x v) (add-one (get_or rows x 0)) ∙ ap (λ (n : ℕ). set rows n (suc (get_or rows n 0))) e

-- An accepted text's rows and counts copied into lent lists, group by group.
use Prim.Native.Nat.{ℕ, zero, suc, ◌+◌, ◌*◌, ◌≤◌, ◌<◌}
use native.Mathlib.Omega.{arith}
use native.Mathlib.Nat.{mul-le-mul_left, zero-add}
use native.Mathlib.Numerals.{add-one}
use mathlib.Core.Path.{◌≡◌, refl, ap, sym, subst, ◌∙◌}
use mathlib.Core.Bool.{Bool}
use mathlib.Core.List.{List, [], ◌∷◌, ◌++◌, append_assoc}
use lib.ListN.{length, get_or, take, drop, set, length-append, length-take, get_or-eq_default}
use lib.Seq.{take_at, drop-append-add, drop-drop}
use lib.Dec.{eqb, eqb→eq}
use Rattle.words.specs.Rows.{tabulate, flat}
use Rattle.words.specs.Inner.{Region, part}
use Rattle.words.proofs.RowLaws.{length_tabulate, tabulate_suc}
use Rattle.words.proofs.RegionLaws.{Done, done_start, done_more, done_all, get_d_part, region_list, region_front}
use Rattle.text_grammar.specs.Groups.{group_at, base_at, group_count, row_numbers}
use Rattle.text_grammar.proofs.TableLaws.{at, end_within}
use Rattle.text_lines.proofs.TakeLaws.{flat_append, flat_one}
use Rattle.text_lines.specs.Inner.{padded, Copyable, Copied}

-- ---- where the groups begin

-- how many numbers the groups before k have room for
unfoldable pub before : ℕ → ℕ
before zero = 0
before (suc k) = before k + (group_at k).width * (group_at k).room

start_entry : ℕ → Bool
start_entry k = eqb (before k) (base_at k)

pub starts : (k : ℕ) → k < group_count → before k ≡ base_at k
unfolding start_entry before
starts k h = eqb→eq (before k) (base_at k) (at group_count start_entry tt k h)

pub before_all : before group_count ≡ row_numbers
unfolding before
before_all = refl

before_next : (k : ℕ) → before (k + 1) ≡ before k + (group_at k).width * (group_at k).room
unfolding before
before_next k = ap before (add-one k)

-- ---- rows one after another, each as long as its group has room

flat_next : (k : ℕ) (row : ℕ → List ℕ) → flat (tabulate (k + 1) row) ≡ flat (tabulate k row) ++ row k
flat_next k row =
    ap (λ (n : ℕ). flat (tabulate n row)) (add-one k) ∙ ap flat (tabulate_suc k row) ∙ flat_append (tabulate k row) (row k ∷ []) ∙ ap (λ (l : List ℕ). flat (tabulate k row) ++ l) (flat_one (row k))

pub flat_before : (row : ℕ → List ℕ) (k : ℕ) → ((i : ℕ) → i < k → length (row i) ≡ (group_at i).width * (group_at i).room) → length (flat (tabulate k row)) ≡ before k
unfolding before flat tabulate
flat_before row zero h = refl
flat_before row (suc k) h =
    let e = ap length (ap (λ (n : ℕ). flat (tabulate n row)) (sym (add-one k)) ∙ flat_next k row) ∙ length-append (flat (tabulate k row)) (row k) in
    let p = flat_before row k (λ i l. h i (omega arith)) in
    let q = h k (omega arith) in
    omega arith

padded_long : (held counted : List ℕ) (k : ℕ) → length (padded held counted k) ≡ (group_at k).width * (group_at k).room
padded_long held counted k = length_tabulate ((group_at k).width * (group_at k).room) _

padded_before : (held counted : List ℕ) (k : ℕ) → length (flat (tabulate k (padded held counted))) ≡ before k
padded_before held counted k = flat_before (padded held counted) k (λ i h. padded_long held counted i)

-- ---- a number of a group: one of its records', or zero

pub group_held : (held : List ℕ) (base len j x : ℕ) → j < len → x ≡ base + j → get_or held x 0 ≡ get_or (part base len held) j 0
group_held held base len j x h e = ap (λ (i : ℕ). get_or held i 0) e ∙ sym (get_d_part base len held j h)

pub group_past : (held : List ℕ) (base len j : ℕ) → len ≤ j → 0 ≡ get_or (part base len held) j 0
group_past held base len j h = sym (get_or-eq_default (part base len held) 0 (let l = length-take len (drop base held) in omega arith))

-- ---- group by group

pub record Copying (held counted rows₀ counts₀ rows counts : List ℕ) (k : ℕ) : Type 0 where
  pub len : length rows ≡ length rows₀
  pub rows_are : rows ≡ flat (tabulate k (padded held counted)) ++ drop (before k) rows₀
  pub counts_are : Done counts₀ counts 0 group_count (λ i. get_or counted i 0) k

pub copy_start : (held counted rows counts : List ℕ) → Copyable held counted rows counts → Copying held counted rows counts rows counts 0
unfolding before flat tabulate
copy_start held counted rows counts c = record { len = refl; rows_are = refl; counts_are = done_start counts 0 group_count _ (let r = c.counts_room in omega arith) }

module _ {held counted rows₀ counts₀ : List ℕ} (c : Copyable held counted rows₀ counts₀) {rows counts : List ℕ} {k : ℕ} (d : Copying held counted rows₀ counts₀ rows counts k) where
  module _ (h : k < group_count) where
    -- a group's part is within the lists
    pub group_within : base_at k + (group_at k).width * (group_at k).room ≤ row_numbers
    group_within = end_within k h

    pub few_numbers : (group_at k).width * get_or counted k 0 ≤ row_numbers
    few_numbers = let m = mul-le-mul_left (group_at k).width (c.fitting k h) in let e = end_within k h in omega arith

    pub group_rooms : (base_at k + (group_at k).width * (group_at k).room ≤ length held) × (base_at k + (group_at k).width * (group_at k).room ≤ length rows)
    group_rooms = (let e = end_within k h in let l = c.held_length in omega arith, (let e = end_within k h in let l = d.len in let r = c.rows_room in omega arith))

    -- the same by the code's base, width and room
    module _ (b w m : ℕ) (be : b ≡ base_at k) (we : w ≡ (group_at k).width) (me : m ≡ (group_at k).room) where
      pub few_as : w * get_or counted k 0 ≤ row_numbers
      few_as = rw we few_numbers

      pub room_as : w * m ≤ row_numbers
      room_as = rw (we, me) (let e = group_within in omega arith)

      pub rooms_as : (b + w * m ≤ length held) × (b + w * m ≤ length rows)
      rooms_as = rw (be, we, me) group_rooms

    front : take (base_at k) rows ≡ flat (tabulate k (padded held counted))
    front =
        ap (take (base_at k)) d.rows_are
        ∙ take_at (flat (tabulate k (padded held counted))) (drop (before k) rows₀) (base_at k) (padded_before held counted k ∙ starts k h)

    behind : drop (base_at k + (group_at k).width * (group_at k).room) rows ≡ drop (before (k + 1)) rows₀
    behind =
        ap (drop (base_at k + (group_at k).width * (group_at k).room)) d.rows_are
        ∙ ap (λ (n : ℕ). drop (n + (group_at k).width * (group_at k).room) (flat (tabulate k (padded held counted)) ++ drop (before k) rows₀)) (sym (padded_before held counted k ∙ starts k h))
        ∙ drop-append-add (flat (tabulate k (padded held counted))) (drop (before k) rows₀) ((group_at k).width * (group_at k).room)
        ∙ drop-drop ((group_at k).width * (group_at k).room) (before k) rows₀ ∙ ap (λ (n : ℕ). drop n rows₀) (sym (before_next k))

    pub copy_more : {rows' : List ℕ} → Region rows rows' (base_at k) ((group_at k).width * (group_at k).room) (λ j. get_or (part (base_at k) ((group_at k).width * get_or counted k 0) held) j 0)
        → Copying held counted rows₀ counts₀ rows' (set counts k (get_or counted k 0)) (k + 1)
    copy_more {rows'} r = record {
      len = r.len ∙ d.len;
      rows_are = region_list r group_rooms.1
          ∙ ap (λ (l : List ℕ). l ++ (padded held counted k ++ drop (base_at k + (group_at k).width * (group_at k).room) rows)) front
          ∙ ap (λ (l : List ℕ). flat (tabulate k (padded held counted)) ++ (padded held counted k ++ l)) behind
          ∙ sym (append_assoc (flat (tabulate k (padded held counted))) (padded held counted k) (drop (before (k + 1)) rows₀))
          ∙ ap (λ (l : List ℕ). l ++ drop (before (k + 1)) rows₀) (sym (flat_next k (padded held counted)));
      counts_are = done_more d.counts_are k (get_or counted k 0) h (sym (zero-add k)) refl;
    }

  pub copy_done : group_count ≤ k → Copied held counted rows₀ counts₀ rows counts
  copy_done h =
      let e : k ≡ group_count = (let l = d.counts_are.k_le in omega arith) in
      record {
        in_rows = d.rows_are ∙ ap (λ (n : ℕ). flat (tabulate n (padded held counted)) ++ drop (before n) rows₀) e ∙ ap (λ (n : ℕ). flat (tabulate group_count (padded held counted)) ++ drop n rows₀) before_all;
        in_counts = region_front (done_all d.counts_are h) c.counts_room;
      }

-- the code's base, width and room
pub group_as : (held : List ℕ) (k b w m n : ℕ) {rows r : List ℕ} → b ≡ base_at k → w ≡ (group_at k).width → m ≡ (group_at k).room → Region rows r b (w * m) (λ j. get_or (part b (w * n) held) j 0)
    → Region rows r (base_at k) ((group_at k).width * (group_at k).room) (λ j. get_or (part (base_at k) ((group_at k).width * n) held) j 0)
group_as held k b w m n {rows} {r} be we me q =
    subst (λ (x : ℕ). Region rows r x ((group_at k).width * (group_at k).room) (λ j. get_or (part x ((group_at k).width * n) held) j 0)) be
    (subst (λ (x : ℕ). Region rows r b (x * (group_at k).room) (λ j. get_or (part b (x * n) held) j 0)) we (subst (λ (x : ℕ). Region rows r b (w * x) (λ j. get_or (part b (w * n) held) j 0)) me q))

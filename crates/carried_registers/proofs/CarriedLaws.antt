-- The entry `carried`: the queue in order is the list of the definition, and the ways out.
use Prim.Native.Nat.{ℕ, ◌+◌, ◌^◌, ◌≤◌, ◌<◌, min}
use native.Mathlib.Omega.{arith}
use mathlib.Core.Path.{◌≡◌, refl, sym, ap, ◌∙◌, subst}
use mathlib.Core.Logic.{inl}
use mathlib.Core.Bool.{true}
use mathlib.Core.Option.{some}
use mathlib.Core.List.{List, ◌++◌, Memᴰ}
use lib.ListN.{length, get_or, drop}
use borrow.Author.Tests.{lt-ltb, le-ltb}
use Rattle.refusals.specs.declared.Refusal.{Refusal}
use Rattle.refusals.specs.Outcomes.{given, after}
use Rattle.words.specs.Rows.{tabulate}
use Rattle.words.specs.Sort.{sort_of}
use Rattle.words.specs.Inner.{Region, part}
use Rattle.words.specs.Regions.{cleared, row_words}
use Rattle.words.specs.Widths.{inst_count, operand_count, local_count, address_count}
use Rattle.words.proofs.RowLaws.{tabulate_get_d}
use Rattle.words.proofs.SortLaws.{mem_sort, mem_of_sort, length_sort}
use Rattle.words.proofs.RegionLaws.{length_part, get_d_part, region_front}
use Rattle.graph.specs.Inner.Work.{Within}
use Rattle.graph.proofs.Within.{within_refl, within_trans, within_wider, region_within}
use Rattle.graph.proofs.Line.{mem_at, at_mem}
use Rattle.carrying.specs.Carried.{Code, Carries, carries, carried}
use Rattle.carrying.proofs.CarryLaws.{carries_below, carried_least}
use Rattle.reach.specs.declared.Lay.{Lay}
use Rattle.reach.specs.Prepared.{code_of}
use Rattle.follow.specs.declared.Sizes.{Sizes}
use Rattle.follow.specs.declared.Followed.{Followed}
use Rattle.queue.specs.Inner.{queued}
use Rattle.follow.specs.Inner.{FollowedTo}
use Rattle.carry_checks.specs.Checks.{carry_space, carry_verdict}
use Rattle.carry_checks.specs.Inner.{used_of}
use Rattle.carried_registers.specs.Carried.{most_of, verdict_of, CarriedTo}
use Rattle.carried_registers.specs.Inner.{Registers}
use Rattle.carried_registers.proofs.UpLaws.{Up, apart_of_lem, up_sort, up_below, below_length, up_same}
use Rattle.carry_checks.proofs.LayoutLaws.{cleared_all}
use Rattle.refusals.specs.Verdicts.{Bad, Fine, Verdict}
use Rattle.std.specs.Prelude.{Ok, Err, Some, None}

carried_up : (C : Code) (l : ℕ) → Up (carried C l)
unfolding carried
carried_up C l = up_below C.numbered (carries C l)

-- each carried register is numbered
pub carried_length : (C : Code) (l : ℕ) → length (carried C l) ≤ C.numbered
unfolding carried
carried_length C l = below_length C.numbered (carries C l)

-- what fits a list fits one of the same length
pub fits_on : {n a b c : ℕ} → n ≤ a → b ≡ a → c ≡ b → n ≤ c
fits_on h e g = omega arith

-- and so does what is as long
pub fits_as : {m n a b : ℕ} → m ≡ n → n ≤ a → b ≡ a → m ≤ b
fits_as d h e = omega arith

-- what has changed before the queue only
pub from_start : {lo q used : ℕ} {a b : List ℕ} (i : ℕ) → q + i ≡ used → Within lo q a b → Within 0 used a b
from_start i e d = within_wider 0 _ (omega arith) (omega arith) d

module _ (C : Code) (lay : Lay) (z : Sizes) (l : ℕ) {w : List ℕ} {f : Followed} (p : FollowedTo C lay z l true w f) (fits : lay.queue + z.insts ≤ length w) where
  abbrev P : List ℕ
  P = part lay.queue f.count w

  size : length P ≡ f.count
  size = length_part lay.queue f.count w (let q = p.few in omega arith)

  pub queue_holds : lay.queue + f.count ≤ length w
  queue_holds = let q = p.few in omega arith

  at : (k : ℕ) → k < f.count → get_or P k 0 ≡ queued lay w k
  at k h = get_d_part lay.queue f.count w k h

  mem_carries : (x : ℕ) → Memᴰ x P → Carries C l x
  mem_carries x m =
      let (k, h, e) = at_mem P x 0 m in
      let g : k < f.count = (let q = size in omega arith) in
      subst (Carries C l) (sym (at k g) ∙ e) (p.only k g)

  carries_mem : (x : ℕ) → Carries C l x → Memᴰ x P
  carries_mem x c =
      let (k, h, e) = p.all (inl refl) x c in
      subst (λ (y : ℕ). Memᴰ y P) (at k h ∙ e) (mem_at P k 0 (let q = size in omega arith))

  pub sorted_is : sort_of P ≡ carried C l
  sorted_is =
      up_same (sort_of P) (carried C l)
      (up_sort P (apart_of_lem P (λ j k a b e.
      let h : k < f.count = (let q = size in omega arith) in
      p.once j k a h (sym (at j (omega arith)) ∙ e ∙ at k h))))
      (carried_up C l)
      (λ x m. (carried_least C l x).1 (mem_carries x (mem_of_sort P m)))
      (λ x m. mem_sort P (carries_mem x ((carried_least C l x).0 m)))

  pub count_is : f.count ≡ length (carried C l)
  count_is = sym size ∙ sym (length_sort P) ∙ ap length sorted_is

  module _ {w' : List ℕ} (s : Region w w' lay.queue f.count (λ i. get_or (sort_of P) i 0)) where
    pub sorted_at : (k : ℕ) → k < f.count → get_or w' (lay.queue + k) 0 ≡ get_or (carried C l) k 0
    sorted_at k h = s.inside (lay.queue + k) k refl h ∙ ap (λ (x : List ℕ). get_or x k 0) sorted_is

    sorted_small : C.numbered ≤ 65535 → (k : ℕ) → k < f.count → get_or w' (lay.queue + k) 0 < 2 ^ 32
    sorted_small v k h =
        let e = sorted_at k h in
        let m = mem_at (carried C l) k 0 (let q = count_is in omega arith) in
        let b = carries_below C l (get_or (carried C l) k 0) ((carried_least C l (get_or (carried C l) k 0)).0 m) in
        omega arith

    count_small : f.count ≤ min C.numbered z.insts
    count_small = let a = count_is in let b = carried_length C l in let c = p.few in omega arith

    pub narrow_asks : {a : ℕ} → min C.numbered z.insts ≤ a → C.numbered ≤ 65535
        → (0 + f.count ≤ a) × (lay.queue + f.count ≤ length w') × ((k : ℕ) → k < f.count → get_or w' (lay.queue + k) 0 < 2 ^ 32)
    narrow_asks g v = (let q = count_small in omega arith, (let q = p.few in let e = s.len in omega arith), sorted_small v)

    pub registers_are : {answer₀ answer w₀ w₁ : List ℕ} (used : ℕ) → Within 0 used w₀ w₁ → Within lay.queue (lay.queue + z.insts) w₁ w → lay.queue + z.insts ≡ used → min C.numbered z.insts ≤ length answer₀
        → Region answer₀ answer 0 f.count (λ k. get_or w' (lay.queue + k) 0) → Registers C l used f.count answer₀ answer w₀ w'
    registers_are used a b e g r = record {
      kept = within_trans a (within_trans (within_wider 0 used (omega arith) (omega arith) b) (within_wider 0 used (omega arith) (let q = p.few in omega arith) (region_within s)));
      count = count_is;
      room = (let q = count_small in omega arith);
      list = record { len = r.len; inside = λ x i q h. r.inside x i q h ∙ sorted_at i h; before = r.before; after = r.after };
    }

module _ (points v : ℕ) (blocks insts operands crossings locals addresses ends : List ℕ) (l : ℕ) (answer₀ work₀ : List ℕ) where
  abbrev C₀ : Code
  C₀ = code_of v insts operands crossings addresses ends

  abbrev Given : Verdict
  Given = verdict_of points v blocks insts operands crossings locals addresses ends (length answer₀) (length work₀)

  pub carried_refused : (m : ℕ) → m ≡ most_of v insts → (r : Refusal) (i : ℕ)
      → carry_verdict points v blocks insts operands crossings locals addresses ends (length answer₀) m (length work₀) ≡ Bad r i
      → CarriedTo points v blocks insts operands crossings locals addresses ends l answer₀ work₀ (Err (r, i)) answer₀ work₀
  carried_refused m em r i f =
      let e : Given ≡ Bad r i = ap (λ (x : ℕ). carry_verdict points v blocks insts operands crossings locals addresses ends (length answer₀) x (length work₀)) (sym em) ∙ f in
      record { outcome = rw e; list = rw e; space = rw e }

  pub carried_absent : {work : List ℕ} (m : ℕ) → m ≡ most_of v insts
      → carry_verdict points v blocks insts operands crossings locals addresses ends (length answer₀) m (length work₀) ≡ Fine
      → local_count locals ≤ l → (words : ℕ) → words ≡ carry_space v blocks insts operands crossings locals addresses ends → work ≡ cleared words work₀
      → CarriedTo points v blocks insts operands crossings locals addresses ends l answer₀ work₀ (Ok None) answer₀ work
  carried_absent {work} m em f h words ew c =
      let e : Given ≡ Fine = ap (λ (x : ℕ). carry_verdict points v blocks insts operands crossings locals addresses ends (length answer₀) x (length work₀)) (sym em) ∙ f in
      let g = le-ltb l (local_count locals) h in
      record {
        outcome = rw (e, g);
        list = rw (e, g);
        space = rw e (c ∙ ap (λ (x : ℕ). cleared x work₀) ew ∙ cleared_all (carry_space v blocks insts operands crossings locals addresses ends) 0 work₀ work₀ (omega arith) (within_refl 0 0 work₀));
      }

  pub carried_given : {answer work₁ work : List ℕ} (m : ℕ) → m ≡ most_of v insts
      → carry_verdict points v blocks insts operands crossings locals addresses ends (length answer₀) m (length work₀) ≡ Fine
      → l < local_count locals → (n : ℕ)
      → Registers C₀ l (used_of (row_words v) (inst_count insts) (operand_count operands) (local_count locals) (address_count addresses)) n answer₀ answer work₀ work₁
      → (words : ℕ) → words ≡ carry_space v blocks insts operands crossings locals addresses ends → work ≡ cleared words work₁
      → CarriedTo points v blocks insts operands crossings locals addresses ends l answer₀ work₀ (Ok (Some n)) answer work
  carried_given {answer} {work₁} {work} m em f h n r words ew c =
      let e : Given ≡ Fine = ap (λ (x : ℕ). carry_verdict points v blocks insts operands crossings locals addresses ends (length answer₀) x (length work₀)) (sym em) ∙ f in
      let g = lt-ltb l (local_count locals) h in
      record {
        outcome = rw (e, g) (ap (λ (x : ℕ). given (some x)) r.count);
        list = rw (e, g) (region_front r.list r.room
            ∙ ap (λ (x : ℕ). tabulate x (λ k. get_or (carried C₀ l) k 0) ++ drop x answer₀) r.count
            ∙ ap (λ (x : List ℕ). x ++ drop (length (carried C₀ l)) answer₀) (tabulate_get_d (carried C₀ l) 0));
        space = rw e (c ∙ ap (λ (x : ℕ). cleared x work₁) ew ∙ cleared_all (carry_space v blocks insts operands crossings locals addresses ends) _ work₀ work₁ (omega arith) r.kept);
      }

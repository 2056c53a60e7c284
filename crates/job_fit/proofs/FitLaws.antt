-- The loaded tables hold the wants of the items, so what fitting leaves is their plan.
use Prim.Native.Nat.{ℕ, ◌+◌, ◌-◌, ◌*◌, ◌^◌, ◌≤◌, ◌<◌}
use native.Mathlib.Omega.{arith}
use native.Mathlib.Nat.{add-zero}
use mathlib.Core.Path.{◌≡◌, refl, sym, ap, subst, ◌∙◌}
use mathlib.Core.Logic.{inl, inr}
use mathlib.Core.Bool.{Bool, true, false, cond}
use mathlib.Core.Option.{Option}
use mathlib.Core.List.{List}
use lib.ListN.{length, get_or}
use lib.Dec.{ltb}
use borrow.Author.Tests.{lt-ltb, le-ltb}
use Rattle.words.specs.Inner.{Region, local_align, slot_size}
use Rattle.words.specs.Widths.{local_width, local_count, slot_count}
use Rattle.words.proofs.RowLaws.{tabulate_eq}
use Rattle.words.proofs.RegionLaws.{region_next}
use Rattle.ranges.specs.declared.Range.{Range}
use Rattle.fitting.specs.Wants.{Want, order_of}
use Rattle.fitting.specs.Plan.{plan_of}
use Rattle.fit_tables.specs.Inner.{size_of, align_of, want_in, wants_in, Lent, Fitted, Made}
use Rattle.fit_tables.specs.declared.Counts.{Counts}
use Rattle.area_measure.specs.Inner.Locals.{word_of, ListedBy}
use Rattle.area_tables.specs.Inner.{listing}
use Rattle.job_fit.specs.Inner.{tables_for, count_of, size_at, align_at, local_word, slot_word, want_word, want_for, wants_for, plan_for, Ready, FittedFor}
use Rattle.job_fit.proofs.AreaLaws.{area_is, proper_is, listed_kept}

-- ---- the wants' table

pub local_word_lem : (locals : List ℕ) (i : ℕ) → get_or locals (local_width * i) 0 * 2 ^ 32 + local_align locals i ≡ local_word locals i
local_word_lem locals i = ap (λ (k : ℕ). get_or locals k 0 * 2 ^ 32 + local_align locals i) (sym (add-zero (local_width * i)))

module _ (locals slots : List ℕ) where
  local_want : (i : ℕ) → i < local_count locals → local_word locals i ≡ want_word locals slots i
  local_want i h = simp (lt-ltb i (local_count locals) h)

  slot_want : (i : ℕ) → slot_word slots i ≡ want_word locals slots (local_count locals + i)
  slot_want i =
      let e : local_count locals + i - local_count locals ≡ i = omega arith in
      simp (le-ltb (local_count locals + i) (local_count locals) (omega arith), e)

  pub both_loaded : {w₀ w₁ w₂ : List ℕ} {at bt : ℕ} → Region w₀ w₁ at (local_count locals) (local_word locals) → Region w₁ w₂ bt (length slots) (slot_word slots) → bt ≡ at + local_count locals
      → Region w₀ w₂ at (local_count locals + slot_count slots) (want_word locals slots)
  both_loaded {w₀} {w₁} {w₂} {at} {bt} R S e =
      region_next {w₀ = w₀} {w₁ = w₁} {w₂ = w₂} {at = at} {n = local_count locals} {f = want_word locals slots} {bt = bt} {m = length slots} (record { len = R.len; inside = λ x i q h. R.inside x i q h ∙ local_want i h; before = R.before; after = R.after })
      (record { len = S.len; inside = λ x i q h. S.inside x i q h ∙ slot_want i; before = S.before; after = S.after }) e _ refl

  module _ (narrow : (x : ℕ) → get_or locals x 0 < 2 ^ 32) (thin : (x : ℕ) → slot_size slots x < 2 ^ 32) where
    align_small : (i : ℕ) → align_at locals slots i < 2 ^ 32
    align_small i = go (ltb i (local_count locals))
      where
        go : (t : Bool) → cond t (local_align locals i) (slot_size slots (i - local_count locals)) < 2 ^ 32
        go true = narrow (local_width * i + 1)
        go false = thin (i - local_count locals)

    size_is : (x i : ℕ) → x ≡ want_word locals slots i → size_of x ≡ size_at locals slots i
    size_is x i e = let l = align_small i in ap size_of e ∙ omega arith

    align_is : (x i : ℕ) → x ≡ want_word locals slots i → align_of x ≡ align_at locals slots i
    align_is x i e = let l = align_small i in ap align_of e ∙ omega arith

    -- ---- the plan

    module _ {room : ℕ} {w₀ w₁ : List ℕ} (R : Region w₀ w₁ (room + count_of locals slots) (count_of locals slots) (want_word locals slots)) (space : room + 2 * count_of locals slots ≤ length w₀) (short : room ≤ 65536) where
      module _ {A : ℕ → Option (List Range)} {total : ℕ} (end : ℕ) (D : ListedBy word_of (listing room room) A (count_of locals slots) total w₀) (fits : total ≤ room) where
        listed-there : ListedBy word_of (listing room room) A (count_of locals slots) total w₁
        listed-there = listed_kept D fits (omega arith) w₁ R.len (λ x h. R.before x h)

        want_is : (i : ℕ) → i < count_of locals slots → want_in w₁ (tables_for (count_of locals slots) room end) i ≡ want_for locals slots A i
        want_is i h =
            let x = R.inside (room + count_of locals slots + i) i refl h in
            let a = size_is _ i x in
            let b = align_is _ i x in
            let c = area_is listed-there fits (omega (arith, R.len)) short i h in
            cc

        pub wants_are : wants_in w₁ (tables_for (count_of locals slots) room end) ≡ wants_for locals slots A
        wants_are = tabulate_eq (count_of locals slots) (want_in w₁ (tables_for (count_of locals slots) room end)) (want_for locals slots A) want_is

      module _ {end budget : ℕ} {w : List ℕ} {r : Counts} (inside : room + 8 * count_of locals slots ≤ end) (F : Fitted w₁ w (tables_for (count_of locals slots) room end) budget r) where
        holds : (A : ℕ → Option (List Range)) (total : ℕ) → ListedBy word_of (listing room room) A (count_of locals slots) total w₀ → total ≤ room
            → Made (plan_for locals slots A budget) (count_of locals slots) room w r
        holds A total D fits =
            subst (λ (ws : List Want). Made (plan_of ws budget (order_of ws)) (count_of locals slots) room w r) (wants_are end D fits)
            (record { cells = F.cells; probes = F.probes; shown = record { size = F.shown.size; align = F.shown.align; cell = F.shown.cell } })

        pub fitted_for : FittedFor locals slots budget room end w₀ w r
        fitted_for = record {
          kept = record { len = F.len ∙ R.len; below = λ i h. absurd (omega arith); past = λ i h. F.rest i (inr h) ∙ R.after i (omega arith) };
          few = F.few;
          plan = holds;
          listed = λ A total D fits. listed_kept D fits (omega arith) w (F.len ∙ R.len) (λ x h. F.rest x (inl (omega arith)) ∙ R.before x h);
        }

      -- what fitting asks
      pub lent : {end : ℕ} → Ready (count_of locals slots) room end w₀ → Lent w₁ (tables_for (count_of locals slots) room end)
      lent {end} N = record {
        few = N.few;
        room = omega (arith, R.len, N.space, N.inside);
        proper = λ i h q. proper_is (listed-there end N.listed N.fits) N.fits (omega (arith, R.len)) short i h (N.apart i) q;
      }

-- The cells and counts that the queries answer are far below 2 to the 32, so that no answer is the code of a refusal or of absence.
use Rattle.std.specs.Prelude.{Err}
use Prim.Native.Nat.{ℕ, ◌+◌, ◌-◌, ◌*◌, ◌≤◌, ◌<◌}
use native.Mathlib.Omega.{arith}
use mathlib.Core.Path.{◌≡◌, refl, sym, ap, subst}
use mathlib.Core.Option.{Option, some, none}
use mathlib.Core.List.{List, []}
use lib.ListN.{get_or}
use Rattle.refusals.specs.Outcomes.{Outcome, given, refused, unless}
use Rattle.words.specs.Widths.{cell_count, item_width, item_row_count, item_cell}
use Rattle.words.proofs.Points.{cut}
use Rattle.fitting.specs.Queries.{slots_of, local, slot, saved}
use Rattle.queries.specs.Entry.{local_of, slot_of, saved_by}
use Rattle.query_checks.specs.Checks.{plan_verdict}
use Rattle.queries.proofs.QueryLaws.{cell_at, local_at, local_none, slot_at, slot_none, saved_is}
use Rattle.query_checks.proofs.CheckLaws.{sound, named}
use Rattle.refusals.specs.Verdicts.{Fine, Verdict}

-- a cell, if there is one
abbrev cell_of : Outcome (Option ℕ) → ℕ
cell_of (given (some c)) = c
cell_of (given none) = 0
cell_of (refused k i) = 0

abbrev count_of : Outcome ℕ → ℕ
count_of (given n) = n
count_of (refused k i) = 0

module _ (cells items : List ℕ) (locals : ℕ) where
  cell_small : plan_verdict cells items locals ≡ Fine → (k : ℕ) → k < item_row_count items → get_or items (item_width * k) 0 < 4096
  cell_small e k h =
      let s = sound cells items locals e in
      let a : item_cell items k < cell_count cells = named cells items locals e k h in
      let b : get_or items (item_width * k) 0 ≡ item_cell items k = cell_at [] cells items locals s k in
      omega (arith, s.whole.1, s.enough)

  local_in : (i : ℕ) (v : Verdict) → plan_verdict cells items locals ≡ v → cell_of (unless v (local (slots_of locals cells items []) i)) < 4096
  local_in i (Err x) e = omega arith
  local_in i Fine e =
      let s = sound cells items locals e in
      cut locals i
      (λ h. subst (λ (o : Option ℕ). cell_of (given o) < 4096) (sym (local_none [] cells items locals s i h)) (omega arith))
      (λ h. subst (λ (o : Option ℕ). cell_of (given o) < 4096) (sym (local_at [] cells items locals s i h)) (cell_small e i (omega (arith, s.whole.0))))

  slot_in : (i : ℕ) (v : Verdict) → plan_verdict cells items locals ≡ v → cell_of (unless v (slot (slots_of locals cells items []) i)) < 4096
  slot_in i (Err x) e = omega arith
  slot_in i Fine e =
      let s = sound cells items locals e in
      cut (item_row_count items) (locals + i)
      (λ h. subst (λ (o : Option ℕ). cell_of (given o) < 4096) (sym (slot_none [] cells items locals s i h)) (omega arith))
      (λ h. subst (λ (o : Option ℕ). cell_of (given o) < 4096) (sym (slot_at [] cells items locals s i h)) (cell_small e (locals + i) h))

  saved_in : (v : Verdict) → plan_verdict cells items locals ≡ v → count_of (unless v (saved (slots_of locals cells items []))) ≤ 4096
  saved_in (Err x) e = omega arith
  saved_in Fine e =
      let s = sound cells items locals e in
      let a : saved (slots_of locals cells items []) ≡ item_row_count items - cell_count cells = saved_is [] cells items locals s in
      omega (arith, s.whole.1)

  pub local_small : (i c : ℕ) → local_of cells items locals i ≡ given (some c) → c < 4096
  local_small i c e = subst (λ (k : ℕ). k < 4096) (ap cell_of e) (local_in i (plan_verdict cells items locals) refl)

  pub slot_small : (i c : ℕ) → slot_of cells items locals i ≡ given (some c) → c < 4096
  slot_small i c e = subst (λ (k : ℕ). k < 4096) (ap cell_of e) (slot_in i (plan_verdict cells items locals) refl)

  pub saved_small : (n : ℕ) → saved_by cells items locals ≡ given n → n ≤ 4096
  saved_small n e = subst (λ (k : ℕ). k ≤ 4096) (ap count_of e) (saved_in (plan_verdict cells items locals) refl)

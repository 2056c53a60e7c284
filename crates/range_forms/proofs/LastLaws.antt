-- `joined` of one range and a new one, by the facts that each way out of the code has found.
use Rattle.std.specs.Prelude.{Err, Ok, Result}
use mathlib.Core.Path.{◌≡◌, refl, sym, ap, ◌∙◌}
use mathlib.Core.Bool.{Bool, true, false, cond}
use mathlib.Core.List.{[], ◌∷◌}
use Prim.Native.Nat.{ℕ, ◌+◌, ◌≤◌, ◌<◌}
use lib.ListN.{length}
use lib.Dec.{eqb}
use borrow.Author.Tests.{lt-ltb, le-ltb}
use Rattle.refusals.specs.declared.Refusal.{Refusal}
use Rattle.refusals.specs.declared.Refusal.TheVariants.{Want}
use Rattle.refusals.specs.Verdicts.{scan, first, Bad, Fine, Verdict}
use Rattle.refusals.specs.Outcomes.{Outcome, given, refused, unless, answered}
use Rattle.ranges.specs.declared.Range.{Range}
use Rattle.ranges.specs.Points.{range}
use Rattle.ranges.specs.Merged.{joined}
use Rattle.ranges.specs.Lent.{list_verdict}
use Rattle.range_checks.proofs.VerdictLaws.{pair_first, pair_new_bad, pair_new_fine}
use Rattle.range_checks.specs.Verdicts.{pair_verdict}
use Rattle.range_forms.specs.Lent.{joined_of, taken_up, last_after}
use Rattle.refusals.specs.declared.Refused.{Refused}

-- one range by itself
alone_bad : (r : Range) → r.end < r.start → list_verdict false (r ∷ []) ≡ Bad Want 0
unfolding list_verdict scan first
alone_bad r h = rw (lt-ltb r.end r.start h)

alone_fine : (r : Range) → r.start ≤ r.end → list_verdict false (r ∷ []) ≡ Fine
unfolding list_verdict scan first
alone_fine r h = rw (le-ltb r.end r.start h)

module _ (last new : Range) where
  pub last_reversed : last.end < last.start → joined_of last new ≡ refused 10 0
  unfolding joined_of
  last_reversed h = rw (sym (pair_first false (last ∷ []) (new ∷ []) Want 0 (alone_bad last h)))

  pub new_reversed : last.start ≤ last.end → new.end < new.start → joined_of last new ≡ refused 10 1
  unfolding joined_of
  new_reversed u h = rw (sym (pair_new_bad (last ∷ []) new.start new.end 1 (alone_fine last u) refl h))

  pub both_upright : last.start ≤ last.end → new.start ≤ new.end → joined_of last new ≡ given (joined (last ∷ []) new)
  unfolding joined_of
  both_upright u v = rw (sym (pair_new_fine (last ∷ []) new.start new.end (alone_fine last u) v))

  -- the ways out of `taken_up`
  pub says_last : last.end < last.start → answered (Err (Want, 0)) ≡ taken_up (joined_of last new)
  says_last h = sym (ap taken_up (last_reversed h))

  pub says_new : last.start ≤ last.end → new.end < new.start → answered (Err (Want, 1)) ≡ taken_up (joined_of last new)
  says_new u h = sym (ap taken_up (new_reversed u h))

  one_left : (t : Bool) → eqb (length (cond t (range last.start new.end ∷ []) (last ∷ new ∷ []))) 1 ≡ t
  one_left true = refl
  one_left false = refl

  counted : eqb (length (joined (last ∷ []) new)) 1 ≡ eqb new.start (last.end + 1)
  unfolding joined
  counted = one_left (eqb new.start (last.end + 1))

  pub says_follows : last.start ≤ last.end → new.start ≤ new.end → (b : Bool) → b ≡ eqb new.start (last.end + 1) → answered (Ok b) ≡ taken_up (joined_of last new)
  says_follows u v b e = ap given (e ∙ sym counted) ∙ sym (ap taken_up (both_upright u v))

  -- the last range afterwards, by whether the new one was taken up
  abbrev end_by : Outcome Bool → ℕ
  end_by (given b) = cond b new.end last.end
  end_by (refused n i) = last.end

  first_of : (t : Bool) → last_after (given (cond t (range last.start new.end ∷ []) (last ∷ new ∷ []))) last ≡ range last.start (cond t new.end last.end)
  first_of true = refl
  first_of false = refl

  after_joined : last_after (given (joined (last ∷ []) new)) last ≡ range last.start (end_by (taken_up (given (joined (last ∷ []) new))))
  unfolding joined
  after_joined = first_of (eqb new.start (last.end + 1)) ∙ ap (λ (t : Bool). range last.start (cond t new.end last.end)) (sym (one_left (eqb new.start (last.end + 1))))

  after_unless : (v : Verdict) → last_after (unless v (joined (last ∷ []) new)) last ≡ range last.start (end_by (taken_up (unless v (joined (last ∷ []) new))))
  after_unless Fine = after_joined
  after_unless (Err e) = refl

  after_by : last_after (joined_of last new) last ≡ range last.start (end_by (taken_up (joined_of last new)))
  unfolding joined_of
  after_by = after_unless (pair_verdict false (last ∷ []) (new ∷ []))

  end_by_lem : (t : Result Bool Refused) → answered t ≡ taken_up (joined_of last new) → (last_after (joined_of last new) last).end ≡ end_by (answered t)
  end_by_lem t e = ap (λ (r : Range). r.end) after_by ∙ ap end_by (sym e)

  -- the ways out of `end_after`
  pub end_told : (t : Result Bool Refused) → answered t ≡ taken_up (joined_of last new) → (b : Bool) → t ≡ Ok b → cond b new.end last.end ≡ (last_after (joined_of last new) last).end
  end_told t e b h = sym (end_by_lem t e ∙ ap (λ (u : Result Bool Refused). end_by (answered u)) h)

  pub end_raised : (t : Result Bool Refused) → answered t ≡ taken_up (joined_of last new) → (b : Bool) → t ≡ Ok b → b ≡ true → new.end ≡ (last_after (joined_of last new) last).end
  end_raised t e b h y = sym (ap (λ (x : Bool). cond x new.end last.end) y) ∙ end_told t e b h

  pub end_left : (t : Result Bool Refused) → answered t ≡ taken_up (joined_of last new) → (b : Bool) → t ≡ Ok b → b ≡ false → last.end ≡ (last_after (joined_of last new) last).end
  end_left t e b h y = sym (ap (λ (x : Bool). cond x new.end last.end) y) ∙ end_told t e b h

  pub end_kept : (t : Result Bool Refused) → answered t ≡ taken_up (joined_of last new) → (r : Refusal) (i : ℕ) → t ≡ Err (r, i) → last.end ≡ (last_after (joined_of last new) last).end
  end_kept t e r i h = sym (end_by_lem t e ∙ ap (λ (u : Result Bool Refused). end_by (answered u)) h)

  -- only the end changes
  pub end_changes : (e : ℕ) → e ≡ (last_after (joined_of last new) last).end → range last.start e ≡ last_after (joined_of last new) last
  end_changes e h = ap (range last.start) (h ∙ ap (λ (r : Range). r.end) after_by) ∙ sym after_by

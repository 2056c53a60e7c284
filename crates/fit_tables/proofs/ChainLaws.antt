-- Links that fall: where they lead, and what the members that they lead to allow.
use Prim.Native.Nat.{ℕ, zero, suc, ◌≤◌, ◌<◌}
use native.Mathlib.Omega.{arith}
use mathlib.Core.Path.{◌≡◌, refl, ap, ◌∙◌}
use mathlib.Core.Bool.{Bool, true, false, ◌&&◌}
use mathlib.Core.Option.{Option}
use mathlib.Core.List.{List, [], ◌∷◌}
use Rattle.ranges.specs.declared.Range.{Range}
use Rattle.fitting.specs.Plan.{joinable}
use Rattle.fit_tables.specs.Inner.{places, chain, Falls, allow}

falls_below : {next : ℕ → ℕ} (k m : ℕ) → m ≤ k → Falls next k → Falls next m
falls_below k m h f q l = f q (omega arith)

-- any fuel from the link on is enough
places_same : (next : ℕ → ℕ) (f g m : ℕ) → m ≤ f → m ≤ g → Falls next m → places next f m ≡ places next g m
unfolding places
places_same next zero zero m h k d = refl
places_same next zero (suc g) zero h k d = refl
places_same next zero (suc g) (suc q) h k d = absurd (omega arith)
places_same next (suc f) zero zero h k d = refl
places_same next (suc f) zero (suc q) h k d = absurd (omega arith)
places_same next (suc f) (suc g) zero h k d = refl
places_same next (suc f) (suc g) (suc q) h k d =
    ap (λ (l : List ℕ). q ∷ l) (places_same next f g (next q) (omega (arith, d q (omega arith))) (omega (arith, d q (omega arith))) (λ p l. d p (omega (arith, d q (omega arith)))))

pub chain_none : (next : ℕ → ℕ) → chain next 0 ≡ []
unfolding places
chain_none next = refl

pub chain_step : (next : ℕ → ℕ) (q : ℕ) → Falls next (suc q) → chain next (suc q) ≡ q ∷ chain next (next q)
unfolding places
chain_step next q d =
    ap (λ (l : List ℕ). q ∷ l) (places_same next q (next q) (next q) (d q (omega arith)) (omega arith) (λ p l. d p (omega (arith, d q (omega arith)))))

-- links that are the same lead to the same places
places_kept : (next other : ℕ → ℕ) (f m k : ℕ) → m ≤ k → Falls next k → ((q : ℕ) → q < k → next q ≡ other q) → places next f m ≡ places other f m
unfolding places
places_kept next other zero m k h d e = refl
places_kept next other (suc f) zero k h d e = refl
places_kept next other (suc f) (suc q) k h d e =
    ap (λ (l : List ℕ). q ∷ l) (ap (places next f) (e q (omega arith)) ∙ places_kept next other f (other q) k (omega (arith, d q (omega arith), e q (omega arith))) d e)

pub chain_kept : (next other : ℕ → ℕ) (m k : ℕ) → m ≤ k → Falls next k → ((q : ℕ) → q < k → next q ≡ other q) → chain next m ≡ chain other m
chain_kept next other m k h d e = places_kept next other m m k h d e

pub allow_none : (area : ℕ → Option (List Range)) (a : List Range) → allow area [] a ≡ true
unfolding allow
allow_none area a = refl

pub allow_step : (area : ℕ → Option (List Range)) (q : ℕ) (ms : List ℕ) (a : List Range) → allow area (q ∷ ms) a ≡ joinable (area q) a && allow area ms a
unfolding allow
allow_step area q ms a = refl

allow_places : (area other : ℕ → Option (List Range)) (a : List Range) (next : ℕ → ℕ) (f m k : ℕ) → m ≤ k → Falls next k → ((q : ℕ) → q < k → area q ≡ other q)
    → allow area (places next f m) a ≡ allow other (places next f m) a
unfolding places allow
allow_places area other a next zero m k h d e = refl
allow_places area other a next (suc f) zero k h d e = refl
allow_places area other a next (suc f) (suc q) k h d e =
    let z = allow_places area other a next f (next q) k (omega (arith, d q (omega arith))) d e in
    ap (λ (o : Option (List Range)). joinable o a && allow area (places next f (next q)) a) (e q (omega arith)) ∙ ap (λ (t : Bool). joinable (other q) a && t) z

-- areas that are the same below k allow the same
pub allow_kept : (area other : ℕ → Option (List Range)) (a : List Range) (next : ℕ → ℕ) (m k : ℕ) → m ≤ k → Falls next k → ((q : ℕ) → q < k → area q ≡ other q)
    → allow area (chain next m) a ≡ allow other (chain next m) a
allow_kept area other a next m k h d e = allow_places area other a next m m k h d e

-- ---- a walk along a chain

module _ (next : ℕ → ℕ) (area : ℕ → Option (List Range)) (a : List Range) where
  pub step_is : (m q : ℕ) → m ≡ suc q → Falls next m → allow area (chain next m) a ≡ joinable (area q) a && allow area (chain next (next q)) a
  step_is m q e d =
      ap (λ (k : ℕ). allow area (chain next k) a) e ∙ ap (λ (l : List ℕ). allow area l a) (chain_step next q (rw e at d)) ∙ allow_step area q (chain next (next q)) a

  pub walk_no : (m q : ℕ) → m ≡ suc q → Falls next m → joinable (area q) a ≡ false → allow area (chain next m) a ≡ false
  walk_no m q e d f = step_is m q e d ∙ ap (λ (t : Bool). t && allow area (chain next (next q)) a) f

  pub walk_yes : (m q : ℕ) → m ≡ suc q → Falls next m → joinable (area q) a ≡ true → allow area (chain next m) a ≡ allow area (chain next (next q)) a
  walk_yes m q e d f = step_is m q e d ∙ ap (λ (t : Bool). t && allow area (chain next (next q)) a) f

  pub walk_end : (m : ℕ) → m ≡ 0 → allow area (chain next m) a ≡ true
  walk_end m e = ap (λ (k : ℕ). allow area (chain next k) a) e ∙ ap (λ (l : List ℕ). allow area l a) (chain_none next) ∙ allow_none area a

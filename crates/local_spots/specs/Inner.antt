-- What private functions promise each other. No public promise names these.
use Rattle.std.specs.Prelude.{ℕ, ◌+◌, ◌≤◌, cond, List, [], ◌∷◌, eqb, ◌≡◌, length}
use Rattle.words.specs.Rows.{records}
use Rattle.ranges.specs.Points.{range}
use Rattle.ranges.specs.Inner.{pack}
use Rattle.carrying.specs.Lists.{gather}
use Rattle.words.specs.Sort.{sort_of}
use Rattle.words.specs.Inner.{touch_count, touch_local, stop_count, stop_local}
use Rattle.graph.specs.Inner.Work.{Within}
use Rattle.chains.specs.Inner.{Chain}
use Rattle.spots.specs.declared.Spots.{Spots}
use Rattle.spots.specs.Inner.{touches_at, ends_at, Stand}
use Rattle.local_spots.specs.declared.Places.{Places}
use Rattle.local_spots.specs.Locals.{touches_for, ends_for}

-- what is fetched of a row: a touch in one word, or a point
abbrev pub word_of : ℕ → (ℕ → ℕ) → ℕ
word_of width f = cond (eqb width 3) (pack (range (f 1) (f 2))) (f 1)

-- of the rows that name a local
abbrev pub word_for : ℕ → ℕ → (ℕ → ℕ) → List ℕ
word_for width l f = cond (eqb (f 0) l) (word_of width f ∷ []) []

abbrev pub words_for : ℕ → List ℕ → ℕ → List ℕ
words_for width rows l = gather (word_for width l) (records width (λ f. f) rows)

-- the regions stand one behind another, of t touches and e ends
pub record Laid (p : Places) (t e : ℕ) (w : List ℕ) : Type 0 where
  pub heads_fit : p.heads + p.locals + p.locals ≤ p.nexts
  pub nexts_fit : p.nexts + t + e ≤ p.at
  pub at_fits : p.at + t ≤ p.ends
  pub ends_fit : p.ends + e ≤ length w

-- the chains of the touches, and behind them of the ends, by the local that each names first
pub record Chains (p : Places) (touches ends w : List ℕ) : Type 0 where
  pub touches_chain : Chain (λ i. touch_local touches i) (touch_count touches) p.locals p.heads p.nexts w
  pub ends_chain : Chain (λ i. stop_local ends i) (stop_count ends) p.locals (p.heads + p.locals) (p.nexts + touch_count touches) w

pub record Chained (p : Places) (touches ends w₀ w : List ℕ) : Type 0 where
  pub kept : Within p.heads (p.nexts + touch_count touches + stop_count ends) w₀ w
  pub chains : Chains p touches ends w

-- a local's touches in lent order and its ends in rising order stand in the two last regions, and nothing else has changed
pub record Fetched (p : Places) (touches ends : List ℕ) (l : ℕ) (w₀ w : List ℕ) (s : Spots) : Type 0 where
  pub kept : Within p.at (p.ends + stop_count ends) w₀ w
  pub touches_are : touches_at s w ≡ touches_for touches l
  pub ends_are : ends_at s w ≡ sort_of (ends_for ends l)
  pub stand : Stand s w
  pub touches_low : p.at ≤ s.at
  pub touches_high : s.at + s.count ≤ p.at + touch_count touches
  pub ends_low : p.ends ≤ s.ends
  pub ends_high : s.ends + s.stops ≤ p.ends + stop_count ends

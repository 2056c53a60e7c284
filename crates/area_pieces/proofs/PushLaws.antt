-- An area appended to those so far; how a list of packed ranges grows is told in `joining`.
use Prim.Native.Nat.{ℕ, ◌+◌, ◌≤◌, ◌<◌}
use mathlib.Core.Path.{refl, sym, ◌∙◌}
use mathlib.Core.Logic.{inl, inr}
use mathlib.Core.List.{List}
use native.Mathlib.Omega.{arith}
use lib.ListN.{length, get_or}
use Rattle.words.specs.Inner.{Region, part, Disjoint, below, above}
use Rattle.words.proofs.RegionLaws.{part_is, length_part, get_d_part}
use Rattle.packed.specs.Inner.{Clear}
pub use Rattle.joining.proofs.PushLaws.{part_push, set_other, pushed}
use Rattle.area_pieces.specs.Inner.{Appended}

-- ---- an area behind the areas so far

module _ (base room total from count : ℕ) where
  pub append_clear : total + count ≤ room → Clear base room from count → Disjoint (base + total) from count
  append_clear h (inl l) = below (omega arith)
  append_clear h (inr l) = above (omega arith)

  module _ {w₀ w : List ℕ} (r : Region w₀ w (base + total) count (λ i. get_or w₀ (from + i) 0)) where
    pub append_put : total + count ≤ room → base + room ≤ length w₀ → from + count ≤ length w₀ → Appended w₀ w base room total from count (total + count)
    append_put h l m = record {
      len = r.len;
      total_is = refl;
      put = λ _. part_is (base + total) count w (part from count w₀) (let z = r.len in omega arith) (length_part from count w₀ m)
          (λ i q. r.inside (base + total + i) i refl q ∙ sym (get_d_part from count w₀ i q));
      full = λ q. absurd (omega arith);
      before = r.before;
      after = r.after;
    }

  pub append_full : (w : List ℕ) → room < total + count → Appended w w base room total from count (total + count)
  append_full w h = record {
    len = refl;
    total_is = refl;
    put = λ q. absurd (omega arith);
    full = λ _. refl;
    before = λ i _. refl;
    after = λ i _. refl;
  }

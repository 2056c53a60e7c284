-- What the walks and the fetch compute fits and stands in the work space, each bound as the code asks for it.
use Prim.Native.Nat.{ℕ, ◌+◌, ◌-◌, ◌*◌, ◌^◌, ◌≤◌, ◌<◌}
use mathlib.Core.Path.{◌≡◌}
use mathlib.Core.Logic.{◌≢◌}
use mathlib.Core.List.{List}
use mir.Syntax.{w64}
use mir.Val.{Fits}
use native.Mathlib.Omega.{arith}
use lib.ListN.{length}
use Rattle.words.proofs.FitLaws.{Word, word, small}
use Rattle.chains.specs.Inner.{Walkable}
use Rattle.chains.proofs.WalkLaws.{Walking}
use Rattle.local_spots.specs.declared.Places.{Places}
use Rattle.local_spots.specs.Inner.{Laid}

-- where the chain begins
pub head_at_lem : {f : ℕ → ℕ} {n l heads nexts top : ℕ} {w : List ℕ} → Walkable f n l heads nexts top w → length w * 8 < 2 ^ 63 → Word (heads + l) (length w)
head_at_lem {w = w} W r = word _ (length w) (omega (arith, W.heads_fit, W.nexts_fit, W.top_fits)) r

-- a row of the chain: its word is put below `to`, and the row before it is read
pub record Step (nexts next to m : ℕ) : Type 0 where
  pub some : 1 ≤ next
  pub is : next ≡ next - 1 + 1
  pub room : 1 ≤ to
  pub down : to - 1 + 1 ≡ to
  pub put : Word (to - 1) m
  pub link : Word (nexts + (next - 1)) m

step_on : (n nexts top next to m : ℕ) → next ≢ 0 → nexts + n + n ≤ top → top ≤ m → top + next ≤ to + n → to ≤ top → m * 8 < 2 ^ 63 → Step nexts next to m
step_on n nexts top next to m d a b c e r =
    let s : 1 ≤ next = omega arith in
    record { some = s; is = omega arith; room = omega arith; down = omega arith; put = word _ m (omega arith) r; link = word _ m (omega arith) r }

pub step : {f v : ℕ → ℕ} {n l nexts top : ℕ} {w₀ w : List ℕ} {next to : ℕ} → Walking f v n l nexts top w₀ w next to → next ≢ 0 → length w₀ * 8 < 2 ^ 63 → Step nexts next to (length w)
step {n = n} {nexts = nexts} {top = top} {w = w} {next = next} {to = to} W d r =
    let e = W.kept.len in step_on n nexts top next to (length w) d W.low (omega (arith, W.high)) W.room W.to_le (omega arith)

-- where one local's rows are, of t touches and e ends
pub record Ends (p : Places) (t e : ℕ) : Type 0 where
  pub top : Fits w64 (p.at + t)
  pub last : Fits w64 (p.ends + e)
  pub past : Fits w64 (p.heads + p.locals)
  pub nexts : Fits w64 (p.nexts + t)

pub ends_of_lem : {p : Places} {t e : ℕ} {w : List ℕ} → Laid p t e w → length w * 8 < 2 ^ 63 → Ends p t e
ends_of_lem {p} {t} {e} {w} L r =
    let a = L.heads_fit in let b = L.nexts_fit in let c = L.at_fits in let d = L.ends_fit in
    record { top = small _ (length w) (omega arith) r; last = small _ (length w) (omega arith) r; past = small _ (length w) (omega arith) r; nexts = small _ (length w) (omega arith) r }

pub fewer : (c n at : ℕ) → c ≤ n → c ≤ at + n
fewer c n at h = omega arith

pub ends_in : (c n at m w : ℕ) → c ≤ n → m ≡ w → at + n ≤ w → at + n - c + c ≤ m
ends_in c n at m w h e f = omega arith

-- What uniting computes fits and stands in the work space, each bound as the code asks for it.
use Prim.Native.Nat.{ℕ, ◌+◌, ◌-◌, ◌*◌, ◌^◌, ◌≤◌, ◌<◌}
use mathlib.Core.Path.{◌≡◌, sym, subst}
use mathlib.Core.List.{List}
use mir.Syntax.{w64}
use mir.Val.{Fits}
use native.Mathlib.Omega.{arith}
use lib.ListN.{length}
use Rattle.words.proofs.FitLaws.{Word, word, small}
use Rattle.fit_tables.specs.Inner.{list_at, next_at, Topped, Meets, count_of, link_table, list_table, behind}
use Rattle.fit_cells.proofs.FoldLaws.{q_lt}
use Rattle.fit_tables.specs.declared.Tables.{Tables}

-- the list and the link of place q
pub record AtPlace (t : Tables) (m q : ℕ) : Type 0 where
  pub seven : Fits w64 (7 * t.n)
  pub lists : Fits w64 (list_table t)
  pub list : Word (list_table t + q) m
  pub four : Fits w64 (4 * t.n)
  pub links : Fits w64 (link_table t)
  pub link : Word (link_table t + q) m

module _ {w : List ℕ} {t : Tables} {k top : ℕ} (T : Topped w t k top) (r : length w * 8 < 2 ^ 63) where
  at_place : (q : ℕ) → q < t.n → AtPlace t (length w) q
  at_place q h =
      let m = length w in
      let a : behind t ≤ m = omega (arith, T.linked.low, T.linked.top_le) in
      record {
        seven = small _ m (omega arith) r;
        lists = small _ m (omega arith) r;
        list = word _ m (omega arith) r;
        four = small _ m (omega arith) r;
        links = small _ m (omega arith) r;
        link = word _ m (omega arith) r;
      }

  pub own_place : AtPlace t (length w) k
  own_place = at_place k (omega (arith, T.linked.k_le))

  -- where it is linked to q
  pub met_place : (q : ℕ) → Meets w t k q top → AtPlace t (length w) q
  met_place q M = at_place q (omega (arith, q_lt T M, T.linked.k_le))

  pub next_place : (p : ℕ) → p ≡ next_at w t k → 0 < p → AtPlace t (length w) (p - 1)
  next_place p e h = at_place (p - 1) (omega (arith, T.linked.falls k (omega arith), T.linked.k_le))

pub as_long : {t : Tables} {m m' q : ℕ} → m' ≡ m → AtPlace t m q → AtPlace t m' q
as_long {t} {m} {m'} {q} e a = subst (λ (y : ℕ). AtPlace t y q) (sym e) a

-- the next list is met, where the two together are few enough
pub meets : {w : List ℕ} {t : Tables} {k e p need : ℕ} → Topped w t k e → p ≡ next_at w t k → 0 < p
    → (need < 18446744073709551615 → (0 < list_at w t k) × (0 < list_at w t (p - 1)) × (need ≡ count_of (list_at w t k) + count_of (list_at w t (p - 1))))
    → need ≤ t.end - e → Meets w t k (p - 1) e
meets {w} {t} {k} {e} {p} {need} T is h few l =
    let q = few (omega (arith, T.small)) in
    record { next = omega arith; one = q.0; two = q.1; room = omega (arith, q.2, T.top_end) }

-- Lists that are linked up to a place are linked up to any place before it, and stand below any later end.
use Prim.Native.Nat.{ℕ, ◌≤◌}
use native.Mathlib.Omega.{arith}
use mathlib.Core.List.{List}
use Rattle.fit_tables.specs.Inner.{Ready, Linked}
use Rattle.fit_tables.specs.declared.Tables.{Tables}
use Rattle.fit_tables.proofs.ListLaws.{listed_wide}
use Rattle.fit_tables.specs.declared.Progress.{Progress}

pub linked_below : {w : List ℕ} {t : Tables} {top k : ℕ} → Linked w t top k → (m : ℕ) → m ≤ k → Linked w t top m
linked_below l m h = record { lent = l.lent; low = l.low; top_le = l.top_le; k_le = omega (arith, l.k_le); falls = λ q f. l.falls q (omega arith); lists = λ q f. l.lists q (omega arith) }

pub linked_wide : {w : List ℕ} {t : Tables} {k : ℕ} {s : Progress} → Ready w t k s → Linked w t t.end k
linked_wide R = record {
  lent = R.linked.lent;
  low = omega (arith, R.linked.low, R.top_end);
  top_le = R.end_le;
  k_le = R.linked.k_le;
  falls = R.linked.falls;
  lists = λ q h l. listed_wide R.top_end (R.linked.lists q h l);
}

-- Kinds as numbers, one numbering in answers and as lent: 0 unfollowed, 1 plain, 2 ending.
use Rattle.std.specs.Prelude.{ℕ, zero, suc}
use Rattle.carrying.specs.declared.Kind.{Kind}
use Rattle.carrying.specs.declared.Kind.TheVariants.{Unfollowed, Plain, Ending}

-- the number of each kind in an answer list
abbrev pub kind_number : Kind → ℕ
kind_number Unfollowed = 0
kind_number Plain = 1
kind_number Ending = 2

-- the kind of a number that is lent; over 2 is refused before any is read as a kind
abbrev pub kind_by : ℕ → Kind
kind_by zero = Unfollowed
kind_by (suc zero) = Plain
kind_by (suc (suc n)) = Ending

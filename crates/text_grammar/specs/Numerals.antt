-- Document 01, "Job text": one field. "Decimal up to 4,294,967,295 without leading zeros", or `-`. A byte is a number.
use Rattle.std.specs.Prelude.{ℕ, zero, suc, ◌+◌, ◌-◌, ◌*◌, ◌/◌, ◌%◌, Bool, true, cond, ◌&&◌, ◌||◌, List, [], ◌∷◌, ◌++◌, length, get_or, eqb, leb, ltb}

-- ---- writing

-- the decimal digits of n, of which there are at most `most`, the first one not zero unless it is alone
unfoldable pub digits_of : ℕ → ℕ → List ℕ
digits_of zero n = []
digits_of (suc most) n = cond (ltb n 10) ((48 + n) ∷ []) (digits_of most (n / 10) ++ ((48 + n % 10) ∷ []))

-- a number of 64 bits has at most 20 digits
abbrev pub decimal : ℕ → List ℕ
decimal n = digits_of 20 n

-- ---- reading

abbrev pub digit : ℕ → Bool
digit b = leb 48 b && leb b 57

unfoldable pub digits : List ℕ → Bool
digits [] = true
digits (b ∷ s) = digit b && digits s

-- the value of digits after v
unfoldable pub value_from : ℕ → List ℕ → ℕ
value_from v [] = v
value_from v (b ∷ s) = value_from (10 * v + (b - 48)) s

-- one more than the largest number of a field; a field that is `-`; what is no field
abbrev pub limit : ℕ
limit = 4294967296

abbrev pub dash : ℕ
dash = 4294967296

abbrev pub no_field : ℕ
no_field = 4294967297

-- "up to 4,294,967,295": the value of digits after v
unfoldable pub number_from : ℕ → List ℕ → ℕ
number_from v s = cond (digits s && ltb (value_from v s) limit) (value_from v s) no_field

-- "without leading zeros"
abbrev pub leading_zero : List ℕ → Bool
leading_zero s = eqb (get_or s 0 0) 48 && ltb 1 (length s)

abbrev pub is_dash : List ℕ → Bool
is_dash s = eqb (get_or s 0 0) 45 && eqb (length s) 1

-- what a field reads as: its number, `dash`, or `no_field`
unfoldable pub field_of : List ℕ → ℕ
field_of s = cond (is_dash s) dash (cond (eqb (length s) 0 || leading_zero s) no_field (number_from 0 s))

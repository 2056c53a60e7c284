-- Document 01, "Ranges": `merged`, `joined`, `union` and `clashes`, over lists of ranges.
use Rattle.std.specs.Prelude.{◌+◌, max, Bool, false, cond, ◌&&◌, ◌||◌, List, [], ◌∷◌, ◌++◌, leb, ltb, eqb}
use Rattle.ranges.specs.Points.{range, overlaps}
use Rattle.ranges.specs.declared.Range.{Range}

-- "sorts by start, then end"
abbrev pub not_after : Range → Range → Bool
not_after r s = ltb r.start s.start || eqb r.start s.start && leb r.end s.end

unfoldable pub insert : Range → List Range → List Range
insert r [] = r ∷ []
insert r (s ∷ rs) = cond (not_after r s) (r ∷ s ∷ rs) (s ∷ insert r rs)

unfoldable pub sort : List Range → List Range
sort [] = []
sort (r ∷ rs) = insert r (sort rs)

-- "joins only ranges that share a point"; document 02, (b): "ranges that touch are joined as well": a takes up the ranges after it that start no later than its end plus 1
unfoldable pub join : Range → List Range → List Range
join a [] = a ∷ []
join a (r ∷ rs) = cond (leb r.start (a.end + 1)) (join (range a.start (max a.end r.end)) rs) (a ∷ join r rs)

abbrev pub join_all : List Range → List Range
join_all [] = []
join_all (r ∷ rs) = join r rs

-- `merged`
unfoldable pub merged : List Range → List Range
merged rs = join_all (sort rs)

-- `joined`: "lengthens the last range it is lent when the new one starts at its end plus 1; otherwise it appends"
unfoldable pub joined : List Range → Range → List Range
joined [] r = r ∷ []
joined (s ∷ []) r = cond (eqb r.start (s.end + 1)) (range s.start r.end ∷ []) (s ∷ r ∷ [])
joined (s ∷ t ∷ rs) r = s ∷ joined (t ∷ rs) r

-- `union`: "equals `merged` of both lists"
abbrev pub union : List Range → List Range → List Range
union rs ss = merged (rs ++ ss)

-- `clashes`: some range of one list overlaps some range of the other
unfoldable pub meets : Range → List Range → Bool
meets r [] = false
meets r (s ∷ ss) = overlaps r s || meets r ss

unfoldable pub clashes : List Range → List Range → Bool
clashes [] ss = false
clashes (r ∷ rs) ss = meets r ss || clashes rs ss

-- one list is the other in another order
pub data Permuted : List Range → List Range → Type 0 where
  none : Permuted [] []
  keep : (r : Range) {rs ss : List Range} → Permuted rs ss → Permuted (r ∷ rs) (r ∷ ss)
  swap : (r s : Range) (rs : List Range) → Permuted (r ∷ s ∷ rs) (s ∷ r ∷ rs)
  then : {rs ss ts : List Range} → Permuted rs ss → Permuted ss ts → Permuted rs ts

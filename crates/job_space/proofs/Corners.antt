-- The corners of the definitions, by computation: ⌈n/64⌉, the counts of a job's records, W, and number 1 of what only fitting takes.
use Prim.Native.Nat.{ℕ}
use mathlib.Core.Path.{◌≡◌, refl}
use mathlib.Core.Bool.{true, false}
use mathlib.Core.List.{[], ◌∷◌}
use Rattle.fitting.specs.declared.Terms.{Terms}
use Rattle.job_space.specs.Rows.{rows_of}
use Rattle.job_space.specs.Space.{sizes_of, space_of, bad_shape}
use Rattle.words.specs.Regions.{row_words}

pub words : (row_words 0 ≡ 0) × (row_words 1 ≡ 1) × (row_words 64 ≡ 1) × (row_words 65 ≡ 2)
words = (refl, refl, refl, refl)

-- each count by itself: a record has 3, 2, 9, 2, 1, 2, 1, 2, 2, 3, 2 and 4 numbers, the area list 2
pub counts : sizes_of (rows_of 0 7 (0 ∷ 0 ∷ 0 ∷ []) (0 ∷ 0 ∷ 0 ∷ 0 ∷ []) (0 ∷ 0 ∷ 0 ∷ 0 ∷ 0 ∷ 0 ∷ 0 ∷ 0 ∷ 0 ∷ []) (0 ∷ 0 ∷ 0 ∷ 0 ∷ 0 ∷ 0 ∷ [])
    (0 ∷ 0 ∷ 0 ∷ 0 ∷ []) (0 ∷ 0 ∷ []) (0 ∷ 0 ∷ []) (0 ∷ 0 ∷ 0 ∷ 0 ∷ 0 ∷ 0 ∷ []) (0 ∷ 0 ∷ 0 ∷ 0 ∷ [])
    (0 ∷ 0 ∷ 0 ∷ []) (0 ∷ 0 ∷ 0 ∷ 0 ∷ []) (0 ∷ 0 ∷ 0 ∷ 0 ∷ [])) 11
    ≡ record { v = 7; blocks = 1; edges = 2; insts = 1; operands = 3; crossings = 4; locals = 1; slots = 2; addresses = 3; ends = 2; pieces = 1; assigned = 2; moves = 1; room = 5 }
counts = refl

-- W = 8 × (all record counts + B × ⌈locals/64⌉ + area list length + ⌈V/64⌉): ★1 with an area list of 64, and counts that are all different
pub space : (space_of (record { v = 0; blocks = 1; edges = 0; insts = 2; operands = 0; crossings = 0; locals = 2; slots = 0; addresses = 2; ends = 0; pieces = 0; assigned = 0; moves = 0; room = 64 }) ≡ 576)
    × (space_of (record { v = 65; blocks = 3; edges = 10; insts = 20; operands = 40; crossings = 80; locals = 129; slots = 300; addresses = 700; ends = 1000; pieces = 3000; assigned = 7000; moves = 10000; room = 30000 }) ≡ 418344)
space = (refl, refl)

-- number 1: "budget 1,048,576", a cell list of 2 and an item list of 4 numbers a row
abbrev terms : ℕ → Terms
terms b = record { budget = b }

pub shapes : (bad_shape (terms 1048576) 2 4 ≡ false) × (bad_shape (terms 1048577) 2 4 ≡ true) × (bad_shape (terms 0) 3 4 ≡ true) × (bad_shape (terms 0) 2 6 ≡ true) × (bad_shape (terms 0) 0 0 ≡ false)
shapes = (refl, refl, refl, refl, refl)

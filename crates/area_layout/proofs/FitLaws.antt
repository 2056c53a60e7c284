-- The regions fit the work space: W words are enough for every count within the limits.
use Prim.Native.Nat.{ℕ, ◌+◌, ◌-◌, ◌*◌, ◌/◌, ◌^◌, ◌≤◌, ◌<◌}
use native.Mathlib.Nat.{mul-le-mul_left, mul-le-mul_right, mul_comm, mul_assoc}
use native.Mathlib.Omega.{arith}
use mathlib.Core.Path.{◌≡◌, ap, ◌∙◌}
use Rattle.words.proofs.Points.{cut}
use Rattle.area_flow.specs.declared.Grid.{Grid}
use Rattle.local_spots.specs.declared.Places.{Places}
use Rattle.area_layout.specs.declared.Sizes.{Sizes}
use Rattle.area_layout.specs.Layout.{space_for}
use Rattle.area_layout.specs.Inner.{Numbers, Small, Placed, Gridded, mark_of}
use Rattle.words.specs.Regions.{row_words}

-- W of any 32-bit numbers is far below 64 bits
pub space_fits : {z : Sizes} → Numbers z → space_for z < 2 ^ 62
space_fits {z} C =
    let w : row_words z.locals ≤ 67108864 = omega (arith, C.locals) in
    let a = mul-le-mul_left z.blocks w in
    omega (arith, C.blocks, C.edges, C.locals, C.touches, C.ends, C.ranges)

pub small_numbers : {z : Sizes} → Small z → Numbers z
small_numbers S = record {
  blocks = omega (arith, S.few_blocks);
  edges = omega (arith, S.few_edges);
  locals = omega (arith, S.few_locals);
  touches = omega (arith, S.few_touches);
  ends = omega (arith, S.few_ends);
  ranges = omega (arith, S.few_ranges);
}

row_sum : (x w b : ℕ) → x ≤ w * (b + 63) → x ≤ b * w + 63 * w
row_sum x w b h = omega (arith, mul_comm w b)

room_left : (d b m x r w l : ℕ) → x ≤ r + 63 * w → 2 * b ≤ r → 64 * w ≤ l + 63 → 2 ≤ w → d + m ≤ b + 1 → 3 + d + b + m + x ≤ 2 * r + 4 * l
room_left d b m x r w l h₁ h₂ h₃ h₄ h₅ = omega arith

module _ (b l : ℕ) (some_block : 0 < b) (few_blocks : b ≤ 4096) (some_local : 0 < l) where
  -- up to 64 locals have one word a row
  one_word : l ≤ 64 → 3 + b / 64 + b + row_words b + l * row_words b ≤ 2 * (b * row_words l) + 4 * l
  one_word h =
      let e : row_words l ≡ 1 = omega arith in
      let r : b * row_words l ≡ b * 1 = ap (λ (k : ℕ). b * k) e in
      cut 5 (row_words b)
      (λ m.
      let f : row_words b ≡ row_words b - 4 + 4 = omega arith in
      let x : l * row_words b ≡ l * (row_words b - 4 + 4) = ap (λ (k : ℕ). l * k) f in
      let y : l * (row_words b - 4) ≤ 64 * (row_words b - 4) = mul-le-mul_right (row_words b - 4) h in
      omega arith)
      (λ m. cut 2 (row_words b)
      (λ q. let x : l * row_words b ≤ l * 4 = mul-le-mul_left l (omega arith) in omega arith)
      (λ q. let x : l * row_words b ≡ l * 1 = ap (λ (k : ℕ). l * k) (omega arith) in omega arith))

  -- more have two or more
  more_words : 64 < l → 3 + b / 64 + b + row_words b + l * row_words b ≤ 2 * (b * row_words l) + 4 * l
  more_words h =
      let x : l * row_words b ≤ row_words l * 64 * row_words b = mul-le-mul_right (row_words b) (omega arith) in
      let y : row_words l * 64 * row_words b ≡ row_words l * (64 * row_words b) = mul_assoc (row_words l) 64 (row_words b) in
      let z : row_words l * (64 * row_words b) ≤ row_words l * (b + 63) = mul-le-mul_left (row_words l) (omega arith) in
      let t : b * 2 ≤ b * row_words l = mul-le-mul_left b (omega arith) in
      room_left (b / 64) b (row_words b) (l * row_words b) (b * row_words l) (row_words l) l (row_sum _ (row_words l) b (omega (arith, x, y, z))) (omega (arith, t)) (omega arith) (omega arith) (omega arith)

  pub rows_fit : 3 + b / 64 + b + row_words b + l * row_words b ≤ 2 * (b * row_words l) + 4 * l
  rows_fit = cut 65 l (λ h. more_words (omega arith)) (λ h. one_word (omega arith))

-- the last region, three words a touch and a word a block, ends within W
pub layout_fits : (z : Sizes) (p : Places) (g : Grid) → Small z → 0 < z.locals → Placed z p → Gridded z (p.ends + z.ends) g
    → mark_of g + g.width + z.blocks + (3 * z.touches + z.blocks) ≤ space_for z
layout_fits z p g S h P G =
    let r = rows_fit z.blocks z.locals S.some_block S.few_blocks h in
    let w : z.blocks * g.words ≡ z.blocks * row_words z.locals = ap (λ (k : ℕ). z.blocks * k) G.words_are in
    let x : g.locals * g.width ≡ z.locals * row_words z.blocks = ap (λ (k : ℕ). k * g.width) G.locals_are ∙ ap (λ (k : ℕ). z.locals * k) G.width_is in
    omega arith

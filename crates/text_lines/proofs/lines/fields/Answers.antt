-- `fields` meets its contract: a field more is read each turn.
use native.Mathlib.Omega.{arith}
use Prim.Native.Nat.{ℕ, ◌+◌, ◌-◌}
use mathlib.Core.Path.{◌≡◌, refl, sym, ap, ◌∙◌}
use lib.ListN.{take, drop, length-set, length-drop}
use Rattle.text_grammar.specs.Numerals.{field_of}
use Rattle.text_lines.proofs.FieldLaws.{taking_start, taking_all, taking_not, taking_last, taking_more, part_found, refused}
use Rattle.text_grammar.proofs.TableLaws.{fields_most}
use Rattle.text_grammar.proofs.PartLaws.{index_within}
use Rattle.text_lines.proofs.lines.fields.Goals as goal

pub loop-j-init : goal.loop-j-init
loop-j-init c = taking_start _ _ _ (let g = fields_most c.args.k c.requires.0 in omega arith)

pub overflow_add-e : goal.overflow_add-e
overflow_add-e c =
    let a = c.args in
    let q = (part_found a.s.now c.loop-j.at c.find.result _ refl c.find.ensures) in
    let i = index_within 44 (drop c.loop-j.at a.s.now) in
    let l = length-drop c.loop-j.at a.s.now in
    omega (arith, c.loop-j.invariant.at_le)

pub slice_bounds-field-end : goal.slice_bounds-field-end
slice_bounds-field-end c =
    let a = c.args in
    let q = (part_found a.s.now c.loop-j.at c.find.result _ refl c.find.ensures) in
    let i = index_within 44 (drop c.loop-j.at a.s.now) in
    let l = length-drop c.loop-j.at a.s.now in
    omega (arith, c.loop-j.invariant.at_le)

pub dash_at-requires : goal.dash_at-requires
dash_at-requires c = (c.requires.0, (let g = c.entry_of-n.ensures.fields in omega arith))

pub returns-then-not-allowed : goal.returns-then-not-allowed
returns-then-not-allowed c =
    let a = c.args in
    refused c.loop-j.invariant.len
    (taking_not c.loop-j.invariant c.find.result c.field-f.result c.dash_at.result (let g = c.entry_of-n.ensures.fields in omega arith)
    (part_found a.s.now c.loop-j.at c.find.result _ refl c.find.ensures)
    (c.field-f.ensures ∙ (let g : c.loop-j.at + c.find.result - c.loop-j.at ≡ c.find.result = omega arith in ap (λ (x : ℕ). field_of (take x (drop c.loop-j.at a.s.now))) g))
    c.dash_at.ensures (sym c.allowed.ensures ∙ c.if-not-allowed.true))

pub shape_of-out-then-e-s : goal.shape_of-out-then-e-s
shape_of-out-then-e-s c = simp length-set c.loop-j.invariant.len

pub returns-then-e-s : goal.returns-then-e-s
returns-then-e-s c =
    let a = c.args in
    taking_last c.loop-j.invariant c.find.result c.field-f.result c.dash_at.result (let g = c.entry_of-n.ensures.fields in omega arith)
    (part_found a.s.now c.loop-j.at c.find.result _ refl c.find.ensures)
    (c.field-f.ensures ∙ (let g : c.loop-j.at + c.find.result - c.loop-j.at ≡ c.find.result = omega arith in ap (λ (x : ℕ). field_of (take x (drop c.loop-j.at a.s.now))) g))
    c.dash_at.ensures (sym c.allowed.ensures ∙ c.if-not-allowed.false) c.if-e-s.true a.k _ refl c.entry_of-n.ensures.fields

pub loop-j-preserved : goal.loop-j-preserved
loop-j-preserved c =
    let a = c.args in
    taking_more c.loop-j.invariant c.find.result c.field-f.result c.dash_at.result (let g = c.entry_of-n.ensures.fields in omega arith)
    (part_found a.s.now c.loop-j.at c.find.result _ refl c.find.ensures)
    (c.field-f.ensures ∙ (let g : c.loop-j.at + c.find.result - c.loop-j.at ≡ c.find.result = omega arith in ap (λ (x : ℕ). field_of (take x (drop c.loop-j.at a.s.now))) g))
    c.dash_at.ensures (sym c.allowed.ensures ∙ c.if-not-allowed.false) c.if-e-s.false

pub returns : goal.returns
returns c = refused c.loop-j.invariant.len (taking_all c.loop-j.invariant (let g = c.entry_of-n.ensures.fields in omega arith))

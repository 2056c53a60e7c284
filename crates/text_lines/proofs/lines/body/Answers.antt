-- `body` meets its contract: each way out is a case of the grammar.
use native.Mathlib.Omega.{arith}
use Prim.Native.Nat.{ℕ, ◌-◌, ◌≤◌, ◌<◌}
use mathlib.Core.Path.{◌≡◌, refl, sym, ap, ◌∙◌}
use lib.ListN.{length, drop, length-drop}
use lib.Seq.{take_all}
use Rattle.words.proofs.Points.{cut}
use Rattle.text_lines.proofs.BodyLaws.{group_within, group_not, group_is, fields_none, fields_are, body_without, body_alone, body_refused, body_read}
use Rattle.text_grammar.proofs.PartLaws.{index_within}
use Rattle.text_lines.specs.Inner.{fields_in}
use Rattle.text_lines.proofs.lines.body.Goals as goal

longer : (n : ℕ) → 1 ≤ n → (n ≡ 1 → ⊥) → 1 < n
longer n h d = cut n 1 (λ a. absurd (d (omega arith))) (λ a. a)

pub returns-then-e-ne1 : goal.returns-then-e-ne1
returns-then-e-ne1 c =
    let a = c.args in
    body_without a.b.now a.out.now _ refl (group_not a.b.now (λ e. c.if-e-ne1.true (c.find-e.ensures ∙ e)))

pub bounds-b-0 : goal.bounds-b-0
bounds-b-0 c = let i = index_within 44 c.args.b.now in let o = (sym c.find-e.ensures ∙ c.if-e-ne1.false) in omega arith

pub returns-then-k-eq-GROUP_COUNT : goal.returns-then-k-eq-GROUP_COUNT
returns-then-k-eq-GROUP_COUNT c =
    let a = c.args in
    body_without a.b.now a.out.now _ refl
    (sym (c.group_of-k.ensures ∙ sym (group_is a.b.now (sym c.find-e.ensures ∙ c.if-e-ne1.false))) ∙ c.if-k-eq-GROUP_COUNT.true)

pub returns-then-b-eq1 : goal.returns-then-b-eq1
returns-then-b-eq1 c =
    let a = c.args in
    body_alone a.b.now a.out.now _ refl _ (c.group_of-k.ensures ∙ sym (group_is a.b.now (sym c.find-e.ensures ∙ c.if-e-ne1.false)))
    (group_within _ _ c.group_of-k.ensures c.if-k-eq-GROUP_COUNT.false) (fields_none a.b.now (sym c.find-e.ensures ∙ c.if-e-ne1.false) c.if-b-eq1.true)

pub slice_bounds-fields-count : goal.slice_bounds-fields-count
slice_bounds-fields-count c =
    let a = c.args in
    let h = (let i = index_within 44 a.b.now in let o = (sym c.find-e.ensures ∙ c.if-e-ne1.false) in longer _ (omega arith) c.if-b-eq1.false) in
    omega arith

pub slice_bounds-fields-start : goal.slice_bounds-fields-start
slice_bounds-fields-start c =
    let a = c.args in
    let h = (let i = index_within 44 a.b.now in let o = (sym c.find-e.ensures ∙ c.if-e-ne1.false) in longer _ (omega arith) c.if-b-eq1.false) in
    omega arith

pub fields-requires : goal.fields-requires
fields-requires c = ((group_within _ _ c.group_of-k.ensures c.if-k-eq-GROUP_COUNT.false), c.requires)

pub returns-then-fields : goal.returns-then-fields
returns-then-fields c =
    let a = c.args in
    body_read a.b.now a.out.now _ c.fields.ensures.kept _ (c.group_of-k.ensures ∙ sym (group_is a.b.now (sym c.find-e.ensures ∙ c.if-e-ne1.false)))
    (group_within _ _ c.group_of-k.ensures c.if-k-eq-GROUP_COUNT.false) _ _
    (fields_are a.b.now (sym c.find-e.ensures ∙ c.if-e-ne1.false)
    (let i = index_within 44 a.b.now in let o = (sym c.find-e.ensures ∙ c.if-e-ne1.false) in longer _ (omega arith) c.if-b-eq1.false) ∙ sym
    (ap fields_in (take_all (length a.b.now - 2) (drop 2 a.b.now) (let l = length-drop 2 a.b.now in omega arith)))) c.fields.ensures c.if-fields.true

pub returns : goal.returns
returns c =
    let a = c.args in
    body_refused a.b.now a.out.now _ c.fields.ensures.kept _ (c.group_of-k.ensures ∙ sym (group_is a.b.now (sym c.find-e.ensures ∙ c.if-e-ne1.false)))
    (group_within _ _ c.group_of-k.ensures c.if-k-eq-GROUP_COUNT.false) _ _
    (fields_are a.b.now (sym c.find-e.ensures ∙ c.if-e-ne1.false)
    (let i = index_within 44 a.b.now in let o = (sym c.find-e.ensures ∙ c.if-e-ne1.false) in longer _ (omega arith) c.if-b-eq1.false) ∙ sym
    (ap fields_in (take_all (length a.b.now - 2) (drop 2 a.b.now) (let l = length-drop 2 a.b.now in omega arith)))) c.fields.ensures c.if-fields.false

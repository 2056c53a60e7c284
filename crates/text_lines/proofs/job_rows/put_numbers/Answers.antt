-- `put_numbers` meets its contract: a number more is written each turn.
use native.Mathlib.Omega.{arith}
use Prim.Native.Nat.{ℕ}
use mathlib.Core.Path.{refl, sym, ap, ◌∙◌}
use lib.ListN.{get_or}
use Rattle.text_lines.proofs.PutLaws.{numbers_at_lem}
use Rattle.text_grammar.specs.Groups.{group_at}
use Rattle.text_grammar.specs.Lines.{meant}
use Rattle.words.proofs.RegionLaws.{done_start, done_more, done_all}
use Rattle.text_lines.proofs.job_rows.put_numbers.Goals as goal

pub loop-j-init : goal.loop-j-init
loop-j-init c = done_start _ _ _ _ c.requires.2

pub dash_at-requires : goal.dash_at-requires
dash_at-requires c =
    (c.requires.0.group, (let q = c.requires.1 in omega arith))

pub number-requires : goal.number-requires
number-requires c =
    rw c.dash_at.ensures (c.requires.0.number c.loop-j.j (let q = c.requires.1 in omega arith))

pub loop-j-preserved : goal.loop-j-preserved
loop-j-preserved c =
    let a = c.args in
    let p = c.requires in
    done_more c.loop-j.invariant _ _ (omega arith) refl
    (c.number.ensures ∙ ap (λ (d : ℕ). meant d (get_or a.fields.now c.loop-j.j 0)) c.dash_at.ensures ∙ sym
    (numbers_at_lem (group_at a.k).dashes a.fields.now c.loop-j.j (let q = p.1 in omega arith) p.0.enough))

pub returns : goal.returns
returns c = done_all c.loop-j.invariant (omega arith)

-- `dash_at` meets its contract: each way out is a case of what `-` stands for.
use borrow.Author.Tests.{eq-eqb, ne_eqb, le-leb, lt-leb}
use Rattle.text_grammar.proofs.TableLaws.{dash_told}
use Rattle.text_grammar.proofs.dash_at.Goals as goal

pub returns-then-j-eq0 : goal.returns-then-j-eq0
returns-then-j-eq0 c =
    dash_told c.args.k c.args.j c.requires _ (rw (eq-eqb _ _ c.if-k-eq-INSTS.true, eq-eqb _ _ c.if-j-eq0.true))

pub returns-then-j-ge5 : goal.returns-then-j-ge5
returns-then-j-ge5 c =
    let a = c.args in
    let p = c.requires in
    dash_told a.k a.j p _ (rw (eq-eqb _ _ c.if-k-eq-INSTS.true, ne_eqb _ _ c.if-j-eq0.false, le-leb _ _ c.if-j-ge5.true))

pub returns-then-k-eq-INSTS : goal.returns-then-k-eq-INSTS
returns-then-k-eq-INSTS c =
    let a = c.args in
    let p = c.requires in
    dash_told a.k a.j p _ (rw (eq-eqb _ _ c.if-k-eq-INSTS.true, ne_eqb _ _ c.if-j-eq0.false, lt-leb _ _ c.if-j-ge5.false))

pub returns-then-j-eq1 : goal.returns-then-j-eq1
returns-then-j-eq1 c =
    let a = c.args in
    let p = c.requires in
    dash_told a.k a.j p _ (rw (ne_eqb _ _ c.if-k-eq-INSTS.false, eq-eqb _ _ c.if-k-eq-ASSIGNED.true, eq-eqb _ _ c.if-j-eq1.true))

pub returns-then-k-eq-ASSIGNED : goal.returns-then-k-eq-ASSIGNED
returns-then-k-eq-ASSIGNED c =
    let a = c.args in
    let p = c.requires in
    dash_told a.k a.j p _ (rw (ne_eqb _ _ c.if-k-eq-INSTS.false, eq-eqb _ _ c.if-k-eq-ASSIGNED.true, ne_eqb _ _ c.if-j-eq1.false))

pub returns-then-j-ge2 : goal.returns-then-j-ge2
returns-then-j-ge2 c =
    let a = c.args in
    let p = c.requires in
    dash_told a.k a.j p _ (rw (ne_eqb _ _ c.if-k-eq-INSTS.false, ne_eqb _ _ c.if-k-eq-ASSIGNED.false, eq-eqb _ _ c.if-k-eq-MOVES.true, le-leb _ _ c.if-j-ge2.true))

pub returns-then-k-eq-MOVES : goal.returns-then-k-eq-MOVES
returns-then-k-eq-MOVES c =
    let a = c.args in
    let p = c.requires in
    dash_told a.k a.j p _ (rw (ne_eqb _ _ c.if-k-eq-INSTS.false, ne_eqb _ _ c.if-k-eq-ASSIGNED.false, eq-eqb _ _ c.if-k-eq-MOVES.true, lt-leb _ _ c.if-j-ge2.false))

pub returns : goal.returns
returns c =
    let a = c.args in
    let p = c.requires in
    dash_told a.k a.j p _ (rw (ne_eqb _ _ c.if-k-eq-INSTS.false, ne_eqb _ _ c.if-k-eq-ASSIGNED.false, ne_eqb _ _ c.if-k-eq-MOVES.false))

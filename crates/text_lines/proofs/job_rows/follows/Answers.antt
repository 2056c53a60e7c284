-- `follows` meets its contract, by the table.
use native.Mathlib.Omega.{arith}
use Rattle.text_lines.proofs.StoreLaws.{follow_none, follow_early, follow_rest}
use Rattle.text_lines.proofs.job_rows.follows.Goals as goal

pub returns-then-k-ge-GROUP_COUNT : goal.returns-then-k-ge-GROUP_COUNT
returns-then-k-ge-GROUP_COUNT c = follow_none c.args.k c.args.place c.if-k-ge-GROUP_COUNT.true

pub returns-then-place-e : goal.returns-then-place-e
returns-then-place-e c =
    follow_early c.args.k c.args.place _ (omega arith) c.entry_of-e.ensures.least c.if-place-e.true

pub returns : goal.returns
returns c =
    let a = c.args in
    follow_rest a.k a.place _ (omega arith) c.entry_of-e.ensures.least _ c.entry_of-e.ensures.most c.if-place-e.false

-- `planned` meets its contract: each list is its group's part of the reader's.
use lib.Dec.{lit<}
use Rattle.planning.specs.Inner.{numbers_at}
use Rattle.planning.proofs.GroupLaws.{head_at_lem, reads_in, shared_for}
use Rattle.planning.proofs.row_plans.planned.Goals as goal

pub bounds-rows-0 : goal.bounds-rows-0
bounds-rows-0 c =
    reads_in c.args.rows.now 0 (lit< tt) c.requires.0

pub bounds-rows-1 : goal.bounds-rows-1
bounds-rows-1 c =
    reads_in c.args.rows.now 1 (lit< tt) c.requires.0

pub bounds-rows-2 : goal.bounds-rows-2
bounds-rows-2 c =
    reads_in c.args.rows.now 2 (lit< tt) c.requires.0

pub records-requires : goal.records-requires
records-requires c =
    (c.requires.0, c.requires.1, c.requires.2, lit< tt)

pub records-requires-2 : goal.records-requires-2
records-requires-2 c =
    (c.requires.0, c.requires.1, c.requires.2, lit< tt)

pub records-requires-3 : goal.records-requires-3
records-requires-3 c =
    (c.requires.0, c.requires.1, c.requires.2, lit< tt)

pub records-requires-4 : goal.records-requires-4
records-requires-4 c =
    (c.requires.0, c.requires.1, c.requires.2, lit< tt)

pub records-requires-5 : goal.records-requires-5
records-requires-5 c =
    (c.requires.0, c.requires.1, c.requires.2, lit< tt)

pub records-requires-6 : goal.records-requires-6
records-requires-6 c =
    (c.requires.0, c.requires.1, c.requires.2, lit< tt)

pub records-requires-7 : goal.records-requires-7
records-requires-7 c =
    (c.requires.0, c.requires.1, c.requires.2, lit< tt)

pub records-requires-8 : goal.records-requires-8
records-requires-8 c =
    (c.requires.0, c.requires.1, c.requires.2, lit< tt)

pub records-requires-9 : goal.records-requires-9
records-requires-9 c =
    (c.requires.0, c.requires.1, c.requires.2, lit< tt)

pub records-requires-10 : goal.records-requires-10
records-requires-10 c =
    (c.requires.0, c.requires.1, c.requires.2, lit< tt)

pub records-requires-11 : goal.records-requires-11
records-requires-11 c =
    (c.requires.0, c.requires.1, c.requires.2, lit< tt)

pub records-requires-12 : goal.records-requires-12
records-requires-12 c =
    (c.requires.0, c.requires.1, c.requires.2, lit< tt)

pub returns : goal.returns
returns c =
    let a = c.args in
    let p = c.requires in
    shared_for (numbers_at a.rows.now a.counts.now) (head_at_lem a.rows.now a.counts.now p.2 0 (lit< tt))
    (head_at_lem a.rows.now a.counts.now p.2 1 (lit< tt)) (head_at_lem a.rows.now a.counts.now p.2 2 (lit< tt)) c.records.ensures
    c.records-2.ensures c.records-3.ensures c.records-4.ensures c.records-5.ensures c.records-6.ensures c.records-7.ensures
    c.records-8.ensures c.records-9.ensures c.records-10.ensures c.records-11.ensures c.records-12.ensures c.share.ensures

-- `take_byte` meets its contract: a line too long goes on or ends, and one that is not goes on or is taken.
use native.Mathlib.Omega.{arith}
use Prim.Native.Nat.{ℕ, ◌+◌, ◌-◌}
use mathlib.Core.Path.{◌≡◌, refl, ap}
use lib.ListN.{take, set, length-set}
use Rattle.text_lines.proofs.ByteLaws.{byte_kept, byte_past, byte_long, byte_ends, lines_few}
use Rattle.text_lines.proofs.text.take_byte.Goals as goal

pub malformed-requires : goal.malformed-requires
malformed-requires c =
    let a = c.args in
    (let g = lines_few c.requires.1.reading a.b in let h = c.requires.1.short in omega arith)

pub returns-then-b-eq10 : goal.returns-then-b-eq10
returns-then-b-eq10 c =
    let a = c.args in
    record
    { feeds = λ t d. byte_long d a.b c.if-b-eq10.true c.if-n-ge-LONGEST.true c.malformed.ensures; line_kept = refl; fields_kept = refl; rows_kept = refl; counts_kept = refl }

pub returns-then-n-ge-LONGEST : goal.returns-then-n-ge-LONGEST
returns-then-n-ge-LONGEST c =
    let a = c.args in
    record { feeds = λ t d. byte_past d a.b c.if-b-eq10.false c.if-n-ge-LONGEST.true; line_kept = refl; fields_kept = refl; rows_kept = refl; counts_kept = refl }

pub shape_of-line-then-b-ne10 : goal.shape_of-line-then-b-ne10
shape_of-line-then-b-ne10 c = simp length-set

pub returns-then-b-ne10 : goal.returns-then-b-ne10
returns-then-b-ne10 c =
    let a = c.args in
    record
    { feeds = λ t d. byte_kept d a.b c.if-b-ne10.true (omega arith); line_kept = length-set a.line.now _ _; fields_kept = refl; rows_kept = refl; counts_kept = refl }

pub take_line-q-requires : goal.take_line-q-requires
take_line-q-requires c =
    let a = c.args in
    (c.requires.0, (let g = lines_few c.requires.1.reading a.b in let h = c.requires.1.short in omega arith), record { before = c.requires.1.reading.done; taken = c.requires.1.reading.held.taken })

pub shape_of-line : goal.shape_of-line
shape_of-line c = simp length-set

pub returns : goal.returns
returns c =
    let a = c.args in
    record {
      feeds = λ t d. byte_ends d a.b c.if-b-ne10.false _ (omega arith) (let g : a.s.len + 1 - 0 ≡ a.s.len + 1 = omega arith in ap (λ (i : ℕ). take i (set a.line.now a.s.len a.b)) g) c.take_line-q.ensures;
      line_kept = length-set a.line.now _ _;
      fields_kept = c.take_line-q.auto.fields;
      rows_kept = c.take_line-q.ensures.rows_kept;
      counts_kept = c.take_line-q.ensures.counts_kept;
    }

-- `read_line` meets its contract: a line too long, an empty one, one without its newline, and what stands before it.
use native.Mathlib.Omega.{arith}
use Prim.Native.Nat.{ℕ, ◌-◌}
use mathlib.Core.Path.{◌≡◌, ap}
use lib.ListN.{length, take}
use Rattle.text_lines.proofs.BodyLaws.{line_long, line_open, line_empty, line_read}
use Rattle.text_lines.proofs.lines.read_line.Goals as goal

pub returns-then-n-gt-LONGEST : goal.returns-then-n-gt-LONGEST
returns-then-n-gt-LONGEST c = line_long c.args.line.now c.args.out.now c.if-n-gt-LONGEST.true

pub returns-then-n-eq0 : goal.returns-then-n-eq0
returns-then-n-eq0 c = line_empty c.args.line.now c.args.out.now c.if-n-eq0.true

pub returns-then-line-n-ne10 : goal.returns-then-line-n-ne10
returns-then-line-n-ne10 c =
    line_open c.args.line.now c.args.out.now c.if-line-n-ne10.true

pub returns : goal.returns
returns c =
    let a = c.args in
    line_read a.line.now a.out.now _ _ _ (omega arith) c.if-line-n-ne10.false
    (ap (λ (n : ℕ). take n a.line.now) (let g : length a.line.now - 1 - 0 ≡ length a.line.now - 1 = omega arith in g)) c.body.ensures

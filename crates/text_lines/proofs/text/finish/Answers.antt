-- `finish` meets its contract: each way out is a case of the definition.
use native.Mathlib.Omega.{arith}
use mathlib.Core.Path.{ap, ◌∙◌}
use Rattle.refusals.specs.Outcomes.{numbered}
use Rattle.refusals.proofs.Laws.{bad_fine}
use Rattle.text_lines.proofs.EndLaws.{end_bad, end_open, end_none, end_full, end_registers, end_fine, end_records}
use Rattle.text_lines.proofs.text.finish.Goals as goal

pub returns-then-r : goal.returns-then-r
returns-then-r c = record { answer = λ text line counts d. ap numbered (end_bad d c.if-r.true); records = λ text line counts d e. bad_fine (end_bad d c.if-r.true ∙ e) }

pub returns-then-s-gt0 : goal.returns-then-s-gt0
returns-then-s-gt0 c =
    record
    { answer = λ text line counts d. ap numbered (end_open d c.if-r.false c.if-s-gt0.true); records = λ text line counts d e. bad_fine (end_open d c.if-r.false c.if-s-gt0.true ∙ e) }

pub returns-then-r-eq0 : goal.returns-then-r-eq0
returns-then-r-eq0 c =
    record {
      answer = λ text line counts d. ap numbered (end_none d (let h = c.if-s-gt0.false in omega arith) c.if-r-eq0.true);
      records = λ text line counts d e. bad_fine (end_none d
          (let h = c.if-s-gt0.false in omega arith) c.if-r-eq0.true ∙ e);
    }

pub returns-then-r-2 : goal.returns-then-r-2
returns-then-r-2 c =
    record {
      answer = λ text line counts d. ap numbered (end_full d c.if-r.false (let h = c.if-s-gt0.false in omega arith) c.if-r-eq0.false
          c.if-r-2.true);
      records = λ text line counts d e. bad_fine (end_full d c.if-r.false (let h = c.if-s-gt0.false in omega arith) c.if-r-eq0.false c.if-r-2.true ∙ e);
    }

pub returns-then-rows-gt-ALLOWED : goal.returns-then-rows-gt-ALLOWED
returns-then-rows-gt-ALLOWED c =
    record {
      answer = λ text line counts d. ap numbered (end_registers d c.if-r.false (let h = c.if-s-gt0.false in omega arith) c.if-r-eq0.false c.if-r-2.false
          c.if-rows-gt-ALLOWED.true);
      records = λ text line counts d e. bad_fine (end_registers d c.if-r.false (let h = c.if-s-gt0.false in omega arith) c.if-r-eq0.false c.if-r-2.false c.if-rows-gt-ALLOWED.true ∙ e);
    }

pub returns : goal.returns
returns c =
    record {
      answer = λ text line counts d. ap numbered (end_fine d c.if-r.false (let h = c.if-s-gt0.false in omega arith) c.if-r-eq0.false c.if-r-2.false
          (omega arith));
      records = λ text line counts d e. end_records d c.if-r.false (let h = c.if-s-gt0.false in omega arith) c.if-r-eq0.false c.if-r-2.false;
    }

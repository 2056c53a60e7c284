-- The records of each group by the group's name, and the whole job of them.
use Rattle.std.specs.Prelude.{ℕ, List, ℤ, get_or, Result}
use Rattle.areas.specs.Job.{Job}
use Rattle.fitting.specs.declared.Terms.{Terms}
use Rattle.job_space.specs.Rows.{Rows, rows_of}
use Rattle.job_checks.specs.Job.{job_of}
use Rattle.job.specs.Entry.{lent_verdict, verdict_of, SharedAs}
use Rattle.text_grammar.specs.Groups.{head_group, block_group, edge_group, inst_group, operand_group, crossing_group, local_group, slot_group}
use Rattle.text_grammar.specs.Groups.{address_group, end_group, piece_group, assigned_group, move_group}
use Rattle.refusals.specs.Verdicts.{Verdict}
use Rattle.refusals.specs.declared.Refused.{Refused}
use Rattle.wants.specs.declared.Tally.{Tally}

-- the numbers of the records of each group
module _ (group : ℕ → List ℕ) where
  -- what the job is lent, with "`H,points,V,budget`"
  abbrev pub rows_for : Rows
  rows_for = rows_of (get_or (group head_group) 0 0) (get_or (group head_group) 1 0)
      (group block_group) (group edge_group) (group inst_group) (group operand_group) (group crossing_group) (group local_group)
      (group slot_group) (group address_group) (group end_group) (group piece_group) (group assigned_group) (group move_group)

  abbrev pub terms_for : Terms
  terms_for = record { budget = get_or (group head_group) 2 0 }

  -- the job that they describe
  abbrev pub job : Job
  job = job_of rows_for

  -- what is refused before anything is measured, and all that is refused, where the answer lists and the work space have so many numbers
  abbrev pub lent_for : ℕ → ℕ → ℕ → ℕ → ℕ → Verdict
  lent_for = lent_verdict rows_for terms_for

  abbrev pub verdict_for : ℕ → ℕ → ℕ → ℕ → ℕ → Verdict
  verdict_for = verdict_of rows_for terms_for

  -- what the whole job answers
  abbrev pub SharedFor : List ℕ → List ℕ → List ℕ → List ℤ → List ℕ → (Result Tally Refused) → List ℕ → List ℕ → List ℕ → List ℤ → List ℕ → Type 0
  SharedFor = SharedAs rows_for terms_for

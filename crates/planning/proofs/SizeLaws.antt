-- The sizes of a plan's cells are 32-bit where the text's numbers are.
use Prim.Native.Nat.{ℕ, zero, suc, ◌-◌, ◌<◌}
use native.Mathlib.Omega.{arith}
use mathlib.Core.Bool.{Bool, true, false, cond}
use mathlib.Core.Option.{Option, some, none}
use mathlib.Core.List.{List, [], ◌∷◌, ◌++◌}
use lib.ListN.{length, set, get_or-eq_default}
use lib.Dec.{ltb, lit<}
use Rattle.words.specs.Widths.{local_width, local_count}
use Rattle.words.proofs.Points.{cut}
use Rattle.words.proofs.RowLaws.{length_tabulate, get_d_tabulate, length_records, get_d_records}
use Rattle.ranges.specs.declared.Range.{Range}
use Rattle.areas.specs.Job.{Job, item_count}
use Rattle.fitting.specs.Wants.{Want, want_at, order_of}
use Rattle.fitting.specs.Plan.{Plan, Cell, cell_at, lowest, settled, placed_by, put, fit, nothing}
use Rattle.fitting.specs.Inner.{cell_of}
use Rattle.soundness.specs.Demand.{local_at, width_at, want_of, wants_of, job_plan}
use Rattle.text_grammar.specs.Numerals.{limit}
use Rattle.text_grammar.specs.Groups.{local_group, slot_group}
use Rattle.text_grammar.specs.Lines.{lines_of}
use Rattle.text_grammar.proofs.RowLaws.{rows_below}
use Rattle.planning.specs.Groups.{job}
use Rattle.planning.specs.Program.{numbers_in}
use Rattle.planning.proofs.AnswerLaws.{make_local}

module _ (m : ℕ) where
  abbrev Small : List Cell → Type 0
  Small cs = (c : ℕ) → (cell_at cs c).size < m

  append_small : (cs : List Cell) (x : Cell) → Small cs → x.size < m → Small (cs ++ (x ∷ []))
  append_small [] x f h zero = h
  append_small [] x f h (suc c) = omega arith
  append_small (y ∷ cs) x f h zero = f 0
  append_small (y ∷ cs) x f h (suc c) = append_small cs x (λ j. f (suc j)) h c

  set_small : (cs : List Cell) (n : ℕ) (x : Cell) → Small cs → x.size < m → Small (set cs n x)
  set_small [] n x f h c = f c
  set_small (y ∷ cs) zero x f h zero = h
  set_small (y ∷ cs) zero x f h (suc c) = f (suc c)
  set_small (y ∷ cs) (suc n) x f h zero = f 0
  set_small (y ∷ cs) (suc n) x f h (suc c) = set_small cs n x (λ j. f (suc j)) h c

  put_small : (budget : ℕ) (w : Want) (a : Option (List Range)) (i : ℕ) (p : Plan) → w.size < m → Small p.cells → Small (placed_by budget w a i p).cells
  put_small budget w none i p h f = append_small p.cells (cell_of w) f h
  put_small budget w (some a) i p h f = go (lowest p.cells (budget - p.probes) a)
    where
      go : (o : Option ℕ) → Small (settled w i a (budget - p.probes) o p).cells
      go none = append_small p.cells (cell_of w) f h
      go (some n) = set_small p.cells n _ f (let k = f n in omega arith)

  fit_small : (ws : List Want) (budget : ℕ) (order : List ℕ) (p : Plan) → ((i : ℕ) → (want_at ws i).size < m) → Small p.cells → Small (fit ws budget order p).cells
  unfolding fit
  fit_small ws budget [] p h f = f
  fit_small ws budget (i ∷ order) p h f = fit_small ws budget order (put ws budget i p) h (put_small budget (want_at ws i) (want_at ws i).area i p (h i) f)

-- the items of a text's job
module _ (text : List ℕ) where
  abbrev J : Job
  J = job (numbers_in text)

  local_small : (i : ℕ) → (local_at J i).size < limit
  local_small i =
      cut (local_count (numbers_in text local_group)) i
      (λ h. rw (get_or-eq_default J.locals (record { size = 0; align = 0 }) {n = i} (let l = length_records local_width make_local (numbers_in text local_group) in omega arith)) (lit< tt))
      (λ h. rw (get_d_records local_width make_local (numbers_in text local_group) i (record { size = 0; align = 0 }) h) (rows_below local_group (lit< tt) (λ e. omega arith) (lines_of text) _))

  width_small : (i : ℕ) → width_at J i < limit
  width_small i = rows_below slot_group (lit< tt) (λ e. omega arith) (lines_of text) (i - length J.locals)

  want_small : (i : ℕ) → (want_of J i).size < limit
  want_small i = go (ltb i (length J.locals))
    where
      go : (t : Bool) → cond t (local_at J i).size (width_at J i) < limit
      go true = local_small i
      go false = width_small i

  wants_small : (i : ℕ) → (want_at (wants_of J) i).size < limit
  wants_small i =
      cut (item_count J) i (λ h. rw (get_or-eq_default (wants_of J) (record { size = 0; align = 0; area = none }) {n = i} (let l = length_tabulate (item_count J) (want_of J) in omega arith)) (lit< tt))
      (λ h. rw (get_d_tabulate (item_count J) (want_of J) i (record { size = 0; align = 0; area = none }) h) (want_small i))

  pub sizes_small : (budget c : ℕ) → (cell_at (job_plan J budget).cells c).size < limit
  sizes_small budget c = fit_small limit (wants_of J) budget (order_of (wants_of J)) nothing wants_small (λ j. lit< tt) c

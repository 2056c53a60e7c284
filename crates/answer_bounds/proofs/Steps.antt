-- Checks one after another whose indexes fit, and the checks that several entries make.
use Prim.Native.Nat.{ℕ, ◌≤◌}
use native.Mathlib.Omega.{arith}
use mathlib.Core.Path.{◌≡◌}
use mathlib.Core.Bool.{Bool, not}
use mathlib.Core.List.{List, [], ◌∷◌}
use lib.ListN.{length}
use lib.Dec.{eqb, ltb}
use Rattle.refusals.specs.declared.Refusal.{Refusal}
use Rattle.refusals.specs.declared.Refusal.TheVariants.{Count}
use Rattle.refusals.specs.Verdicts.{first, in_order, scan, Fine, Verdict}
use Rattle.words.specs.Widths.{block_width, block_count, inst_width, inst_count, operand_width, operand_count, local_width, mention_width}
use Rattle.graph.specs.Line.{Stretch, Jump, line_verdict, edge_verdict}
use Rattle.carrying.specs.Insts.{Inst}
use Rattle.carrying.specs.Carried.{Mention, Piece}
use Rattle.carrying.specs.Checks.{inst_verdict, crossing_verdict, address_verdict, end_verdict}
use Rattle.areas.specs.Slots.{Assigned, Move, move_verdict, piece_verdict, assigned_verdict}
use Rattle.insts.specs.Inner.{bad_rows}
use Rattle.insts.specs.Counts.{rows_verdict, most_verdict, block_counts, offset, inst_counts, code_counts}
use Rattle.carry_checks.specs.Checks.{carry_counts}
use Rattle.codes.specs.Inner.{Fits}
use Rattle.codes.proofs.IndexLaws.{check_fits, first_fits, order_fits, none_fits, scan_fits}

-- of a list of checks
pub record AllFit (vs : List Verdict) : Type 0 where
  pub fits : Fits (in_order vs)

pub no_more : AllFit []
no_more = record { fits = none_fits }

pub next_fits : {v : Verdict} {vs : List Verdict} → Fits v → (v ≡ Fine → AllFit vs) → AllFit (v ∷ vs)
next_fits {v} {vs} a b = record { fits = order_fits v vs a (λ e. (b e).fits) }

pub order_fit : {vs : List Verdict} → AllFit vs → Fits (in_order vs)
order_fit a = a.fits

-- no group has more than 65,536 records
pub few_fits : (r : Refusal) (t : ℕ → Bool) (n : ℕ) → n ≤ 65536 → Fits (scan r t n)
few_fits r t n h = scan_fits r t n (omega arith)

-- ---- number 1

pub rows_fits : (w m n : ℕ) → Fits (rows_verdict w m n)
rows_fits w m n = check_fits Count (bad_rows w m n)

pub most_fits : (m n : ℕ) → Fits (most_verdict m n)
most_fits m n = check_fits Count (ltb m n)

pub blocks_fit : (blocks : List ℕ) → Fits (block_counts blocks)
blocks_fit blocks = first_fits _ _ (rows_fits block_width 4096 (length blocks)) (λ _. check_fits Count (ltb (block_count blocks) 1))

pub insts_fit : (insts operands : List ℕ) → Fits (inst_counts insts operands)
unfolding inst_counts
insts_fit insts operands =
    first_fits _ _ (rows_fits inst_width 65536 (length insts))
    (λ _. first_fits _ _ (rows_fits operand_width 262144 (length operands)) (λ _. check_fits Count (not (eqb (offset insts (inst_count insts)) (operand_count operands)))))

pub carry_counts_fit : (v : ℕ) (blocks insts operands crossings locals addresses ends : List ℕ) → Fits (carry_counts v blocks insts operands crossings locals addresses ends)
unfolding carry_counts code_counts
carry_counts_fit v blocks insts operands crossings locals addresses ends =
    first_fits _ _ (blocks_fit blocks)
    (λ _. first_fits _ _ (most_fits 65535 v)
    (λ _. first_fits _ _ (insts_fit insts operands)
    (λ _. first_fits _ _ (most_fits 65536 (length crossings))
    (λ _. first_fits _ _ (rows_fits local_width 2048 (length locals))
    (λ _. first_fits _ _ (rows_fits mention_width 65536 (length addresses))
    (λ _. rows_fits mention_width 65536 (length ends)))))))

-- ---- numbers 2 to 6, of a group of at most 65,536 records

pub line_fits : (bs : List Stretch) (points : ℕ) → length bs ≤ 65536 → Fits (line_verdict bs points)
line_fits bs points h = few_fits _ _ _ h

pub edge_fits : (bs : List Stretch) (js : List Jump) → length js ≤ 65536 → Fits (edge_verdict bs js)
edge_fits bs js h = few_fits _ _ _ h

pub inst_fits : (bs : List Stretch) (v : ℕ) (is : List Inst) → length is ≤ 65536 → Fits (inst_verdict bs v is)
inst_fits bs v is h = few_fits _ _ _ h

pub crossing_fits : (v : ℕ) (xs : List ℕ) → length xs ≤ 65536 → Fits (crossing_verdict v xs)
crossing_fits v xs h = few_fits _ _ _ h

pub address_fits : (is : List Inst) (ms : List Mention) → length ms ≤ 65536 → Fits (address_verdict is ms)
address_fits is ms h = few_fits _ _ _ h

pub end_fits : (is : List Inst) (ms : List Mention) → length ms ≤ 65536 → Fits (end_verdict is ms)
end_fits is ms h = few_fits _ _ _ h

pub move_fits : (bs : List Stretch) (is : List Inst) (ms : List Move) → length ms ≤ 65536 → Fits (move_verdict bs is ms)
move_fits bs is ms h = few_fits _ _ _ h

pub piece_fits : (bs : List Stretch) (v : ℕ) (ps : List Piece) → length ps ≤ 65536 → Fits (piece_verdict bs v ps)
piece_fits bs v ps h = few_fits _ _ _ h

pub assigned_fits : (v : ℕ) (l : List Assigned) → length l ≤ 65536 → Fits (assigned_verdict v l)
assigned_fits v l h = few_fits _ _ _ h

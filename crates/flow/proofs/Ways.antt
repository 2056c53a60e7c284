-- Both ways of following the edges.
use Prim.Native.Nat.{ℕ}
use mathlib.Core.Logic.{◌↔◌}
use mathlib.Core.Path.{◌≡◌}
use mathlib.Core.Bool.{Bool, true}
use mathlib.Core.List.{List}
use Rattle.graph.specs.Paths.{Edge, Between}
use Rattle.graph.specs.Flow.{Reaching}
use Rattle.graph.proofs.RoundLaws.{reached, reaching}
use Rattle.words.proofs.Bools.{both_ways}
use Rattle.flow_rows.proofs.Routes.{reached_turned}
use Rattle.flow.specs.declared.Over.{Over}
use Rattle.flow.specs.declared.Over.TheVariants.{Predecessors, Successors}
use Rattle.flow.specs.Entry.{FlowsTo, flows_row}
use Rattle.flow.specs.Inner.{way_of}

pub flows_as : (over : Over) (es : List Edge) (touched : ℕ → Bool) (k : ℕ) → Reaching (way_of over es) touched k ↔ FlowsTo over es touched k
flows_as Predecessors es touched k = reached_turned es touched k
flows_as Successors es touched k = ((λ r. r), (λ r. r))

by_rounds : (over : Over) (es : List Edge) (n : ℕ) → Between n es → (touched : ℕ → Bool) (k : ℕ) → (flows_row over n es touched k ≡ true) ↔ FlowsTo over es touched k
by_rounds Predecessors es n B touched k = reached es n B touched k
by_rounds Successors es n B touched k = reaching es n B touched k

-- a bit that is set by paths is the one by rounds
pub rows_as : (over : Over) (es : List Edge) (n : ℕ) → Between n es → (touched : ℕ → Bool) (k : ℕ) (t : Bool) → (t ≡ true) ↔ FlowsTo over es touched k → t ≡ flows_row over n es touched k
rows_as over es n B touched k t p =
    let r = by_rounds over es n B touched k in
    both_ways t (flows_row over n es touched k) (λ e. r.1 (p.0 e)) (λ e. p.1 (r.0 e))

-- Document 01, demand 3: the two runs as a machine that goes through the list from the left.
use Rattle.std.specs.Prelude.{ℕ, suc, ◌≡◌, ◌↔◌, ◌⊎◌, cond, ◌&&◌, List, [], ◌∷◌, ◌++◌, length, eqb}
use Rattle.std.proofs.Math.Option.{Option, some, none}
use Rattle.areas.specs.Blocks.{top}
use Rattle.soundness.specs.Walks.{Frame, Step, next, over, read, write, Position, emptied, moved, Kept, Unwritten}

pub record State : Type 0 where
  pub here : Position
  pub private : ℕ → ℕ → Option ℕ
  pub shared : ℕ → ℕ → Option ℕ

module _ (F : Frame) (cell : ℕ → ℕ) where
  abbrev pub gone : Position → State → State
  gone p s = record {
    here = p;
    private = λ i b. cond (emptied (F.access i) (F.area i) s.here.point p.point) none (s.private i b);
    shared = s.shared;
  }

  -- the step that stands at place n of the list
  abbrev pub perform : ℕ → Step → State → State
  perform n next s = gone (moved F.graph (some next) s.here) s
  perform n (over e) s = gone (moved F.graph (some (over e)) s.here) s
  perform n (read i b) s = s
  perform n (write j d) s = record {
    here = s.here;
    private = λ i b. cond (eqb j i && eqb d b) (some n) (s.private i b);
    shared = λ c b. cond (eqb (cell j) c && eqb d b) (some n) (s.shared c b);
  }

  unfoldable pub run : ℕ → List Step → State → State
  run n [] s = s
  run n (t ∷ w) s = run (suc n) w (perform n t s)

  abbrev pub begin : ℕ → State
  begin first = record { here = record { place = first; point = top F.graph first }; private = λ i b. none; shared = λ c b. none }

  -- the claim of the machine: at every read of the list, after the run of what stands before it
  abbrev pub RunsAlike : ℕ → List Step → Type 0
  RunsAlike first w =
      (pre post : List Step) (i b : ℕ) → w ≡ pre ++ read i b ∷ post
      → ((run 0 pre (begin first)).private i b ≡ (run 0 pre (begin first)).shared (cell i) b)
      ↔ (Kept F first w (length pre) i b ⊎ Unwritten F first w cell (length pre) (cell i) b)

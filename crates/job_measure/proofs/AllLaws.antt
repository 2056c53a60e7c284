-- Local after local of a job: what one leaves is what the next one asks.
use Prim.Native.Nat.{ℕ, ◌+◌, ◌*◌, ◌≤◌, ◌<◌}
use native.Mathlib.Omega.{arith}
use mathlib.Core.Path.{◌≡◌, refl, ◌∙◌}
use mathlib.Core.Bool.{false}
use mathlib.Core.List.{List}
use Rattle.bits.specs.Bits.{bit}
use Rattle.reach.specs.declared.Lay.{Lay}
use Rattle.follow.specs.declared.Sizes.{Sizes}
use Rattle.area_flow.specs.declared.Grid.{Grid}
use Rattle.area_measure.specs.declared.Listing.{Listing}
use Rattle.area_measure.specs.Inner.Locals.{word_of}
use Rattle.area_measure.proofs.ListLaws.{listed_none}
use Rattle.job_spots.specs.declared.Places.{Places}
use Rattle.job_spots.proofs.FetchLaws.{prepared_stays}
use Rattle.job_measure.specs.Inner.{most_in, Ready, Spared, Next, ListedTo, MeasuredLocals}
use Rattle.job_measure.proofs.StepLaws.{rows_kept, ready_kept}

module _ (blocks insts addresses ends pieces : List ℕ) (lay : Lay) (p : Places) (z : Sizes) (g : Grid) (mark : ℕ) (o : Listing) where
  -- the first l locals are measured
  pub record Going (w₀ w : List ℕ) (l total : ℕ) : Type 0 where
    pub l_le : l ≤ z.locals
    pub begun : Ready blocks insts addresses ends pieces lay p z g mark o w₀
    pub spared : Spared blocks addresses ends pieces lay p g mark o w₀ w
    pub unmarked : (c : ℕ) → c < g.width * 64 → bit w mark c ≡ false
    pub most : total ≤ l * most_in blocks addresses pieces
    pub listed : ListedTo blocks insts addresses ends pieces lay z g o l w₀ w total

  pub going_start : (w : List ℕ) → Ready blocks insts addresses ends pieces lay p z g mark o w → Going w w 0 0
  going_start w R = record {
    l_le = omega arith;
    begun = R;
    spared = record { len = refl; below = λ i b. refl; tables = λ i a b. refl; chains = λ i a b. refl; rows = λ i a b. refl; past = λ i a. refl };
    unmarked = R.unmarked;
    most = omega arith;
    listed = record { is = λ operands crossings P es Q A e. listed_none word_of o A w };
  }

  module _ {w₀ w : List ℕ} {l total : ℕ} (G : Going w₀ w l total) where
    pub going_ready : Ready blocks insts addresses ends pieces lay p z g mark o w
    going_ready = ready_kept blocks insts addresses ends pieces lay p z g mark o G.begun G.spared G.unmarked

    pub going_more : {w' : List ℕ} {r : ℕ} → l < z.locals → Next blocks insts addresses ends pieces lay p z g mark o l total w w' r → Going w₀ w' (l + 1) r
    going_more {w'} {r} h N =
        let S = G.spared in
        let T = N.spared in
        record {
          l_le = omega arith;
          begun = G.begun;
          spared = record {
            len = T.len ∙ S.len;
            below = λ i b. T.below i b ∙ S.below i b;
            tables = λ i a b. T.tables i a b ∙ S.tables i a b;
            chains = λ i a b. T.chains i a b ∙ S.chains i a b;
            rows = λ i a b. T.rows i a b ∙ S.rows i a b;
            past = λ i a. T.past i a ∙ S.past i a;
          };
          unmarked = N.unmarked;
          most = let x : (l + 1) * most_in blocks addresses pieces ≡ l * most_in blocks addresses pieces + most_in blocks addresses pieces = omega arith in omega (arith, N.most, G.most);
          listed = record {
            is = λ operands crossings P es Q A e.
                N.listed operands crossings (prepared_stays G.begun.spots (record { len = S.len; same = S.tables }) operands crossings P) es
                (rows_kept blocks insts addresses ends pieces lay p z g mark o w G.begun.laid S.rows _ es l h (Q l h)) A (e l h) (G.listed.is operands crossings P es Q A e);
          };
        }

    pub going_done : z.locals ≤ l → MeasuredLocals blocks insts addresses ends pieces lay p z g mark o w₀ w total
    going_done h =
        let e : l ≡ z.locals = omega (arith, G.l_le) in
        record { spared = G.spared; most = rw e at G.most; listed = rw e at G.listed }

-- Laws of a pass over the locals: the first l are marked.
use Prim.Native.Nat.{ℕ, ◌+◌, ◌*◌, ◌≤◌, ◌<◌}
use native.Mathlib.Omega.{arith}
use mathlib.Core.Path.{◌≡◌, sym, ap, ◌∙◌, subst}
use mathlib.Core.Bool.{Bool, true, false, not, ◌&&◌, ◌||◌, or-false, and-true}
use mathlib.Core.List.{List}
use lib.ListN.{get_or}
use Rattle.words.specs.Widths.{block_count}
use Rattle.words.proofs.Points.{same}
use Rattle.bits.specs.Bits.{bit}
use Rattle.ranges.specs.declared.Range.{Range}
use Rattle.graph.specs.Paths.{Edge}
use Rattle.graph.specs.Inner.Work.{Within}
use Rattle.graph.proofs.Within.{within_refl, within_trans, within_wider}
use Rattle.carrying.specs.declared.Kind.{Kind}
use Rattle.areas.specs.Blocks.{Graph, touched, leaves, passes}
use Rattle.spots.specs.Spots.{line_of}
use Rattle.area_rows.proofs.ColumnLaws.{Columns}
use Rattle.area_flow.specs.declared.Grid.{Grid}
use Rattle.area_flow.specs.Inner.{Unmarked}
use Rattle.local_spots.specs.declared.Places.{Places}
use Rattle.local_spots.specs.Locals.{kind_for, touches_for, ends_for}
use Rattle.local_spots.proofs.ChainLaws.{chains_kept}
use Rattle.local_marks.specs.Inner.{is_plain, is_ending, Ready, Marks, MarkedAll, Bits, Marking, MarkedOne}

-- a change behind the chains
pub ready_kept : {p : Places} {g : Grid} {blocks touches ends w w' : List ℕ} {hi : ℕ} → Ready p g blocks touches ends w → Within p.at hi w w' → Ready p g blocks touches ends w'
ready_kept {p} {w' = w'} R K =
    let a = R.laid.ends_fit in let b = R.passes_fit in let k = K.len in let n = R.laid.nexts_fit in
    record {
      line = R.line;
      in_line = R.in_line;
      laid = record { heads_fit = R.laid.heads_fit; nexts_fit = R.laid.nexts_fit; at_fits = R.laid.at_fits; ends_fit = omega arith };
      chains = chains_kept R.laid.heads_fit (λ i x y. K.below i (omega arith)) R.chains;
      counted = R.counted;
      long = R.long;
      apart = R.apart;
      touched_fits = R.touched_fits;
      leaves_fit = R.leaves_fit;
      passes_fit = omega arith;
    }

-- local i's bits become f's
columns_next : {g : Grid} {from n i : ℕ} {v : Bool} {f : ℕ → ℕ → Bool} {h : ℕ → Bool} {w w' : List ℕ} → Columns n from g.words v f i w → Bits g from n i h w w' → ((k : ℕ) → k < n → h k ≡ f i k) → Columns n from g.words v f (i + 1) w'
columns_next {g} {from} {n} {i} {v} {f} {h} {w} {w'} C B e = record {
  first = λ l k a m q. same l i
      (λ z. subst (λ (x : ℕ). bit w' (from + k * g.words) x ≡ f x k) (sym z) (B.column k q ∙ e k q))
      (λ d. B.others k l q m d ∙ C.first l k (omega arith) m q);
  rest = λ l k a m q. B.others k l q m (λ z. absurd (omega arith)) ∙ C.rest l k (omega arith) m q;
}

-- the marks of the first l locals
pub record MarkedTo (G : Graph) (K : ℕ → Kind) (T : ℕ → List Range) (E : ℕ → List ℕ) (g : Grid) (n l : ℕ) (w : List ℕ) : Type 0 where
  pub touched_columns : Columns n g.touched g.words false (λ m k. is_plain (K m) && touched G (T m) k) l w
  pub leaves_columns : Columns n g.leaves g.words false (λ m k. is_ending (K m) && leaves G (T m) (E m) k) l w
  pub passes_columns : Columns n g.passes g.words true (λ m k. not (is_ending (K m)) || passes G (E m) k) l w

module _ {G : Graph} {K : ℕ → Kind} {T : ℕ → List Range} {E : ℕ → List ℕ} {g : Grid} {n : ℕ} where
  pub marked_start : {w₀ w : List ℕ} → Unmarked g n w₀ w → MarkedTo G K T E g n 0 w
  marked_start U = record {
    touched_columns = record { first = λ l k a m q. absurd (omega arith); rest = λ l k a m q. U.touched k l q m };
    leaves_columns = record { first = λ l k a m q. absurd (omega arith); rest = λ l k a m q. U.leaves k l q m };
    passes_columns = record { first = λ l k a m q. absurd (omega arith); rest = λ l k a m q. U.passes k l q m };
  }

  pub marked_next : {l : ℕ} {w w' : List ℕ} → MarkedTo G K T E g n l w → l < g.words * 64
      → Marking g n l (is_plain (K l)) (is_ending (K l)) (touched G (T l)) (leaves G (T l) (E l)) (passes G (E l)) w w' → MarkedTo G K T E g n (l + 1) w'
  marked_next {l} D m M = record {
    touched_columns = columns_next D.touched_columns M.touches_bits (λ k q. ap (λ (x : Bool). is_plain (K l) && touched G (T l) k || x) (D.touched_columns.rest l k (omega arith) m q) ∙ or-false _);
    leaves_columns = columns_next D.leaves_columns M.leaves_bits (λ k q. ap (λ (x : Bool). is_ending (K l) && leaves G (T l) (E l) k || x) (D.leaves_columns.rest l k (omega arith) m q) ∙ or-false _);
    passes_columns = columns_next D.passes_columns M.passes_bits (λ k q. ap (λ (x : Bool). (not (is_ending (K l)) || passes G (E l) k) && x) (D.passes_columns.rest l k (omega arith) m q) ∙ and-true _);
  }

  pub marked_done : {l : ℕ} {w : List ℕ} → MarkedTo G K T E g n l w → l ≡ g.locals → g.locals ≤ g.words * 64 → Marks G K T E g n w
  marked_done D e a = record {
    touched = λ m k x y. D.touched_columns.first m k (omega arith) (omega arith) y;
    leaves = λ m k x y. D.leaves_columns.first m k (omega arith) (omega arith) y;
    passes = λ m k x y. D.passes_columns.first m k (omega arith) (omega arith) y;
    quiet = record {
      touched = λ k m y x z. D.touched_columns.rest m k (omega arith) z y;
      leaves = λ k m y x z. D.leaves_columns.rest m k (omega arith) z y;
    };
  }

-- ---- of touches lent by themselves

pub record Sweep (p : Places) (g : Grid) (blocks kinds touches ends w₀ w : List ℕ) (l : ℕ) : Type 0 where
  pub ready : Ready p g blocks touches ends w
  pub kept : Within p.at (g.passes + block_count blocks * g.words) w₀ w
  pub l_le : l ≤ p.locals
  pub so_far_lem : (es : List Edge) → MarkedTo (line_of blocks es) (kind_for kinds) (touches_for touches) (ends_for ends) g (block_count blocks) l w

pub cleared_kept : {p : Places} {g : Grid} {blocks touches ends w₀ w : List ℕ} → Ready p g blocks touches ends w₀ → Unmarked g (block_count blocks) w₀ w → Within p.at (g.passes + block_count blocks * g.words) w₀ w
cleared_kept {p} {g} {blocks} R U = let a = R.apart in let b = R.laid.at_fits in within_wider p.at (g.passes + block_count blocks * g.words) (omega arith) (omega arith) U.kept

pub sweep_start : (p : Places) (g : Grid) (blocks kinds touches ends : List ℕ) {w₀ w : List ℕ} → Ready p g blocks touches ends w₀ → Unmarked g (block_count blocks) w₀ w → Sweep p g blocks kinds touches ends w w 0
sweep_start p g blocks kinds touches ends {w₀} {w} R U = record {
  ready = ready_kept R (cleared_kept R U);
  kept = within_refl _ _ w;
  l_le = omega arith;
  so_far_lem = λ es. marked_start U;
}

module _ {p : Places} {g : Grid} {blocks kinds touches ends w₀ w : List ℕ} {l : ℕ} (d : Sweep p g blocks kinds touches ends w₀ w l) (h : l < p.locals) {w' : List ℕ}
    (K : Within p.at (g.passes + block_count blocks * g.words) w w') (O : (es : List Edge) → MarkedOne (line_of blocks es) (get_or kinds l 0) touches ends g (block_count blocks) l w w') where
  pub sweep_more : Sweep p g blocks kinds touches ends w₀ w' (l + 1)
  sweep_more = record {
    ready = ready_kept d.ready K;
    kept = within_trans d.kept K;
    l_le = omega arith;
    so_far_lem = λ es. marked_next (d.so_far_lem es) (let a = d.ready.long in let b = d.ready.counted in omega arith) (O es);
  }

pub sweep_done : {p : Places} {g : Grid} {blocks kinds touches ends v w₀ w : List ℕ} {l : ℕ} → Sweep p g blocks kinds touches ends w₀ w l → p.locals ≤ l → Within p.at (g.passes + block_count blocks * g.words) v w₀
    → (es : List Edge) → MarkedAll (line_of blocks es) kinds touches ends p g (block_count blocks) v w
sweep_done d h C es =
    let b = d.ready.counted in let c = d.l_le in
    record {
      kept = within_trans C d.kept;
      marks = marked_done (d.so_far_lem es) (omega arith) d.ready.long;
    }

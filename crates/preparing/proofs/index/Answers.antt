-- `preparing::index` meets its contract: sorted, then indexed.
use native.Mathlib.Omega.{arith}
use Prim.Native.Nat.{◌+◌}
use Rattle.preparing.proofs.StepLaws.{index_rising, index_done}
use Rattle.preparing.proofs.index.Goals as goal

pub firsts-requires : goal.firsts-requires
firsts-requires c =
    record {
      m_bound = omega (arith, c.sort_part.ensures.len);
      rising = ((
        index_rising c.args.lay c.args.m c.args.n _ _ (omega arith) (omega arith) c.sort_part.ensures,
        λ i h. let z = c.sort_part.ensures.before (c.args.lay.defs + i) (omega arith) in
            let q = c.requires.by_index i h in
            omega arith,
      ));
    }

pub returns : goal.returns
returns c =
    index_done c.args.lay c.args.m c.args.n _ _ (omega arith) (omega arith) c.sort_part.ensures (omega arith)
    c.firsts.ensures

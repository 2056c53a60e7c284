-- `words::search::gallop` meets its contract: up to half the bound every item passes, and from the bound on none.
use mathlib.Core.Bool.{true, false}
use mathlib.Core.Path.{◌≡◌, refl, sym, ◌∙◌, subst}
use Prim.Native.Nat.{◌/◌}
use lib.ListN.{length}
use Rattle.std.proofs.Common.{of_calls}
use native.Mathlib.Omega.{arith}
use native.Mathlib.Nat.{min-eq_left, min-eq_right}
use Rattle.std.proofs.lemmas.Fn.{called}
use Rattle.std.specs.Fn.{ComputesKey}
use Rattle.std.specs.List.{AllWithin}
use Rattle.words.proofs.GallopLaws.{answers_next, at_read, doubled, failing, counted_on}
use Rattle.words.proofs.search.gallop.Goals.{then-loop-bound-test+else-passes, else-loop-bound-test}
use Rattle.words.proofs.search.gallop.Goals as goal

pub loop-bound-init : goal.loop-bound-init
loop-bound-init g c = (omega arith, omega arith, search of_calls, λ p h. (h, λ _ k d a b. absurd (omega arith)))

pub loop-bound-preserved : goal.loop-bound-preserved
loop-bound-preserved g c = (
  omega arith,
  omega arith,
  search of_calls,
  λ p h.
      let n = answers_next g.P.FnMut _ _ _ _ _ (called g.P.FnMut c.if-passes.ensures refl) (c.loop-bound.invariant.3 p h).0 in
      (n.1, doubled p c.args.list.now c.loop-bound.bound c.loop-bound-test.true (at_read c.args.list.now (λ y. p y ≡ true) _ c.index-list-bound.result c.loop-bound-test.true c.index-list-bound.is (sym n.0))),
)

pub returns-clause-partitioned : goal.returns-clause-partitioned
returns-clause-partitioned g c =
    λ p h parted.
    let xs = c.args.list.now in
    let before = c.loop-bound.invariant.3 p h in
    let found : ComputesKey g.P.FnMut p c.loop-bound-test.passes × AllWithin (λ y. p y ≡ false) xs c.min-high.result (length xs) =
    elim c.loop-bound-test.branch [
      | then-loop-bound-test+else-passes w ↦
          let n = answers_next g.P.FnMut _ _ _ _ _ (called g.P.FnMut w.if-passes.ensures refl) before.0 in
          let e : c.min-high.result ≡ c.loop-bound.bound = c.min-high.ensures ∙ min-eq_left (omega (arith, w.loop-bound-test.true)) in (
            subst (ComputesKey g.P.FnMut p) (sym w.passes-is) n.1,
            λ k d a b. failing p xs c.loop-bound.bound (at_read xs (λ y. p y ≡ false) _ w.index-list-bound.result w.loop-bound-test.true w.index-list-bound.is (sym n.0)) parted k d (omega arith) b,
          )
      | else-loop-bound-test w ↦
          let e : c.min-high.result ≡ length xs = c.min-high.ensures ∙ min-eq_right w.loop-bound-test.false in
          (subst (ComputesKey g.P.FnMut p) (sym w.passes-is) before.0, λ k d a b. absurd (omega arith))
    ] in
    counted_on p xs (c.loop-bound.bound / 2) c.min-high.result c.partition_point.result (omega (arith, c.loop-bound.invariant.1, c.min-high.ensures)) (omega (arith, c.min-high.ensures)) c.partition_point.ensures.bound (c.partition_point.ensures.partitioned p found.0) parted (before.1 parted) found.1

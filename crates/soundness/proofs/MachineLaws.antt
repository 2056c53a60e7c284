-- The machine's marks are those of the list, so that the claim of the one is the claim of the other.
use Prim.Native.Nat.{ℕ, suc}
use native.Mathlib.Omega.{arith}
use mathlib.Core.Path.{◌≡◌, refl, sym, ◌∙◌}
use mathlib.Core.Bool.{true, false}
use mathlib.Core.Option.{some}
use mathlib.Core.List.{List, [], ◌∷◌, ◌++◌, append-nil}
use lib.ListN.{length, get_elem?, length-append}
use lib.Seq.{append_snoc}
use Rattle.soundness.specs.Walks.{Frame, Step, next, over, read, write, mark, emptied, goes, wrote, empties, moved, at, private, shared, Alike}
use Rattle.soundness.specs.Machine.{State, gone, perform, run, begin, RunsAlike}

module _ (F : Frame) (cell : ℕ → ℕ) where
  module _ (first : ℕ) (w : List Step) where
    record Agrees (n : ℕ) (σ : State) : Type 0 where
      place_is : σ.here ≡ at F first w n
      own : (i b : ℕ) → σ.private i b ≡ private F first w n i b
      lent : (c b : ℕ) → σ.shared c b ≡ shared F first w cell n c b

    same_begin : Agrees 0 (begin F cell first)
    unfolding at mark
    same_begin = record { place_is = refl; own = λ i b. refl; lent = λ c b. refl }

    at_next : (n : ℕ) (s : Step) → get_elem? w n ≡ some s → at F first w (suc n) ≡ moved F.graph (some s) (at F first w n)
    unfolding at
    at_next n s e = rw e

    empt : (n i : ℕ) (s : Step) (σ : State) → get_elem? w n ≡ some s → goes (some s) ≡ true → σ.here ≡ at F first w n
        → emptied (F.access i) (F.area i) σ.here.point (moved F.graph (some s) σ.here).point ≡ empties F first w i n
    empt n i s σ e g h =
        let t : goes (get_elem? w n) ≡ true = rw (e, g) in
        rw (t, h, ← at_next n s e)

    same_go : (n : ℕ) (s : Step) (σ : State) → get_elem? w n ≡ some s → goes (some s) ≡ true
        → ((unit : ℕ → ℕ) (c b : ℕ) → wrote unit (some s) c b ≡ false)
        → Agrees n σ → Agrees (suc n) (gone F cell (moved F.graph (some s) σ.here) σ)
    unfolding mark
    same_go n s σ e g f h = record {
      place_is = rw (at_next n s e, h.place_is);
      own = λ i b.
          let t : wrote (λ j. j) (get_elem? w n) i b ≡ false = rw (e, f (λ j. j) i b) in
          rw (t, empt n i s σ e g h.place_is, h.own i b);
      lent = λ c b.
          let t : wrote cell (get_elem? w n) c b ≡ false = rw (e, f cell c b) in
          rw (t, h.lent c b);
    }

    same_step : (n : ℕ) (s : Step) (σ : State) → get_elem? w n ≡ some s → Agrees n σ → Agrees (suc n) (perform F cell n s σ)
    unfolding mark
    same_step n next σ e h = same_go n next σ e refl (λ u c b. refl) h
    same_step n (over k) σ e h = same_go n (over k) σ e refl (λ u c b. refl) h
    same_step n (read j d) σ e h = record {
      place_is = rw (at_next n (read j d) e, h.place_is);
      own = λ i b. rw (e, h.own i b);
      lent = λ c b. rw (e, h.lent c b);
    }
    same_step n (write j d) σ e h = record {
      place_is = rw (at_next n (write j d) e, h.place_is);
      own = λ i b. rw (e, h.own i b);
      lent = λ c b. rw (e, h.lent c b);
    }

    seam : (pre : List Step) (s : Step) (post : List Step) → get_elem? (pre ++ s ∷ post) (length pre) ≡ some s
    seam [] s post = refl
    seam (t ∷ pre) s post = seam pre s post

    same_run : (mid pre post : List Step) (σ : State) → w ≡ pre ++ (mid ++ post) → Agrees (length pre) σ
        → Agrees (length (pre ++ mid)) (run F cell (length pre) mid σ)
    unfolding run
    same_run [] pre post σ e h = rw append-nil h
    same_run (s ∷ mid) pre post σ e h =
        let z : length (pre ++ (s ∷ [])) ≡ suc (length pre) = simp length-append (omega arith) in
        let k : get_elem? w (length pre) ≡ some s = rw e (seam pre s (mid ++ post)) in
        let r : Agrees (length (pre ++ (s ∷ []) ++ mid)) (run F cell (length (pre ++ (s ∷ []))) mid (perform F cell (length pre) s σ)) =
        same_run mid (pre ++ (s ∷ [])) post (perform F cell (length pre) s σ) (e ∙ sym (append_snoc pre s (mid ++ post)))
        (rw z (same_step (length pre) s σ k h)) in
        rw (append_snoc, z) at r

-- the claim of the machine follows from the claim of the list
pub runs_alike : (F : Frame) (cell : ℕ → ℕ) (first : ℕ) (w : List Step) → Alike F first w cell → RunsAlike F cell first w
runs_alike F cell first w A pre post i b e =
    let k : get_elem? w (length pre) ≡ some (read i b) = rw e (seam F cell first w pre (read i b) post) in
    let h = same_run F cell first w pre [] (read i b ∷ post) (begin F cell first) e (same_begin F cell first w) in
    rw (h.own i b, h.lent (cell i) b) (A (length pre) i b k)

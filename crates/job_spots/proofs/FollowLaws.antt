-- A local that was followed: its registers in the queue and its rows give the touches and ends of document 01.
use Prim.Native.Nat.{ℕ, ◌+◌, ◌*◌, ◌^◌, ◌≤◌, ◌<◌}
use native.Mathlib.Omega.{arith}
use mathlib.Core.Path.{◌≡◌, sym, subst, ◌∙◌}
use mathlib.Core.Logic.{◌⊎◌, ◌≢◌}
use mathlib.Core.Bool.{Bool, true}
use mathlib.Core.List.{List, Memᴰ}
use lib.ListN.{length, get_or}
use Rattle.words.specs.Rows.{tabulate}
use Rattle.words.specs.Inner.{part}
use Rattle.words.specs.Sort.{sort_of, Distinct}
use Rattle.words.specs.Widths.{inst_count, mention_width, address_count, end_count}
use Rattle.words.proofs.RowLaws.{length_tabulate, get_d_tabulate}
use Rattle.words.proofs.RegionLaws.{length_part, get_d_part, part_is}
use Rattle.sorting.proofs.RankLaws.{distinct_tabulate}
use Rattle.ranges.specs.Inner.{unpacked}
use Rattle.ranges.specs.Merged.{Permuted}
use Rattle.graph.proofs.Line.{mem_at, at_mem}
use Rattle.carrying.specs.declared.Kind.TheVariants.{Unfollowed}
use Rattle.carrying.specs.Carried.{Code, Carries, pieces_of, touches_of, ends_of}
use Rattle.areas.proofs.PermuteLaws.{perm_is}
use Rattle.reach.specs.declared.Lay.{Lay}
use Rattle.reach.specs.Prepared.{code_of}
use Rattle.follow.specs.declared.Sizes.{Sizes}
use Rattle.follow.specs.declared.Followed.{Followed}
use Rattle.queue.specs.Inner.{queued}
use Rattle.follow.specs.Inner.{FollowedTo}
use Rattle.touches.proofs.TouchLaws.{touches_permuted, ends_sorted}
use Rattle.job_spots.specs.Inner.{TouchesIn, EndsIn}

module _ (lay : Lay) (w : List ℕ) (n : ℕ) (fits : lay.queue + n ≤ length w) where
  abbrev registers : List ℕ
  registers = part lay.queue n w

  long : length registers ≡ n
  long = length_part lay.queue n w fits

  listed : registers ≡ tabulate n (queued lay w)
  listed = part_is lay.queue n w (tabulate n (queued lay w)) fits (length_tabulate n (queued lay w)) (λ i h. sym (get_d_tabulate n (queued lay w) i 0 h))

  pub once : ((j k : ℕ) → j < k → k < n → queued lay w j ≢ queued lay w k) → Distinct registers
  once d = subst Distinct (sym listed) (distinct_tabulate n (queued lay w) d)

  pub in_queue : {r : ℕ} → Memᴰ r registers → (k : ℕ) × (k < n) × (queued lay w k ≡ r)
  in_queue {r} m =
      let (k, h, e) = at_mem registers r 0 m in
      let q : k < n = omega (arith, h, long) in
      (k, q, sym (get_d_part lay.queue n w k q) ∙ e)

  pub of_queue : (k : ℕ) → k < n → Memᴰ (queued lay w k) registers
  of_queue k h = subst (λ (r : ℕ). Memᴰ r registers) (get_d_part lay.queue n w k h) (mem_at registers k 0 (omega (arith, long)))

module _ (v : ℕ) (insts operands crossings addresses ends pieces : List ℕ) (lay : Lay) (z : Sizes) (l : ℕ) where
  abbrev code : Code
  code = code_of v insts operands crossings addresses ends

  -- the touches of a local that was followed, in another order
  pub touches_are : (whole : Bool) {w w' : List ℕ} {r : Followed} {to n : ℕ} → FollowedTo code lay z l whole w r → (whole ≡ true) ⊎ (r.kind ≢ Unfollowed) → lay.queue + r.count ≤ length w
      → ((a : ℕ) → a < address_count addresses → get_or addresses (mention_width * a) 0 < inst_count insts) → ((y : ℕ) → get_or insts y 0 < 2 ^ 32)
      → TouchesIn insts addresses pieces lay.queue r.count l to w w' n → Permuted (unpacked (part to n w')) (touches_of code (pieces_of pieces) l)
  touches_are whole {w} {w'} {r} {to} {n} F known fits found small T =
      Permuted.then (perm_is T.is)
      (touches_permuted v insts operands crossings addresses ends l found small pieces (part lay.queue r.count w) (once lay w r.count fits F.once)
      (λ q m. let (k, h, e) = in_queue lay w r.count fits m in subst (Carries code l) e (F.only k h))
      (λ q c. let (k, h, e) = F.all known q c in subst (λ (x : ℕ). Memᴰ x (part lay.queue r.count w)) e (of_queue lay w r.count fits k h)))

  -- its ends, rising
  pub ends_are : {w₀ w : List ℕ} {to n : ℕ} → ((k : ℕ) → k < end_count ends → get_or ends (mention_width * k) 0 < inst_count insts) → EndsIn insts ends l to w₀ w n → part to n w ≡ sort_of (ends_of code l)
  ends_are found E = E.is ∙ ends_sorted v insts operands crossings addresses ends l found

-- One local's touches, of registers and then of entries; its ends, sorted.
use Prim.Native.Nat.{ℕ, ◌+◌, ◌≤◌}
use native.Mathlib.Omega.{arith}
use mathlib.Core.Path.{◌≡◌, refl, sym, ap, ◌∙◌}
use mathlib.Core.List.{List, ◌++◌}
use lib.ListN.{length, get_or}
use Rattle.words.specs.Inner.{Region, part}
use Rattle.words.specs.Sort.{sort_of}
use Rattle.words.specs.Widths.{address_count, end_count, piece_count}
use Rattle.words.proofs.RegionLaws.{part_is, length_part, get_d_part}
use Rattle.words.proofs.SortLaws.{length_sort, sorted_rising}
use Rattle.ranges.specs.declared.Range.{Range}
use Rattle.ranges.specs.Inner.{unpack, unpacked}
use Rattle.ranges.proofs.FormLaws.{map_append}
use Rattle.graph.proofs.Within.{within_trans, within_wider, region_within}
use Rattle.carrying.specs.Lists.{gather}
use Rattle.carrying.specs.Carried.{pieces_of, live_pieces}
use Rattle.touches.specs.Inner.{entry_at, end_at, Linked, Gathered, Listed}
use Rattle.touches.proofs.RegisterLaws.{part_two}
use Rattle.job_spots.specs.Inner.{TouchesIn, EndsIn}

module _ (insts addresses pieces : List ℕ) (from count heads nexts l to : ℕ) {w₀ w₁ : List ℕ} {n : ℕ} (L : Linked insts addresses heads nexts l to w₀) (room : to + piece_count pieces + address_count addresses ≤ length w₀) (G : Gathered pieces from count to w₀ w₁ n) where
  -- the entries' chain stands as before
  pub still_linked : Linked insts addresses heads nexts l (to + n) w₁
  still_linked = record {
    found = L.found;
    head_fits = omega (arith, L.head_fits);
    nexts_fit = omega (arith, L.nexts_fit);
    room = omega (arith, room, G.count_le, G.kept.len);
    head = G.kept.below (heads + l) L.head_fits ∙ L.head;
    next = λ a h m. G.kept.below (nexts + a) (omega (arith, L.nexts_fit, h)) ∙ L.next a h m;
  }

  pub both : {w : List ℕ} {m : ℕ} → Listed addresses (entry_at insts addresses) l (to + n) w₁ w m → TouchesIn insts addresses pieces from count l to w₀ w (n + m)
  both {w} {m} E = record {
    kept = within_trans (within_wider to (to + (n + m)) (omega arith) (omega arith) G.kept) (within_wider to (to + (n + m)) (omega arith) (omega arith) E.kept);
    count_le = omega (arith, G.count_le, E.count_le);
    is = ap unpacked (part_two w to n m fits) ∙ map_append unpack (part to n w) (part (to + n) m w)
        ∙ ap (λ (k : List Range). k ++ unpacked (part (to + n) m w)) (ap unpacked front ∙ G.is)
        ∙ ap (λ (k : List Range). gather (live_pieces (pieces_of pieces)) (part from count w₀) ++ k) (ap unpacked E.is);
  }
    where
      fits : to + (n + m) ≤ length w
      fits = omega (arith, room, G.count_le, E.count_le, E.kept.len, G.kept.len)

      front : part to n w ≡ part to n w₁
      front = part_is to n w (part to n w₁) (omega (arith, fits)) (length_part to n w₁ (omega (arith, fits, E.kept.len)))
          (λ i h. E.kept.below (to + i) (omega arith) ∙ sym (get_d_part to n w₁ i h))

module _ (insts ends : List ℕ) (l to : ℕ) {w₀ w₁ w : List ℕ} {n : ℕ} (E : Listed ends (end_at insts ends) l to w₀ w₁ n) (room : to + end_count ends ≤ length w₀)
    (S : Region w₁ w to n (λ i. get_or (sort_of (part to n w₁)) i 0)) where
  pub sorted : EndsIn insts ends l to w₀ w n
  sorted = record {
    kept = within_trans E.kept (region_within S);
    count_le = E.count_le;
    is = part_is to n w (sort_of (part to n w₁)) (omega (arith, fits, S.len)) long (λ i h. S.inside (to + i) i refl h) ∙ ap sort_of E.is;
    rising = sorted_rising (part to n w₁) w to n (omega (arith, length_part to n w₁ fits)) (λ i h. S.inside (to + i) i refl h);
  }
    where
      fits : to + n ≤ length w₁
      fits = omega (arith, E.count_le, room, E.kept.len)

      long : length (sort_of (part to n w₁)) ≡ n
      long = length_sort (part to n w₁) ∙ length_part to n w₁ fits

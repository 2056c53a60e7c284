-- After an item has entered a cell the tables can be read, with one place more.
use Prim.Native.Nat.{ℕ, ◌+◌, ◌≤◌, ◌<◌}
use native.Mathlib.Omega.{arith}
use mathlib.Core.Path.{◌≡◌, refl, sym, ◌∙◌}
use mathlib.Core.Logic.{◌⊎◌, inl, inr}
use mathlib.Core.List.{List}
use lib.ListN.{length, get_or}
use Rattle.words.proofs.Points.{same as same_or}
use Rattle.fit_tables.specs.Inner.{behind, Lent, Falls, next_at, list_at, Listed, Linked, entered_in, Ready, Topped}
use Rattle.fit_cells.proofs.EnterLaws.{entered_length, entered_rest, next_same, next_other, list_same, list_other}
use Rattle.fit_tables.proofs.TableLaws.{lent_kept}
use Rattle.fit_tables.proofs.ListLaws.{proper_listed, Same, list_kept}
use Rattle.fit_tables.specs.declared.Tables.{Tables}
use Rattle.fit_tables.specs.declared.Progress.{Progress}

module _ {w : List ℕ} {t : Tables} {top k : ℕ} (l : Linked w t top k) (i c link word area : ℕ) (area_is : area ≡ get_or w (t.items + i) 0)
    (k_lt : k < t.n) (i_lt : i < t.n) (c_lt : c < t.n) (link-le : link ≤ k) where
  room : behind t ≤ length w
  room = omega (arith, l.low, l.top_le)

  pub entered_same : Same w (entered_in w t k i c link word area) t top
  entered_same = record {
    len = entered_length w t k i c link word area room k_lt i_lt c_lt;
    low = omega (arith, l.low);
    high = l.top_le;
    word = words;
  }
    where
      words : (x : ℕ) → (x < t.items) ⊎ ((behind t ≤ x) × (x < top)) → get_or (entered_in w t k i c link word area) x 0 ≡ get_or w x 0
      words x (inl h) = entered_rest w t k i c link word area room k_lt i_lt c_lt x (inl (omega arith))
      words x (inr h) = entered_rest w t k i c link word area room k_lt i_lt c_lt x (inr h.0)

  -- the item's word is its list's
  pub item_same : get_or (entered_in w t k i c link word area) (t.items + i) 0 ≡ area
  item_same = entered_rest w t k i c link word area room k_lt i_lt c_lt (t.items + i) (inl (omega (arith, i_lt))) ∙ sym area_is

  lent' : Lent (entered_in w t k i c link word area) t
  lent' =
      lent_kept l.lent (entered_in w t k i c link word area) entered_same.len
      (λ x h. entered_rest w t k i c link word area room k_lt i_lt c_lt x (inl (omega arith)))

  list_new : 0 < area → Listed (entered_in w t k i c link word area) t top area
  list_new h =
      let q : 0 < get_or (entered_in w t k i c link word area) (t.items + i) 0 = rw item_same h in
      rw item_same at (proper_listed {t = t} {top = top} (lent'.proper i i_lt q))

  lists' : (q : ℕ) → q < k + 1 → 0 < list_at (entered_in w t k i c link word area) t q
      → Listed (entered_in w t k i c link word area) t top (list_at (entered_in w t k i c link word area) t q)
  lists' q h =
      same_or q k
      (λ e. rw (e, list_same w t k i c link word area room k_lt i_lt c_lt) list_new)
      (λ d. rw (list_other w t k i c link word area room k_lt i_lt c_lt q (omega arith) d) (λ g. list_kept entered_same (omega arith) (l.lists q (omega arith) g)))

  falls' : Falls (next_at (entered_in w t k i c link word area) t) (k + 1)
  falls' q h =
      same_or q k (λ e. rw (e, next_same w t k i c link word area room k_lt i_lt c_lt) link-le)
      (λ d. rw (next_other w t k i c link word area room k_lt i_lt c_lt q (omega arith) d) (l.falls q (omega arith)))

  pub entered_linked : Linked (entered_in w t k i c link word area) t top (k + 1)
  entered_linked = record {
    lent = lent';
    low = l.low;
    top_le = omega (arith, l.top_le, entered_same.len);
    k_le = omega arith;
    falls = falls';
    lists = lists';
  }

-- so its list can be united with others
pub entered_topped : {w v : List ℕ} {t : Tables} {k : ℕ} {s : Progress} → Ready w t k s → (i c link word : ℕ) → i < t.n → c < t.n → link ≤ k
    → v ≡ entered_in w t k i c link word (get_or w (t.items + i) 0) → Topped v t k s.top
entered_topped {w} {v} {t} {k} {s} R i c link word i_lt c_lt link-le e = rw e (record {
  linked = entered_linked R.linked i c link word (get_or w (t.items + i) 0) refl R.k_lt i_lt c_lt link-le;
  top_end = R.top_end;
  end_le = omega (arith, R.end_le, (entered_same R.linked i c link word (get_or w (t.items + i) 0) refl R.k_lt i_lt c_lt link-le).len);
  small = R.small;
})

-- One item more: the tables hold the plan with it.
use Prim.Native.Nat.{ℕ, ◌+◌, ◌-◌, ◌≤◌, ◌<◌, min}
use native.Mathlib.Omega.{arith}
use native.Mathlib.Numerals.{add-one}
use mathlib.Core.Path.{◌≡◌, refl, ap, sym, ◌∙◌}
use mathlib.Core.Logic.{◌≢◌, inl}
use mathlib.Core.Bool.{Bool, ◌&&◌}
use mathlib.Core.Option.{Option, some, none}
use mathlib.Core.List.{List}
use lib.ListN.{length, get_or}
use borrow.Author.Tests.{eq-eqb, ne_eqb}
use Rattle.words.proofs.Points.{same as same_or}
use Rattle.ranges.specs.declared.Range.{Range}
use Rattle.ranges.specs.Points.{Upright, Apart}
use Rattle.fitting.specs.Wants.{Want, want_at}
use Rattle.fitting.specs.Plan.{Cell, cell_at, joinable, takes, lowest, Plan, assign}
use Rattle.fitting.proofs.SearchLaws.{found_lowest, none_lowest}
use Rattle.fit_tables.specs.Inner.{size_of, align_of, order_table, head_table, behind, area_in, wants_in, Lent, chain, Falls, allow, order_at, head_at, next_at, list_at, area_at, Linked, opens, Probed, entered_in, Holds}
use Rattle.fit_tables.proofs.ChainLaws.{chain_kept, allow_kept, step_is}
use Rattle.fit_cells.proofs.EnterLaws.{entered_length, entered_rest, next_same, next_other, head_same, head_other, word_same, word_other, cell_same, cell_other, list_same, list_other}
use Rattle.fit_tables.proofs.ListLaws.{Same, area_same}
use Rattle.fit_cells.proofs.LinkLaws.{entered_same, item_same, entered_linked}
use Rattle.fit_tables.proofs.TableLaws.{want_at_lem, lent_kept, area_kept}
use Rattle.fit_tables.specs.declared.Tables.{Tables}
use Rattle.fit_tables.specs.declared.Progress.{Progress}

module _ {w₁ : List ℕ} {t : Tables} (L : Lent w₁ t) (known : (q : ℕ) → q < t.n → order_at w₁ t q < t.n) where
  module _ {w : List ℕ} {budget k : ℕ} {s : Progress} {p : Plan} (H : Holds w₁ w t budget k s p) where
    kept : (x : ℕ) → x < head_table t → get_or w x 0 ≡ get_or w₁ x 0
    kept x h = H.tables x h

    pub linked : Linked w t s.top k
    linked = record {
      lent = lent_kept L w H.len (λ x l. kept x (omega arith));
      low = H.low;
      top_le = omega (arith, H.high, H.end_le, H.len);
      k_le = H.k_le;
      falls = H.falls;
      lists = H.lists;
    }

    pub order_kept : (q : ℕ) → q < t.n → order_at w t q < t.n
    order_kept q h = rw (kept (order_table t + q) (omega arith)) (known q h)

    -- ---- the search

    takes_is : (a : List Range) → Upright a → (c : ℕ) → c < s.cells → takes p.cells a c ≡ opens w t a c
    takes_is a u c h = H.same c h a u

    pub search_hit : (a : List Range) → Upright a → (most r : ℕ) → most ≡ min s.cells s.left → Probed w t most a r → r < most → lowest p.cells (budget - p.probes) a ≡ some r
    search_hit a u most r m P h =
        found_lowest a p.cells (budget - p.probes) r
        (record {
          there = omega (arith, H.cells_is);
          met = omega (arith, H.left_is);
          fits = takes_is a u r (omega arith) ∙ P.hit h;
          least = λ c l. takes_is a u c (omega arith) ∙ P.miss c l;
        })

    pub search_miss : (a : List Range) → Upright a → (most r : ℕ) → most ≡ min s.cells s.left → Probed w t most a r → most ≤ r → lowest p.cells (budget - p.probes) a ≡ none
    search_miss a u most r m P h =
        none_lowest a p.cells (budget - p.probes)
        (λ c l q. takes_is a u c (omega (arith, H.cells_is)) ∙ P.miss c (omega (arith, H.cells_is, H.left_is)))

    -- ---- the item at place k enters cell c

    module _ (i c link word area : ℕ) (i_is : i ≡ order_at w₁ t k) (area_is : area ≡ get_or w (t.items + i) 0) (k_lt : k < t.n) (c_le : c ≤ s.cells) (link-le : link ≤ k) where
      i_lt : i < t.n
      i_lt = rw i_is (known k k_lt)

      c_lt : c < t.n
      c_lt = omega (arith, H.cells_le)

      room : behind t ≤ length w
      room = omega (arith, H.low, H.high, H.end_le, H.len)

      len' : length (entered_in w t k i c link word area) ≡ length w₁
      len' = entered_length w t k i c link word area room k_lt i_lt c_lt ∙ H.len

      tables' : (x : ℕ) → x < head_table t → get_or (entered_in w t k i c link word area) x 0 ≡ get_or w₁ x 0
      tables' x h = entered_rest w t k i c link word area room k_lt i_lt c_lt x (inl h) ∙ H.tables x h

      same : Same w (entered_in w t k i c link word area) t s.top
      same = entered_same linked i c link word area area_is k_lt i_lt c_lt link-le

      linked' : Linked (entered_in w t k i c link word area) t s.top (k + 1)
      linked' = entered_linked linked i c link word area area_is k_lt i_lt c_lt link-le

      area' : (q : ℕ) → q < k → area_at (entered_in w t k i c link word area) t q ≡ area_at w t q
      area' q h =
          ap (area_in (entered_in w t k i c link word area) t.at) (list_other w t k i c link word area room k_lt i_lt c_lt q (omega arith) (λ e. omega arith))
          ∙ area_same same (list_at w t q) (H.lists q h)

      area-new : area_at (entered_in w t k i c link word area) t k ≡ (want_at (wants_in w₁ t) i).area
      area-new =
          ap (area_in (entered_in w t k i c link word area) t.at) (list_same w t k i c link word area room k_lt i_lt c_lt ∙ sym (item_same linked i c link word area area_is k_lt i_lt c_lt link-le))
          ∙ area_kept L (entered_in w t k i c link word area) len' (λ x l. tables' x (omega arith)) i i_lt ∙ sym (ap (λ (x : Want). x.area) (want_at_lem L i i_lt))

      next-was : (q : ℕ) → q < k → next_at w t q ≡ next_at (entered_in w t k i c link word area) t q
      next-was q h = sym (next_other w t k i c link word area room k_lt i_lt c_lt q (omega arith) (λ e. omega arith))

      falls' : Falls (next_at (entered_in w t k i c link word area) t) (k + 1)
      falls' = linked'.falls

      -- a chain below k leads where it did, and allows what it did
      below-k : (a : List Range) (m : ℕ) → m ≤ k
          → allow (area_at (entered_in w t k i c link word area) t) (chain (next_at (entered_in w t k i c link word area) t) m) a
          ≡ allow (area_at w t) (chain (next_at w t) m) a
      below-k a m h =
          ap (λ (l : List ℕ). allow (area_at (entered_in w t k i c link word area) t) l a)
          (sym (chain_kept (next_at w t) (next_at (entered_in w t k i c link word area) t) m k h H.falls next-was))
          ∙ allow_kept (area_at (entered_in w t k i c link word area) t) (area_at w t) a (next_at w t) m k h H.falls (λ q l. area' q l)

      opens-new : (a : List Range) → opens (entered_in w t k i c link word area) t a c
          ≡ joinable (want_at (wants_in w₁ t) i).area a && allow (area_at w t) (chain (next_at w t) link) a
      opens-new a =
          let e = head_same w t k i c link word area room k_lt i_lt c_lt ∙ add-one k in
          step_is (next_at (entered_in w t k i c link word area) t) (area_at (entered_in w t k i c link word area) t) a _ k e (λ q h. falls' q (omega (arith, e)))
          ∙ ap (λ (o : Option (List Range)). joinable o a && allow (area_at (entered_in w t k i c link word area) t) (chain (next_at (entered_in w t k i c link word area) t) (next_at (entered_in w t k i c link word area) t k)) a)
          area-new
          ∙ ap (λ (y : Bool). joinable (want_at (wants_in w₁ t) i).area a && y)
          (ap (λ (m : ℕ). allow (area_at (entered_in w t k i c link word area) t) (chain (next_at (entered_in w t k i c link word area) t) m) a)
          (next_same w t k i c link word area room k_lt i_lt c_lt) ∙ below-k a link link-le)

      opens-old : (a : List Range) (b : ℕ) → b < s.cells → b ≢ c → opens (entered_in w t k i c link word area) t a b ≡ opens w t a b
      opens-old a b h d =
          ap (λ (m : ℕ). allow (area_at (entered_in w t k i c link word area) t) (chain (next_at (entered_in w t k i c link word area) t) m) a)
          (head_other w t k i c link word area room k_lt i_lt c_lt b (omega (arith, H.cells_le)) d)
          ∙ below-k a (head_at w t b) (H.heads b h)

      -- what is to be shown of the new cells
      module _ (cs : List Cell) (cells' left' probes : ℕ) where
        pub holds_enter : cells' ≡ length cs → cells' ≤ k + 1 → ((b : ℕ) → b < cells' → b ≢ c → b < s.cells) → left' + (p.probes + probes) ≡ budget
            → ((b : ℕ) → b < s.cells → b ≢ c → cell_at cs b ≡ cell_at p.cells b)
            → size_of word ≡ (cell_at cs c).size → align_of word ≡ (cell_at cs c).align
            → ((b : ℕ) (rs : List Range) → (cell_at cs b).area ≡ some rs → Apart rs)
            → ((a : List Range) → Upright a → joinable (cell_at cs c).area a ≡ joinable (want_at (wants_in w₁ t) i).area a && allow (area_at w t) (chain (next_at w t) link) a)
            → Holds w₁ (entered_in w t k i c link word area) t budget (k + 1) (record { cells = cells'; left = left'; top = s.top }) (record { cells = cs; cell = assign i c p.cell; probes = p.probes + probes })
        holds_enter count few below spent old size align neat allowed = record {
          len = len';
          tables = tables';
          low = H.low;
          high = H.high;
          end_le = H.end_le;
          lists = linked'.lists;
          k_le = omega arith;
          falls = falls';
          cells_is = count;
          cells_le = few;
          left_is = spent;
          shown = record {
            size = λ b h. same_or b c
                (λ e. rw e (ap size_of (word_same w t k i c link word area room k_lt i_lt c_lt) ∙ size))
                (λ d. let q = below b (rw count h) d in ap size_of (word_other w t k i c link word area room k_lt i_lt c_lt b (omega (arith, H.cells_le)) d) ∙ H.shown.size b (rw H.cells_is at q) ∙ ap (λ (x : Cell). x.size) (sym (old b q d)));
            align = λ b h. same_or b c
                (λ e. rw e (ap align_of (word_same w t k i c link word area room k_lt i_lt c_lt) ∙ align))
                (λ d. let q = below b (rw count h) d in ap align_of (word_other w t k i c link word area room k_lt i_lt c_lt b (omega (arith, H.cells_le)) d) ∙ H.shown.align b (rw H.cells_is at q) ∙ ap (λ (x : Cell). x.align) (sym (old b q d)));
            cell = λ j h. same_or j i
                (λ e. rw (e, eq-eqb i i refl) (cell_same w t k i c link word area room k_lt i_lt c_lt))
                (λ d. rw (ne_eqb j i d) (cell_other w t k i c link word area room k_lt i_lt c_lt j h d ∙ H.shown.cell j h));
          };
          heads = λ b h. same_or b c
              (λ e. rw (e, head_same w t k i c link word area room k_lt i_lt c_lt) (omega arith))
              (λ d. let q = below b h d in rw (head_other w t k i c link word area room k_lt i_lt c_lt b (omega (arith, H.cells_le)) d) (omega (arith, H.heads b q)));
          neat = neat;
          same = λ b h a u. same_or b c
              (λ e. rw e (allowed a u ∙ sym (opens-new a)))
              (λ d. let q = below b h d in ap (λ (x : Cell). joinable x.area a) (old b q d) ∙ H.same b q a u ∙ sym (opens-old a b q d));
        }

-- Items drawn, put and joined one after another: the tables hold the plan, and the rows its sample points.
use Prim.Native.Nat.{ℕ, ◌+◌, ◌*◌, ◌/◌, ◌^◌, ◌≤◌, ◌<◌}
use native.Mathlib.Omega.{arith}
use native.Mathlib.Decide.{ℕ_discrete}
use native.Mathlib.Nat.{div-le_self}
use mathlib.Core.Path.{◌≡◌, refl, ap, sym, ◌∙◌, subst}
use mathlib.Core.Logic.{◌≢◌, ◌⊎◌, inl, inr, ⊎_elim}
use mathlib.Core.Bool.{true, false, ◌||◌}
use mathlib.Core.Option.{some, none-ne-some, some-injective}
use mathlib.Core.List.{List}
use lib.ListN.{length, get_or}
use Rattle.words.specs.Inner.{Kept}
use Rattle.words.proofs.Points.{cut, same as same_or}
use Rattle.words.proofs.Bools.{or_cases}
use Rattle.bits.specs.Bits.{bit_of, bit}
use Rattle.bits.proofs.BitLaws.{bit_at, bit_kept, row_keeps}
use Rattle.ranges.specs.declared.Range.{Range}
use Rattle.ranges.specs.Points.{Upright, Point}
use Rattle.ranges.specs.Merged.{clashes}
use Rattle.ranges.proofs.PointLaws.{apart_upright}
use Rattle.ranges.proofs.ClashLaws.{common_clashes}
use Rattle.fitting.specs.Wants.{Want, want_at}
use Rattle.fitting.specs.Plan.{cell_at, joinable, Plan, put}
use Rattle.fit_tables.specs.Inner.{size_of, align_of, order_table, head_table, link_table, cell_table, home_table, list_table, behind, ranges_at, area_in, wants_in, Lent, Proper, up_to, chain, allow, order_at}
use Rattle.fit_tables.specs.Inner.{head_at, next_at, list_at, area_at, opens, item_at, cell_in, Sure, Gridded, Marks, Drawn, Joined, Holds, InOrder, Ready, Stepped, Each}
use Rattle.fit_tables.specs.declared.Own.{Own}
use Rattle.fit_tables.specs.declared.Progress.{Progress}
use Rattle.fit_tables.proofs.ChainLaws.{chain_kept, allow_kept}
use Rattle.fit_tables.proofs.TableLaws.{area_none, area_some, want_at_lem, want_neat, area_kept, ranges_kept}
use Rattle.fit_tables.proofs.ListLaws.{Same, list_kept, area_same}
use Rattle.fit_tables.proofs.MarkLaws.{some_bit, rows_apart, row_inside}
use Rattle.fit_cells.proofs.GrewLaws.{Grew, grew}
use Rattle.fit_cells.proofs.StepLaws.{linked, order_kept}
use Rattle.fit_cells.proofs.RunLaws.{plan_to, order_known, plan_next, run_start, run_ready, run_more, run_done}
use Rattle.fit_tables.specs.declared.Tables.{Tables}

-- ---- words from `rows` on may change

module _ {w₁ w : List ℕ} {t : Tables} {budget k : ℕ} {s : Progress} {p : Plan} (H : Holds w₁ w t budget k s p)
    (v : List ℕ) (len : length v ≡ length w) (kept : (x : ℕ) → x < t.end → get_or v x 0 ≡ get_or w x 0) where
  table : (x : ℕ) → x < behind t → get_or v x 0 ≡ get_or w x 0
  table x h = kept x (omega (arith, H.low, H.high))

  same : Same w v t s.top
  same = record {
    len = len;
    low = omega (arith, H.low);
    high = omega (arith, H.high, H.end_le, H.len);
    word = λ x o. kept x (⊎_elim (λ h. omega (arith, H.low, H.high)) (λ h. omega (arith, h.1, H.high)) o);
  }

  next_is : (q : ℕ) → q < k → next_at v t q ≡ next_at w t q
  next_is q h = table (link_table t + q) (omega (arith, H.k_le))

  list_is : (q : ℕ) → q < k → list_at v t q ≡ list_at w t q
  list_is q h = table (list_table t + q) (omega (arith, H.k_le))

  head_is : (c : ℕ) → c < s.cells → head_at v t c ≡ head_at w t c
  head_is c h = table (head_table t + c) (omega (arith, H.cells_le, H.k_le))

  area_is : (q : ℕ) → q < k → area_at v t q ≡ area_at w t q
  area_is q h = ap (area_in v t.at) (list_is q h) ∙ area_same same (list_at w t q) (H.lists q h)

  opens_is : (a : List Range) (c : ℕ) → c < s.cells → opens v t a c ≡ opens w t a c
  opens_is a c h =
      ap (λ (m : ℕ). allow (area_at v t) (chain (next_at v t) m) a) (head_is c h)
      ∙ ap (λ (l : List ℕ). allow (area_at v t) l a) (sym (chain_kept (next_at w t) (next_at v t) (head_at w t c) k (H.heads c h) H.falls (λ q l. sym (next_is q l))))
      ∙ allow_kept (area_at v t) (area_at w t) a (next_at w t) (head_at w t c) k (H.heads c h) H.falls area_is

  pub holds_rows : Holds w₁ v t budget k s p
  holds_rows = record {
    len = len ∙ H.len;
    tables = λ x h. table x (omega arith) ∙ H.tables x h;
    low = H.low;
    high = H.high;
    end_le = H.end_le;
    lists = λ q h. rw (list_is q h) (λ g. list_kept same (omega arith) (H.lists q h g));
    k_le = H.k_le;
    falls = λ q h. rw (next_is q h) (H.falls q h);
    cells_is = H.cells_is;
    cells_le = H.cells_le;
    left_is = H.left_is;
    shown = record {
      size = λ c h. ap size_of (table (cell_table t + c) (omega (arith, H.cells_is, H.cells_le, H.k_le))) ∙ H.shown.size c h;
      align = λ c h. ap align_of (table (cell_table t + c) (omega (arith, H.cells_is, H.cells_le, H.k_le))) ∙ H.shown.align c h;
      cell = λ i h. table (home_table t + i) (omega arith) ∙ H.shown.cell i h;
    };
    heads = λ c h. rw (head_is c h) (H.heads c h);
    neat = H.neat;
    same = λ c h a u. H.same c h a u ∙ sym (opens_is a c h);
  }

-- ---- the state before an item

pub record Going (w₁ w : List ℕ) (t : Tables) (width step budget k : ℕ) (s : Progress) : Type 0 where
  pub order : InOrder w₁ t
  pub grid : Gridded w₁ t width step
  pub holds : Holds w₁ w t budget k s (plan_to w₁ t budget k)
  pub marks : Marks w t.end width step (plan_to w₁ t budget k)
  pub rest : (x : ℕ) → t.end + t.n * width ≤ x → get_or w x 0 ≡ get_or w₁ x 0

module _ {w₁ : List ℕ} {t : Tables} {width step budget : ℕ} where
  pub going_start : InOrder w₁ t → ((i : ℕ) → i < t.n → get_or w₁ (home_table t + i) 0 ≡ 0) → Gridded w₁ t width step
      → Going w₁ w₁ t width step budget 0 (record { cells = 0; left = budget; top = behind t })
  going_start O zeros G =
      let H = run_start O budget zeros in
      record { order = O; grid = G; holds = H; marks = record { sure = λ c τ h. absurd (omega (arith, H.cells_is)) }; rest = λ x h. refl }

  module _ {w : List ℕ} {k : ℕ} {s : Progress} (S : Going w₁ w t width step budget k s) (k_lt : k < t.n) where
    known : (q : ℕ) → q < t.n → order_at w₁ t q < t.n
    known = order_known S.order

    pub order_in_lem : order_at w t k < t.n
    order_in_lem = order_kept S.order.lent known S.holds k k_lt

    pub lent_in : Lent w t
    lent_in = (linked S.order.lent known S.holds).lent

    pub cells_in : s.cells < t.n
    cells_in = omega (arith, S.holds.cells_le)

    pub low_in : behind t ≤ t.end
    low_in = omega (arith, S.holds.low, S.holds.high)

    pub low_in_row : behind t ≤ t.end + s.cells * width
    low_in_row = omega (arith, low_in)

    pub end_in : t.end + t.n * width ≤ length w
    end_in = omega (arith, S.grid.rows_le, S.holds.len)

    pub row_in : t.end + s.cells * width + width ≤ length w
    row_in = row_inside t.end width s.cells t.n (length w) cells_in end_in

    i_is : order_at w t k ≡ order_at w₁ t k
    i_is = S.holds.tables (order_table t + k) (omega arith)

    area_now : (want_at (wants_in w₁ t) (order_at w₁ t k)).area ≡ area_in w t.at (get_or w (t.items + order_at w₁ t k) 0)
    area_now =
        ap (λ (x : Want). x.area) (want_at_lem S.order.lent (order_at w₁ t k) (known k k_lt))
        ∙ sym (area_kept S.order.lent w S.holds.len (λ x h. S.holds.tables x (omega arith)) (order_at w₁ t k) (known k k_lt))

    -- ---- drawn

    module _ {v : List ℕ} {o : Own} (D : Drawn w v t k (t.end + s.cells * width) width step o) where
      below_rows : (x : ℕ) → x < t.end → get_or v x 0 ≡ get_or w x 0
      below_rows x h = D.rest x (inl (omega arith))

      pub holds_drawn : Holds w₁ v t budget k s (plan_to w₁ t budget k)
      holds_drawn = holds_rows S.holds v D.len below_rows

      pub ready_drawn : Ready v t k s
      ready_drawn = run_ready S.order holds_drawn k_lt

      order_same : order_at v t k ≡ order_at w t k
      order_same = below_rows (order_table t + k) (omega (arith, low_in))

      word_same : get_or v (t.items + order_at v t k) 0 ≡ get_or w (t.items + order_at w t k) 0
      word_same = ap (λ (i : ℕ). get_or v (t.items + i) 0) order_same ∙ below_rows (t.items + order_at w t k) (omega (arith, low_in, order_in_lem))

      proper : 0 < get_or w (t.items + order_at w t k) 0 → Proper w t.at t.items (get_or w (t.items + order_at w t k) 0)
      proper h = lent_in.proper (order_at w t k) order_in_lem h

      item_same : 0 < get_or w (t.items + order_at w t k) 0 → item_at v t k ≡ item_at w t k
      item_same h = ap (ranges_at v t.at) word_same ∙ ranges_kept lent_in v D.len (λ x l. below_rows x (omega (arith, low_in))) (get_or w (t.items + order_at w t k) 0) (proper h).inside

      row_same : (c τ : ℕ) → c ≢ s.cells → τ < width * 64 → bit v (t.end + c * width) τ ≡ bit w (t.end + c * width) τ
      row_same c τ d h = bit_kept (go (rows_apart t.end width c s.cells d)) τ h
        where
          go : (t.end + c * width + width ≤ t.end + s.cells * width) ⊎ (t.end + s.cells * width + width ≤ t.end + c * width) → Kept w v (t.end + c * width) width
          go (inl l) = record { same = λ x a b. D.rest x (inl (omega arith)) }
          go (inr l) = record { same = λ x a b. D.rest x (inr (omega arith)) }

      pub sure_drawn : Sure v t (record { base = t.end + o.at; width = width; word = o.word }) s.cells (item_at v t k)
      sure_drawn = record { inside = within; rules = rules }
        where
          within : (c : ℕ) → c < s.cells → 0 < o.word → t.end + o.at + c * width < length v
          within c h l = omega (arith, (D.own l).0, row_inside t.end width c t.n (length w) (omega (arith, cells_in)) end_in, D.len)

          rules : (c τ : ℕ) → c < s.cells → τ < 64 → bit_of o.word τ ≡ true → bit_of (get_or v (t.end + o.at + c * width) 0) τ ≡ true → opens v t (item_at v t k) c ≡ false
          rules c τ h l e f =
              let own = D.own (some_bit o.word τ e) in
              let in_row = own.0 in
              let b : bit v (t.end + s.cells * width) (o.at * 64 + τ) ≡ true = bit_at v (t.end + s.cells * width) o.at τ l ∙ ap (λ (y : ℕ). bit_of y τ) (sym own.1) ∙ e in
              let small : o.at * 64 + τ < width * 64 = omega arith in
              let x : t.end + o.at + c * width ≡ t.end + c * width + o.at = omega arith in
              let g : bit v (t.end + c * width) (o.at * 64 + τ) ≡ true = bit_at v (t.end + c * width) o.at τ l ∙ ap (λ (j : ℕ). bit_of (get_or v j 0) τ) (sym x) ∙ f in
              let j = S.marks.sure c (o.at * 64 + τ) (omega (arith, S.holds.cells_is)) small (sym (row_same c (o.at * 64 + τ) (λ q. omega arith) small) ∙ g)
              (item_at w t k) (apart_upright _ (proper own.2).neat) (D.sound own.2 (o.at * 64 + τ) small b) in
              rw (item_same own.2) (sym (holds_drawn.same c h (item_at w t k) (apart_upright _ (proper own.2).neat)) ∙ j)

      -- ---- put

      module _ {u : List ℕ} {r : Progress} (P : Stepped v u t k s r) where
        pub holds_put : Holds w₁ u t budget (k + 1) r (plan_to w₁ t budget (k + 1))
        holds_put = run_more S.order holds_drawn k_lt P

        raw : Holds w₁ u t budget (k + 1) r (put (wants_in w₁ t) budget (order_at w₁ t k) (plan_to w₁ t budget k))
        raw = P.keeps w₁ budget (plan_to w₁ t budget k) S.order.lent known holds_drawn

        next-plan : put (wants_in w₁ t) budget (order_at w₁ t k) (plan_to w₁ t budget k) ≡ plan_to w₁ t budget (k + 1)
        next-plan = plan_next S.order budget k k_lt

        order-put : order_at u t k ≡ order_at w₁ t k
        order-put = holds_put.tables (order_table t + k) (omega arith)

        pub order_in_put : order_at u t k < t.n
        order_in_put = rw order-put (known k k_lt)

        G : (m : ℕ) × Grew (want_at (wants_in w₁ t) (order_at w₁ t k)) (order_at w₁ t k) (plan_to w₁ t budget k) (put (wants_in w₁ t) budget (order_at w₁ t k) (plan_to w₁ t budget k)) m
        G = grew (wants_in w₁ t) budget (order_at w₁ t k) (plan_to w₁ t budget k) S.holds.neat (want_neat S.order.lent (order_at w₁ t k))

        cell_is : cell_in u t k ≡ G.0
        cell_is = ap (λ (i : ℕ). get_or u (home_table t + i) 0) order-put ∙ raw.shown.cell (order_at w₁ t k) (known k k_lt) ∙ G.1.is

        pub cell_in_put : cell_in u t k < t.n
        cell_in_put = omega (arith, cell_is, G.1.there, raw.cells_is, raw.cells_le)

        pub end_put : t.end + t.n * width ≤ length u
        end_put = omega (arith, end_in, P.len, D.len)

        -- ---- joined

        module _ {z : List ℕ} (J : Joined u z t k width s.cells) where
          row_put : (c τ : ℕ) → τ < width * 64 → bit u (t.end + c * width) τ ≡ bit v (t.end + c * width) τ
          row_put c τ h =
              let kept : Kept v u (t.end + c * width) width = record { same = λ x a b. P.rest x (omega arith) } in
              bit_kept kept τ h

          row-else : (c τ : ℕ) → c ≢ G.0 → τ < width * 64 → bit z (t.end + c * width) τ ≡ bit u (t.end + c * width) τ
          row-else c τ d h = bit_kept (row_keeps J.row (t.end + c * width) width (rw cell_is (rows_apart t.end width c G.0 d))) τ h

          below-joined : (x : ℕ) → x < t.end → get_or z x 0 ≡ get_or u x 0
          below-joined x h = J.row.before x (omega arith)

          -- a bit of the item's row
          item-bit : (τ : ℕ) → τ < width * 64 → bit v (t.end + s.cells * width) τ ≡ true → (a : List Range) → Upright a → Point a (τ * step)
              → joinable (cell_at (put (wants_in w₁ t) budget (order_at w₁ t k) (plan_to w₁ t budget k)).cells G.0).area a ≡ false
          item-bit τ h b a up pt = G.1.item a up (λ rs e. go rs e (ℕ_discrete (get_or w (t.items + order_at w₁ t k) 0) 0))
            where
              go : (rs : List Range) → (want_at (wants_in w₁ t) (order_at w₁ t k)).area ≡ some rs → Dec (get_or w (t.items + order_at w₁ t k) 0 ≡ 0) → clashes rs a ≡ true
              go rs e (yes q) = absurd (none-ne-some rs (sym (area_none w t.at (get_or w (t.items + order_at w₁ t k) 0) q) ∙ sym area_now ∙ e))
              go rs e (no d) =
                  let β : some (ranges_at w t.at (get_or w (t.items + order_at w₁ t k) 0)) ≡ some rs = sym (area_some w t.at (get_or w (t.items + order_at w₁ t k) 0) (omega arith)) ∙ sym area_now ∙ e in
                  let pos : 0 < get_or w (t.items + order_at w t k) 0 = rw i_is (omega arith) in
                  let pt' : Point (ranges_at w t.at (get_or w (t.items + order_at w₁ t k) 0)) (τ * step) = rw i_is at (D.sound pos τ h b) in
                  rw (some-injective _ rs β) at (common_clashes (ranges_at w t.at (get_or w (t.items + order_at w₁ t k) 0)) a (τ * step, pt', pt))

          -- a bit of a cell's row, as it was
          old_bit : (c τ : ℕ) → c < length (plan_to w₁ t budget k).cells → τ < width * 64 → bit u (t.end + c * width) τ ≡ true → (a : List Range) → Upright a → Point a (τ * step)
              → joinable (cell_at (put (wants_in w₁ t) budget (order_at w₁ t k) (plan_to w₁ t budget k)).cells c).area a ≡ false
          old_bit c τ h l b a up pt =
              G.1.old c h a up (S.marks.sure c τ h l (sym (row_put c τ l ∙ row_same c τ (λ q. omega (arith, S.holds.cells_is)) l) ∙ b) a up pt)

          at_cell : (τ : ℕ) → τ < width * 64 → (bit u (t.end + G.0 * width) τ ≡ true) ⊎ (bit u (t.end + s.cells * width) τ ≡ true) → (a : List Range) → Upright a → Point a (τ * step)
              → joinable (cell_at (put (wants_in w₁ t) budget (order_at w₁ t k) (plan_to w₁ t budget k)).cells G.0).area a ≡ false
          at_cell τ l (inr b) a up pt = item-bit τ l (sym (row_put s.cells τ l) ∙ b) a up pt
          at_cell τ l (inl b) a up pt =
              cut (length (plan_to w₁ t budget k).cells) G.0
              (λ h. let e : G.0 ≡ s.cells = omega (arith, G.1.fresh h, S.holds.cells_is) in item-bit τ l (sym (row_put s.cells τ l) ∙ ap (λ (c : ℕ). bit u (t.end + c * width) τ) (sym e) ∙ b) a up pt)
              (λ h. old_bit G.0 τ h l b a up pt)

          joined-bits : (τ : ℕ) → τ < width * 64 → bit z (t.end + G.0 * width) τ ≡ (bit u (t.end + G.0 * width) τ || bit u (t.end + s.cells * width) τ)
          joined-bits τ h = rw cell_is at (J.row.bits τ h)

          marks-raw : Marks z t.end width step (put (wants_in w₁ t) budget (order_at w₁ t k) (plan_to w₁ t budget k))
          marks-raw = record {
            sure = λ c τ h l b a up pt. same_or c G.0
                (λ e. rw e (at_cell τ l (or_cases _ _ (sym (joined-bits τ l) ∙ ap (λ (c : ℕ). bit z (t.end + c * width) τ) (sym e) ∙ b)) a up pt))
                (λ d. old_bit c τ (G.1.below c h d) l (sym (row-else c τ d l) ∙ b) a up pt);
          }

          pub going_more : Going w₁ z t width step budget (k + 1) r
          going_more = record {
            order = S.order;
            grid = S.grid;
            holds = holds_rows holds_put z J.row.len below-joined;
            marks = subst (λ (q : Plan). Marks z t.end width step q) next-plan marks-raw;
            rest = λ x h. J.row.after x (omega (arith, row_inside t.end width (cell_in u t k) t.n (t.end + t.n * width) cell_in_put (omega arith))) ∙ P.rest x (omega arith)
                ∙ D.rest x (inr (omega (arith, row_inside t.end width s.cells t.n (t.end + t.n * width) cells_in (omega arith)))) ∙ S.rest x h;
          }

  pub going_done : {w : List ℕ} {k : ℕ} {s : Progress} → Going w₁ w t width step budget k s → t.n ≤ k
      → Each w₁ w t width budget s
  going_done S h = run_done S.order S.holds width h S.rest

-- ---- rows at the end of the lists' room

-- the tables as they are with less room
lent_below : {w : List ℕ} {t : Tables} → Lent w t → (rows : ℕ) → Lent w (up_to t rows)
lent_below L rows = record { few = L.few; room = L.room; proper = L.proper }

pub in_order_below : {w : List ℕ} {t : Tables} → InOrder w t → (rows : ℕ) → behind t ≤ rows → rows ≤ t.end → InOrder w (up_to t rows)
in_order_below O rows h l = record { lent = lent_below O.lent rows; low = h; high = omega (arith, O.high); small = omega (arith, O.small); names = O.names }

pub step_fits : (x d : ℕ) → x < 2 ^ 32 → x / d + 1 ≤ 2 ^ 32
step_fits x d h = omega (arith, div-le_self x d)

pub step_word : (x d : ℕ) → x < 2 ^ 32 → x / d + 1 < 2 ^ 64
step_word x d h = omega (arith, div-le_self x d)

-- What the functions here promise each other. No public promise names these.
use Rattle.std.specs.Prelude.{◌≡◌, List, ℕ, zero, suc, ◌+◌, ◌-◌, ◌<◌, min, get_or}
use Rattle.std.proofs.Math.Decide.{dec_le, ℕ_discrete}
use Rattle.tarjan.specs.Inner.Walk.{State}

-- The steps of the walk, as functions of its state, and the state as it stands in a list.
-- Assumes nothing.

abbrev pub pick : {A : Type 0} → Dec A → ℕ → ℕ → ℕ
pick (yes h) x y = x
pick (no h) x y = y

-- f, with x at i
unfoldable pub upd : (ℕ → ℕ) → ℕ → ℕ → ℕ → ℕ
upd f i x j = pick (ℕ_discrete j i) x (f j)

-- f, with x at every j where p < f j ≤ n
unfoldable pub shut_at : ℕ → ℕ → ℕ → (ℕ → ℕ) → ℕ → ℕ
shut_at n p x f j = pick (dec_le (f j) p) (f j) (pick (dec_le (f j) n) x (f j))

-- f, and from e on what g has from p on
unfoldable pub pasted : (ℕ → ℕ) → ℕ → (ℕ → ℕ) → ℕ → ℕ → ℕ
pasted f e g p i = pick (dec_le e i) (g (p + (i - e))) (f i)

-- ---- the steps
-- v is taken up
abbrev pub pushed : State → ℕ → State
pushed z v = record {
  num = upd z.num v (suc z.s);
  stk = upd z.stk z.s v;
  fr = upd z.fr z.d z.s;
  lw = upd z.lw z.d z.s;
  nxt = z.nxt;
  ord = z.ord;
  s = suc z.s;
  d = suc z.d;
  c = z.c;
  e = z.e;
}

-- an edge of u was looked at
abbrev pub advanced : State → ℕ → State
advanced z u = record {
  num = z.num;
  stk = z.stk;
  fr = z.fr;
  lw = z.lw;
  nxt = upd z.nxt u (suc (z.nxt u));
  ord = z.ord;
  s = z.s;
  d = z.d;
  c = z.c;
  e = z.e;
}

-- an edge of the frame e goes to the held node at place q
abbrev pub lowered : State → ℕ → ℕ → State
lowered z e q = record {
  num = z.num;
  stk = z.stk;
  fr = z.fr;
  lw = upd z.lw e (min (z.lw e) q);
  nxt = z.nxt;
  ord = z.ord;
  s = z.s;
  d = z.d;
  c = z.c;
  e = z.e;
}

-- the frame over e is left, and its node stays held
abbrev pub retired : State → ℕ → State
retired z e = record {
  num = z.num;
  stk = z.stk;
  fr = z.fr;
  lw = upd z.lw e (min (z.lw e) (z.lw (suc e)));
  nxt = z.nxt;
  ord = z.ord;
  s = z.s;
  d = suc e;
  c = z.c;
  e = z.e;
}

-- the top frame e is left, and what is held from its place on is a piece
abbrev pub closed : ℕ → State → ℕ → State
closed n z e = record {
  num = shut_at (n) (z.fr e) (suc (n + z.c)) z.num;
  stk = z.stk;
  fr = z.fr;
  lw = z.lw;
  nxt = z.nxt;
  ord = λ i. pasted z.ord z.e z.stk (z.fr e) i;
  s = z.fr e;
  d = e;
  c = suc z.c;
  e = z.e + (z.s - z.fr e);
}

-- ---- the state in a list: six regions of n numbers from base on
abbrev pub view : ℕ → ℕ → List ℕ → ℕ → ℕ → ℕ → ℕ → State
view n base w s d c e = record {
  num = λ i. get_or w (base + i) 0;
  stk = λ i. get_or w (base + n + i) 0;
  fr = λ i. get_or w (base + n + n + i) 0;
  lw = λ i. get_or w (base + n + n + n + i) 0;
  nxt = λ i. get_or w (base + n + n + n + n + i) 0;
  ord = λ i. get_or w (base + n + n + n + n + n + i) 0;
  s = s;
  d = d;
  c = c;
  e = e;
}

-- two states that agree at the first n numbers of each region
pub record Agree (n : ℕ) (z z' : State) : Type 0 where
  pub num : (j : ℕ) → j < n → z'.num j ≡ z.num j
  pub stk : (j : ℕ) → j < n → z'.stk j ≡ z.stk j
  pub fr : (j : ℕ) → j < n → z'.fr j ≡ z.fr j
  pub lw : (j : ℕ) → j < n → z'.lw j ≡ z.lw j
  pub nxt : (j : ℕ) → j < n → z'.nxt j ≡ z.nxt j
  pub ord : (j : ℕ) → j < z.e → z'.ord j ≡ z.ord j
  pub s : z'.s ≡ z.s
  pub d : z'.d ≡ z.d
  pub c : z'.c ≡ z.c
  pub e : z'.e ≡ z.e

-- the edges that are not looked at yet
unfoldable pub left : ℕ → (ℕ → ℕ) → (ℕ → ℕ) → ℕ
left zero end nxt = 0
left (suc m) end nxt = (end m - nxt m) + left m end nxt

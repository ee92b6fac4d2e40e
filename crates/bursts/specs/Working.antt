-- Derived, for inner contracts: windows of w positions over a list of words, by the ones before their ends. Laws in proofs/ tie them to the definitions.
-- Assumes nothing.
use Rattle.std.specs.Prelude.{◌≡◌, List, ℕ, ◌+◌, ◌-◌, ◌*◌, ◌≤◌, ◌<◌, length, get_or, Option, MatchOption}
use Rattle.std.specs.ControlFlow.{MatchControlFlow}
use Rattle.std.specs.declared.ops.ControlFlow.{ControlFlow}
use Rattle.words.specs.Bits.{bit, bit_at, ones}

-- the window that starts at a holds c ones
abbrev pub Holds : List ℕ → ℕ → ℕ → ℕ → Type 0
Holds ws w a c = ones (bit_at ws) a + c ≡ ones (bit_at ws) (a + w)

-- it holds at least m
abbrev pub Reaches : List ℕ → ℕ → ℕ → ℕ → Type 0
Reaches ws w m a = ones (bit_at ws) a + m ≤ ones (bit_at ws) (a + w)

-- no window that starts at a position from a to b - 1 holds as many
abbrev pub NoneIn : List ℕ → ℕ → ℕ → ℕ → ℕ → Type 0
NoneIn ws w m a b = (s : ℕ) → a ≤ s → s < b → ones (bit_at ws) (s + w) < ones (bit_at ws) s + m

-- r is the smallest such start from a on, below b
pub record FirstIn (ws : List ℕ) (w m a b r : ℕ) : Type 0 where
  pub start : a ≤ r
  pub before : r < b
  pub none : NoneIn ws w m a r
  pub hit : Reaches ws w m r

-- o is that start, if there is one
abbrev pub StartIn : List ℕ → (w m a b : ℕ) → Option ℕ → Type 0
StartIn ws w m a b o = MatchOption o (NoneIn ws w m a b) (FirstIn ws w m a b)

-- the starts from a to b - 1 are passed: none serves, and the window that starts at b holds c
pub record Passed (ws : List ℕ) (w m a b c : ℕ) : Type 0 where
  pub none : NoneIn ws w m a b
  pub holds : Holds ws w b c

-- what a search over starts from a to b - 1 gives: it breaks off at that start, or goes on with the ones of the window that starts at b
abbrev pub Searched : List ℕ → (w m a b : ℕ) → ControlFlow ℕ ℕ → Type 0
Searched ws w m a b s = MatchControlFlow s (Passed ws w m a b) (FirstIn ws w m a b)

-- no window that ends at or before n holds as many
abbrev pub NoneBelow : List ℕ → (n w m : ℕ) → Type 0
NoneBelow ws n w m = (s : ℕ) → s + w ≤ n → ones (bit_at ws) (s + w) < ones (bit_at ws) s + m

-- r is the smallest such start of a window that ends at or before n
pub record FirstBelow (ws : List ℕ) (n w m r : ℕ) : Type 0 where
  pub inside : r + w ≤ n
  pub none : NoneIn ws w m 0 r
  pub hit : Reaches ws w m r

-- o is that start, if there is one
abbrev pub StartBelow : List ℕ → (n w m : ℕ) → Option ℕ → Type 0
StartBelow ws n w m o = MatchOption o (NoneBelow ws n w m) (FirstBelow ws n w m)

-- for no d below k are c ones, with the first d of the bits g and without the first d of the bits f, at least m
abbrev pub NoStart : (f g : ℕ → ℕ) (c m k : ℕ) → Type 0
NoStart f g c m k = (d : ℕ) → d < k → c + ones g d < m + ones f d

-- r is the first d below k for which they are
pub record FirstStart (f g : ℕ → ℕ) (c m k r : ℕ) : Type 0 where
  pub before : r < k
  pub none : NoStart f g c m r
  pub hit : m + ones f r ≤ c + ones g r

-- o is that d, if there is one
abbrev pub StartOf : (f g : ℕ → ℕ) (c m k : ℕ) → Option ℕ → Type 0
StartOf f g c m k o = MatchOption o (NoStart f g c m k) (FirstStart f g c m k)

-- the bits of r are the 64 that follow bit u of the word `low`, the word `high` being the next
pub record Following (low high u r : ℕ) : Type 0 where
  pub in_low : (p : ℕ) → u + 1 + p < 64 → bit r p ≡ bit low (u + 1 + p)
  pub in_high : (p : ℕ) → p < 64 → 64 ≤ u + 1 + p → bit r p ≡ bit high (u + 1 + p - 64)

-- the ones of run i of the runs of 64 positions from a on
abbrev pub run_ones : List ℕ → ℕ → ℕ → ℕ
run_ones ws a i = ones (λ p. bit_at ws (a + 64 * i + p)) 64

-- the eight numbers are the ones of the first eight runs
pub record EightRuns (ws : List ℕ) (a : ℕ) (xs : List ℕ) : Type 0 where
  pub long : length xs ≡ 8
  pub each : (i : ℕ) → i < 8 → get_or xs i 0 ≡ run_ones ws a i

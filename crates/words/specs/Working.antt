-- Derived, for inner contracts: relations that say what a function on words gives. Laws in proofs/ tie them to the definitions.
-- Assumes nothing.
use Rattle.std.specs.Prelude.{◌≡◌, ℕ, suc, ◌<◌, ◌≤◌, cond, List, [], length, ◌≢◌, nat_le, slice_index, slice_index_or, Option, MatchOption}
use Rattle.words.specs.Bits.{bit, bit_at}
use Rattle.words.specs.Strip.{holds}
use Rattle.words.specs.Words.{select_in}

-- r is the word x with the bits from a to e - 1 made b
pub record WordPut (x a e b r : ℕ) : Type 0 where
  pub inside : (p : ℕ) → a ≤ p → p < e → bit r p ≡ b
  pub under : (p : ℕ) → p < a → bit r p ≡ bit x p
  pub over : (p : ℕ) → e ≤ p → bit r p ≡ bit x p

-- vs is the words ws with the positions from a to e - 1 made b
pub record RangePut (ws : List ℕ) (a e b : ℕ) (vs : List ℕ) : Type 0 where
  pub long : length vs ≡ length ws
  pub inside : (p : ℕ) → a ≤ p → p < e → bit_at vs p ≡ b
  pub under : (p : ℕ) → p < a → bit_at vs p ≡ bit_at ws p
  pub over : (p : ℕ) → e ≤ p → bit_at vs p ≡ bit_at ws p

-- the ones of r are the bits of x that equal v
abbrev pub Matched : ℕ → ℕ → ℕ → Type 0
Matched x v r = (p : ℕ) → p < 64 → bit r p ≡ holds (bit x) v p

-- 1 where P j is at most k, else 0
abbrev pub at_most : (ℕ → ℕ) → ℕ → ℕ → ℕ
at_most P k j = cond (nat_le (P j) k) 1 0

-- a right table: 256 rows, of which entry k of row b is select of 1 in the byte b
pub record SelectTable (rows : List (List ℕ)) : Type 0 where
  pub long : length rows ≡ 256
  pub right : (b k : ℕ) → b < 256 → k < 8 → slice_index (slice_index_or rows b []) k ≡ select_in 8 b 1 k

-- r is the smallest position at or past i, below n, holding v, or n where there is none
pub record FirstFrom (f : ℕ → ℕ) (n v i r : ℕ) : Type 0 where
  pub start : i ≤ r
  pub within : r ≤ n
  pub clear : (p : ℕ) → i ≤ p → p < r → f p ≢ v
  pub hit : r < n → f r ≡ v

-- r is one past the largest position below i holding v, or 0 where there is none
pub record LastBefore (f : ℕ → ℕ) (v i r : ℕ) : Type 0 where
  pub within : r ≤ i
  pub clear : (p : ℕ) → r ≤ p → p < i → f p ≢ v
  pub hit : (q : ℕ) → r ≡ suc q → f q ≡ v

-- o is the smallest position at or past i, below n, holding v, if there is one
abbrev pub NextAt : (f : ℕ → ℕ) (n v i : ℕ) → Option ℕ → Type 0
NextAt f n v i o = MatchOption o (FirstFrom f n v i n) (λ r. FirstFrom f n v i r × (r < n))

-- o is the largest position below i holding v, if there is one
abbrev pub LastAt : (f : ℕ → ℕ) (v i : ℕ) → Option ℕ → Type 0
LastAt f v i o = MatchOption o (LastBefore f v i 0) (λ r. LastBefore f v i (suc r))

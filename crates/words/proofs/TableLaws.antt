-- The table of select in a byte: its rule as one test over all bytes and ranks, which antt computes for the source's numbers. Assumes nothing.
use Rattle.std.proofs.Common.{◌≡◌, ℕ, zero, suc, ◌<◌, Bool, true, ◌&&◌, eqb, List, [], length, get_or, le_of_suc-le-suc, not-suc-le-zero, eqb-true}
use Rattle.words.specs.Bits.{sum_to}
use Rattle.words.specs.Strip.{least}
use Rattle.words.specs.Words.{select_in}
use Rattle.words.specs.Working.{SelectTable}
use Rattle.words.proofs.BoolLaws.{and_first, and_second}

-- ---- a test over the numbers below n
-- t holds at each of them
unfoldable all : (ℕ → Bool) → ℕ → Bool
all t zero = true
all t (suc n) = t zero && all (λ i. t (suc i)) n

-- what the test says of one of them
all_at : (t : ℕ → Bool) (n : ℕ) → all t n ≡ true → (i : ℕ) → i < n → t i ≡ true
unfolding all
all_at t zero h i l = absurd (not-suc-le-zero l)
all_at t (suc n) h zero l = and_first (t zero) (all (λ i. t (suc i)) n) h
all_at t (suc n) h (suc i) l = all_at (λ i. t (suc i)) n (and_second (t zero) (all (λ i. t (suc i)) n) h) i (le_of_suc-le-suc l)

-- ---- the table
-- entry k of row b is select in the byte b
unfoldable agrees : List (List ℕ) → ℕ → ℕ → Bool
unfolding least sum_to
agrees rows b k = eqb (get_or (get_or rows b []) k 0) (select_in 8 b 1 k)

-- the test of a table: all bytes and all ranks
unfoldable pub passes : List (List ℕ) → Bool
unfolding all agrees
passes rows = all (λ b. all (agrees rows b) 8) 256

-- rows that pass are a right table
pub passed : (rows : List (List ℕ)) → length rows ≡ 256 → passes rows ≡ true → SelectTable rows
unfolding passes agrees
passed rows n t = record {
  long = n;
  right = λ b k h l. eqb-true (get_or (get_or rows b []) k 0) (select_in 8 b 1 k)
      (all_at (agrees rows b) 8 (all_at (λ b. all (agrees rows b) 8) 256 t b h) k l);
}

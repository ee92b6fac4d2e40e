-- A word: its bytes, the prefix sums of their ones, and select in it. Assumes nothing.
use Rattle.std.specs.Prelude.{◌≡◌, ℕ, ◌+◌, ◌*◌, ◌/◌, ◌%◌, ◌^◌, ◌<◌}
use Rattle.std.proofs.Math.Option.{Option, some, none}
use Rattle.words.specs.Bits.{bit, sum_to, ones}
use Rattle.words.specs.Strip.{select_of}

-- byte j of a word
abbrev pub byte_of : ℕ → ℕ → ℕ
byte_of x j = x / 2 ^ (8 * j) % 2 ^ 8

-- the ones of byte j: a byte count
abbrev pub ones_in_byte : ℕ → ℕ → ℕ
ones_in_byte x j = ones (bit (byte_of x j)) 8

-- byte j of r is the ones in bytes 0 to j of x
abbrev pub Prefixes : ℕ → ℕ → Type 0
Prefixes x r = (j : ℕ) → j < 8 → byte_of r j ≡ sum_to (ones_in_byte x) (j + 1)

-- a position, or the width n where there is none
abbrev pub place_in : ℕ → Option ℕ → ℕ
place_in n (some p) = p
place_in n none = n

-- the position of the k-th v among the low n bits, or n: 64 for a word with too few, 8 for such a byte
abbrev pub select_in : ℕ → ℕ → ℕ → ℕ → ℕ
select_in n x v k = place_in n (select_of (bit x) n v k)

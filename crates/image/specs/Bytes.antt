-- Little-endian numbers and bits in a list of bytes. Assumes nothing.
use Rattle.std.specs.Prelude.{ℕ, zero, suc, ◌+◌, ◌/◌, ◌%◌, List, [], ◌∷◌, get_or}
use Rattle.words.specs.Bits.{bit, digits}

-- the number of n bytes from byte `at` on, lowest first
abbrev pub num : List ℕ → ℕ → ℕ → ℕ
num s at n = digits 256 (λ i. get_or s (at + i) 0) n

-- the n low bytes of v, lowest first
unfoldable pub le : ℕ → ℕ → List ℕ
le zero v = []
le (suc n) v = v % 256 ∷ le n (v / 256)

-- position p of the bits from byte `at` on: bit p mod 8 of byte p div 8
abbrev pub bit_from : List ℕ → ℕ → ℕ → ℕ
bit_from s at p = bit (get_or s (at + p / 8) 0) (p % 8)

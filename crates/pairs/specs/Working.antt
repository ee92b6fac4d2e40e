-- Derived, for inner contracts: two words and two lists of words joined, and a find's answer. Laws in proofs/ tie them to the definitions. Assumes nothing.
use Rattle.std.specs.Prelude.{◌≡◌, List, ℕ, ◌<◌, Option, MatchOption}
use Rattle.std.proofs.Math.Option.{some, none}
use Rattle.words.specs.Bits.{bit, bit_at}
use Rattle.words.specs.Strip.{select_of}

-- z is the words x and y joined bit by bit
abbrev pub JoinedWord : (ℕ → ℕ → ℕ) → ℕ → ℕ → ℕ → Type 0
JoinedWord r x y z = (p : ℕ) → p < 64 → bit z p ≡ r (bit x p) (bit y p)

-- position p of two lists of words joined
abbrev pub joined_bit : (ℕ → ℕ → ℕ) → List ℕ → List ℕ → ℕ → ℕ
joined_bit r ws vs p = r (bit_at ws p) (bit_at vs p)

-- o is the position of the k-th one of the first n cells f, if there is one
abbrev pub KthOf : (f : ℕ → ℕ) (n k : ℕ) → Option ℕ → Type 0
KthOf f n k o = MatchOption o (select_of f n 1 k ≡ none) (λ p. select_of f n 1 k ≡ some p)

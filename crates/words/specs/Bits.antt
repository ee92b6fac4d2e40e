-- Bits of a word and of a list of words, sums over positions, digits, lists by their elements. Assumes nothing.
use Rattle.std.specs.Prelude.{ℕ, zero, suc, ◌+◌, ◌*◌, ◌/◌, ◌%◌, ◌^◌, Bool, true, false, ◌&&◌, List, [], ◌∷◌, ◌==◌, slice_index}

-- bit p of a word; bit 0 has weight 1
abbrev pub bit : ℕ → ℕ → ℕ
bit x p = x / 2 ^ p % 2

-- position p of a list of words: bit p mod 64 of word p div 64
abbrev pub bit_at : List ℕ → ℕ → ℕ
bit_at ws p = bit (slice_index ws (p / 64)) (p % 64)

-- the sum f 0 + f 1 + .. + f (n - 1)
unfoldable pub sum_to : (ℕ → ℕ) → ℕ → ℕ
sum_to f zero = zero
sum_to f (suc n) = sum_to f n + f n

-- the ones among the first n of the bits f: their sum
abbrev pub ones : (ℕ → ℕ) → ℕ → ℕ
ones f n = sum_to f n

-- the number whose n digits in base b are g 0, g 1, .., lowest first
unfoldable pub digits : ℕ → (ℕ → ℕ) → ℕ → ℕ
digits b g zero = zero
digits b g (suc n) = g zero + b * digits b (λ i. g (suc i)) n

-- the list f 0, f 1, .., f (n - 1)
unfoldable pub list_of : (ℕ → ℕ) → ℕ → List ℕ
list_of f zero = []
list_of f (suc n) = f zero ∷ list_of (λ i. f (suc i)) n

-- whether two lists are the same
unfoldable pub same : List ℕ → List ℕ → Bool
same [] [] = true
same [] (y ∷ ys) = false
same (x ∷ xs) [] = false
same (x ∷ xs) (y ∷ ys) = x == y && same xs ys

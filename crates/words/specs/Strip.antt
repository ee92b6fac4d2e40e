-- The strip, count, find, next and prior over it, by their standard names, and the ones of a span. Assumes nothing.
use Rattle.std.specs.Prelude.{◌≡◌, ℕ, zero, suc, ◌+◌, ◌-◌, ◌≤◌, min, Bool, cond, ◌&&◌, List, length, ◌==◌, nat_eq, nat_le, nat_lt, slice_index}
use Rattle.std.proofs.Math.Option.{Option, some, none}
use Rattle.words.specs.Bits.{bit_at, ones, list_of}

-- a strip is a list of bits, position 0 first: the bit at position p
abbrev pub cell : List ℕ → ℕ → ℕ
cell s p = slice_index s p

-- a value that is a bit, as a number
abbrev pub as_bit : Bool → ℕ
as_bit b = cond b 1 0

-- v neither 0 nor 1: no cell holds it
abbrev pub bad_value : ℕ → Bool
bad_value v = nat_lt 1 v

-- the strip of length n that a list of words holds
abbrev pub strip_of : List ℕ → ℕ → List ℕ
strip_of ws n = list_of (bit_at ws) n

-- bits at and past the length n are 0
abbrev pub PastZero : List ℕ → ℕ → Type 0
PastZero ws n = (p : ℕ) → n ≤ p → bit_at ws p ≡ 0

-- a, or b where a is none
abbrev pub or_else : {A : Type 0} → Option A → Option A → Option A
or_else (some p) b = some p
or_else none b = b

-- the smallest position below n that passes the test
unfoldable pub least : (ℕ → Bool) → ℕ → Option ℕ
least t zero = none
least t (suc n) = or_else (least t n) (cond (t n) (some n) none)

-- the largest position below n that passes the test
unfoldable pub greatest : (ℕ → Bool) → ℕ → Option ℕ
greatest t zero = none
greatest t (suc n) = cond (t n) (some n) (greatest t n)

-- 1 where the cell holds v, else 0
abbrev pub holds : (ℕ → ℕ) → ℕ → ℕ → ℕ
holds f v p = cond (f p == v) 1 0

-- The four definitions over any cells f: those of a strip, of a word, of a byte. Where a search has no other bound, n cells are searched.

-- count(v, i): how many of the first i cells equal v
abbrev pub rank_of : (ℕ → ℕ) → ℕ → ℕ → ℕ
rank_of f v i = ones (holds f v) i

-- find(v, k): the position p that holds v and has count(v, p) = k
abbrev pub select_of : (ℕ → ℕ) → ℕ → ℕ → ℕ → Option ℕ
select_of f n v k = least (λ p. (f p == v) && rank_of f v p == k) n

-- next(v, i): the smallest position at or past i, below n, holding v
abbrev pub successor_of : (ℕ → ℕ) → ℕ → ℕ → ℕ → Option ℕ
successor_of f n v i = least (λ p. nat_le i p && f p == v) n

-- prior(v, i): the largest position below i holding v
abbrev pub predecessor_of : (ℕ → ℕ) → ℕ → ℕ → Option ℕ
predecessor_of f v i = greatest (λ p. nat_eq (f p) v) i

-- The same over a strip, which has as many cells as it is long.

abbrev pub rank : List ℕ → ℕ → ℕ → ℕ
rank s v i = rank_of (cell s) v (min i (length s))

-- the total: the ones of a strip
abbrev pub total_of : List ℕ → ℕ
total_of s = rank s 1 (length s)

-- the number of v, 0 or 1, among n bits of which x are ones
abbrev pub of_value : ℕ → ℕ → ℕ → ℕ
of_value v n x = cond (v == 1) x (n - x)

abbrev pub select : List ℕ → ℕ → ℕ → Option ℕ
select s v k = select_of (cell s) (length s) v k

abbrev pub successor : List ℕ → ℕ → ℕ → Option ℕ
successor s v i = successor_of (cell s) (length s) v i

abbrev pub predecessor : List ℕ → ℕ → ℕ → Option ℕ
predecessor s v i = predecessor_of (cell s) v (min i (length s))

-- the ones of a strip in positions a to b - 1
abbrev pub span_ones : List ℕ → ℕ → ℕ → ℕ
span_ones s a b = ones (λ p. cell s (a + p)) (b - a)

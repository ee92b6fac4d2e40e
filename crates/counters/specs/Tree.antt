-- The counters over a strip: blocks, nodes, levels, their order, and which counters count a stroke. `f p` is the bit at position p, and n the
-- number of blocks. Assumes nothing.
use Rattle.std.specs.Prelude.{ℕ, zero, suc, ◌+◌, ◌-◌, ◌*◌, ◌/◌, ◌%◌, ◌^◌, Bool, cond, ◌&&◌, List, [], ◌++◌, ◌==◌, nat_le, nat_lt, slice_index}
use Rattle.words.specs.Bits.{sum_to, ones, list_of}
use Rattle.words.specs.Handles.{block_bits}

-- the number of blocks of a capacity
abbrev pub blocks_of : ℕ → ℕ
blocks_of c = c / block_bits

-- level t has the number of blocks divided by 64^t, rounded up, nodes
unfoldable pub nodes : ℕ → ℕ → ℕ
nodes n t = (n + (64 ^ t - 1)) / 64 ^ t

-- the height: the least of 1, 2, 3 with 64^h at least the number of blocks, which is at most 64^3
unfoldable pub height : ℕ → ℕ
height n = cond (nat_le n (64 ^ 1)) 1 (cond (nat_le n (64 ^ 2)) 2 3)

-- the bits of a child at level t: a block at level 1, at level t + 1 a node of level t
unfoldable pub child_bits : ℕ → ℕ
child_bits t = block_bits * 64 ^ (t - 1)

-- the ones in child m of level t; where f is 0 past the blocks, an absent child counts 0
unfoldable pub child_ones : (ℕ → ℕ) → ℕ → ℕ → ℕ
child_ones f t m = ones (λ p. f (child_bits t * m + p)) (child_bits t)

-- the ones in the children from a up to, not including, b of node j of level t
abbrev pub children_ones : (ℕ → ℕ) → ℕ → ℕ → ℕ → ℕ → ℕ
children_ones f t j a b = sum_to (λ m. child_ones f t (64 * j + a + m)) (b - a)

-- A node has 64 children and 72 counters: 8 summaries, then 64 keys.
-- summary g of a node: the ones in the first 8 times g children
unfoldable pub summary : (ℕ → ℕ) → ℕ → ℕ → ℕ → ℕ
summary f t j g = children_ones f t j 0 (8 * g)

-- key c of a node: the ones in children 8 times (c div 8) to c
unfoldable pub key : (ℕ → ℕ) → ℕ → ℕ → ℕ → ℕ
key f t j c = children_ones f t j (8 * (c / 8)) (c + 1)

-- counter i of node j of level t: summary i for i below 8, else key i - 8
unfoldable pub counter : (ℕ → ℕ) → ℕ → ℕ → ℕ → ℕ
counter f t j i = cond (nat_lt i 8) (summary f t j i) (key f t j (i - 8))

-- the children whose ones counter i gives: from `from_child i` up to, not including, `to_child i`
unfoldable pub from_child : ℕ → ℕ
from_child i = cond (nat_lt i 8) 0 (8 * ((i - 8) / 8))

unfoldable pub to_child : ℕ → ℕ
to_child i = cond (nat_lt i 8) (8 * i) (i - 8 + 1)

-- the nodes of the levels 1 to t
unfoldable pub total : ℕ → ℕ → ℕ
total n t = sum_to (λ s. nodes n (s + 1)) t

-- the number of counters: the node total times 72
abbrev pub counter_count : ℕ → ℕ
counter_count n = 72 * total n (height n)

-- root first, then each lower level, left to right: where counter i of node j of level t stands
unfoldable pub index_of : ℕ → ℕ → ℕ → ℕ → ℕ
index_of n t j i = 72 * (total n (height n) - total n t) + 72 * j + i

-- stroke p lies in this child of level t
abbrev pub child_of : ℕ → ℕ → ℕ
child_of t p = p / child_bits t

-- its child slot at level t
abbrev pub slot : ℕ → ℕ → ℕ
slot t p = child_of t p % 64

-- a counter counts a stroke when the stroke lies in one of the children whose ones it gives
unfoldable pub counts : ℕ → ℕ → ℕ → ℕ → Bool
counts t j i p = nat_le (64 * j + from_child i) (child_of t p) && nat_lt (child_of t p) (64 * j + to_child i)

-- the number of counters that turning stroke p changes: 15 − (c mod 8) − (c div 8), added over levels 1 to h
unfoldable pub change_count : ℕ → ℕ → ℕ
change_count n p = sum_to (λ s. 15 - slot (s + 1) p % 8 - slot (s + 1) p / 8) (height n)

-- the counters of the levels t to 1, as defined for f: the higher level first
unfoldable pub levels : (ℕ → ℕ) → ℕ → ℕ → List ℕ
levels f n zero = []
levels f n (suc t) = list_of (λ y. counter f (suc t) (y / 72) (y % 72)) (72 * nodes n (suc t)) ++ levels f n t

-- how many of the first n numbers of two lists differ
abbrev pub differ : List ℕ → List ℕ → ℕ → ℕ
differ xs ys n = sum_to (λ x. cond (slice_index xs x == slice_index ys x) 0 1) n

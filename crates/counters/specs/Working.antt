-- Derived, for inner contracts: one node, one level, and what a change of the counters does. Laws in proofs/ tie them to the definitions.
-- Assumes nothing.
use Rattle.std.specs.Prelude.{◌≡◌, ℕ, ◌+◌, ◌-◌, ◌*◌, ◌/◌, ◌%◌, ◌^◌, ◌<◌, ◌≤◌, Bool, true, false, cond, ◌&&◌, List, length, nat_le, nat_lt, slice_index}
use Rattle.words.specs.Bits.{sum_to, ones}
use Rattle.counters.specs.declared.shape.Level.{Level}
use Rattle.counters.specs.declared.shape.Climb.{Climb}
use Rattle.counters.specs.declared.shape.Rise.{Rise}
use Rattle.words.specs.Handles.{most_bits}
use Rattle.counters.specs.Tree.{blocks_of, nodes, height, from_child, to_child, counter, counter_count, index_of, counts}
use Rattle.counters.specs.Record.{AllFit}

-- the blocks of the largest capacity
abbrev pub most_blocks : ℕ
most_blocks = blocks_of most_bits

-- xs is as many counters as the tree over n blocks has; n is from 1 to the most
pub record TreeOver (n : ℕ) (xs : List ℕ) : Type 0 where
  pub size : length xs ≡ counter_count n
  pub some : 0 < n
  pub few : n ≤ most_blocks

-- the nodes over `count` children
abbrev pub nodes_over : ℕ → ℕ
nodes_over count = (count + 63) / 64

-- there is room for a level above l before it
abbrev pub RoomAbove : Level → Type 0
RoomAbove l = (l.count ≤ most_blocks) × (72 * nodes_over l.count ≤ l.start)

-- r is the level above l: it has the nodes over those of l, and ends where l starts
pub record Above (l r : Level) : Type 0 where
  pub counted : r.count ≡ nodes_over l.count
  pub ends : r.start + 72 * r.count ≡ l.start

-- r leads one level above c, to the node over c's, which is a child of it in this slot
pub record Up (c : Climb) (r : Rise) : Type 0 where
  pub level : Above c.level r.climb.level
  pub node_is : r.climb.node ≡ c.node / 64
  pub at_is : r.at ≡ r.climb.level.start + 72 * r.climb.node
  pub slot_is : r.slot ≡ c.node % 64

-- the most that two counters give together
abbrev pub most_pair : ℕ
most_pair = 2 * (2 ^ 32 - 1)

-- a counter moved by d, modulo 2^32, where the test holds
abbrev pub moved_by : Bool → ℕ → ℕ → ℕ
moved_by b d x = cond b ((x + d) % 2 ^ 32) x

-- xs begins with z zeros, then eight times d
abbrev pub Steps : (z d : ℕ) → List ℕ → Type 0
Steps z d xs = (i : ℕ) → i < z + 8 → slice_index xs i ≡ cond (nat_le z i) d 0

-- counter i of a node counts the node's child c
abbrev pub counts_child : ℕ → ℕ → Bool
counts_child c i = nat_le (from_child i) c && nat_lt c (to_child i)

-- ys is the counters xs of a node with those moved by d that count the node's child c
abbrev pub NodeMoved : (c d : ℕ) (xs ys : List ℕ) → Type 0
NodeMoved c d xs ys = (i : ℕ) → i < 72 → slice_index ys i ≡ moved_by (counts_child c i) d (slice_index xs i)

-- the counters xs of node j of a level, where B m is the ones in the first m children of the level
abbrev pub Node : (ℕ → ℕ) → ℕ → List ℕ → Type 0
Node B j xs = (i : ℕ) → i < 72 → slice_index xs i + B (64 * j + from_child i) ≡ B (64 * j + to_child i)

-- counter i of a node whose children hold the numbers ts
unfoldable pub node_from : List ℕ → ℕ → ℕ
node_from ts i = sum_to (λ m. slice_index ts (from_child i + m)) (to_child i - from_child i) % 2 ^ 32

-- the ones of the node whose counters start at `at`, by its last summary and its last key
abbrev pub ones_from : List ℕ → ℕ → ℕ
ones_from xs at = slice_index xs (at + 7) + slice_index xs (at + 71)

-- the ones of node m of a level of `count` nodes whose counters start at `from`, by its last summary and its last key
unfoldable pub node_ones : List ℕ → ℕ → ℕ → ℕ → ℕ
node_ones xs from count m = cond (nat_lt m count) (ones_from xs (from + 72 * m) % 2 ^ 32) 0

-- sum and keys of a group of eight children that hold the numbers ts, modulo 2^32
abbrev pub GroupFrom : (ts keys : List ℕ) (sum : ℕ) → Type 0
GroupFrom ts keys sum =
    (sum ≡ sum_to (λ m. slice_index ts m) 8 % 2 ^ 32) × ((i : ℕ) → i < 8 → slice_index keys i ≡ sum_to (λ m. slice_index ts m) (i + 1) % 2 ^ 32)

-- r is the ones of n blocks, where their counters xs fit bits that are 0 past the blocks
abbrev pub OnesHeld : (n : ℕ) (xs : List ℕ) (r : ℕ) → Type 0
OnesHeld n xs r = (f : ℕ → ℕ) → AllFit f n xs → ((p : ℕ) → 512 * n ≤ p → f p ≡ 0) → r ≡ ones f (512 * n)

-- every counter of level t is as defined
abbrev pub LevelFits : (ℕ → ℕ) → ℕ → List ℕ → ℕ → Type 0
LevelFits f n xs t = (j i : ℕ) → j < nodes n t → i < 72 → slice_index xs (index_of n t j i) ≡ counter f t j i

-- ys is xs with every counter that counts stroke p moved by d
pub record PathMovedBy (n p d : ℕ) (xs ys : List ℕ) : Type 0 where
  pub long : length ys ≡ length xs
  pub each : (t j i : ℕ) → 1 ≤ t → t ≤ height n → j < nodes n t → i < 72
      → slice_index ys (index_of n t j i) ≡ moved_by (counts t j i p) d (slice_index xs (index_of n t j i))

-- a test decides a fact
abbrev pub Decides : Bool → Type 0 → Type 0
Decides true A = A
Decides false A = A → ⊥

-- Derived, for the inner contracts of select: the v before a child, and the child that holds the k-th v. Laws in proofs/ tie them to the definitions.
-- Assumes nothing.
use Rattle.std.specs.Prelude.{◌≡◌, ℕ, ◌+◌, ◌-◌, ◌*◌, ◌^◌, ◌<◌, ◌≤◌, List, slice_index, Option, MatchOption}
use Rattle.std.proofs.Math.Option.{some}
use Rattle.words.specs.Bits.{bit_at, ones}
use Rattle.words.specs.Handles.{block_bits}
use Rattle.words.specs.Strip.{rank_of, select_of}
use Rattle.words.specs.Working.{at_most}
use Rattle.counters.specs.Tree.{child_bits, from_child, to_child}
use Rattle.counters.specs.Record.{AllFit}
use Rattle.counters.specs.declared.descent.Spot.{Spot}

-- the bits of a child at level 3, the highest
abbrev pub most_child_bits : ℕ
most_child_bits = block_bits * 64 ^ 2

-- of so many bits x are ones: n are v
abbrev pub ValueCount : (v bits x n : ℕ) → Type 0
ValueCount v bits x n = (v ≡ 1 → n ≡ x) × (v ≡ 0 → n + x ≡ bits)

-- no smaller from one number to the next
abbrev pub Rising : (ℕ → ℕ) → Type 0
Rising B = (a b : ℕ) → a ≤ b → B a ≤ B b

-- the seven counters from place `from` on give the ones in the first 1, 2, .. 7 parts of `size` bits; P m is the v in the first m parts
abbrev pub PartCounters : (P : ℕ → ℕ) (v size : ℕ) (xs : List ℕ) (from : ℕ) → Type 0
PartCounters P v size xs from = (i : ℕ) → i < 7 → ValueCount v (size * (i + 1)) (slice_index xs (from + i)) (P (i + 1))

-- `index` is at most 7; by such counters, it is how many of the parts 1 to 7 end with at most k of v
abbrev pub PartWith : (v size : ℕ) (xs : List ℕ) (from k index : ℕ) → Type 0
PartWith v size xs from k index = (index ≤ 7) × ((P : ℕ → ℕ) → PartCounters P v size xs from → index ≡ ones (at_most (λ i. P (i + 1)) k) 7)

-- by such counters, where no v lies before the first part, `left` is k less the v in the first `index` parts, if these are at most k
abbrev pub LeftAfter : (v size : ℕ) (xs : List ℕ) (from k index left : ℕ) → Type 0
LeftAfter v size xs from k index left = (P : ℕ → ℕ) → PartCounters P v size xs from → P 0 ≡ 0 → P index ≤ k → P index + left ≡ k

-- the 72 counters from place `at` on count the ones in a node whose children have `size` bits; B c is the v before child c
abbrev pub CountersOf : (B : ℕ → ℕ) (v size : ℕ) (xs : List ℕ) (at : ℕ) → Type 0
CountersOf B v size xs at =
    (i n : ℕ) → i < 72 → B (from_child i) + n ≡ B (to_child i) → ValueCount v (size * (to_child i - from_child i)) (slice_index xs (at + i)) n

-- the k-th v lies in child c, with `left` of v before it there
pub record FoundIn (B : ℕ → ℕ) (k c left : ℕ) : Type 0 where
  pub under : B c + left ≡ k
  pub over : k < B (c + 1)

-- by such counters, the k-th v of a node lies in child c, with `left` of v before it there
abbrev pub ChildWith : (v size : ℕ) (xs : List ℕ) (at k c left : ℕ) → Type 0
ChildWith v size xs at k c left =
    (c < 64) × ((B : ℕ → ℕ) (n : ℕ) → Rising B → CountersOf B v size xs at → B 0 + k ≡ n → n < B 64 → FoundIn B n c left)

-- the v before child m of level t
abbrev pub values_before : (f : ℕ → ℕ) (v t m : ℕ) → ℕ
values_before f v t m = rank_of f v (child_bits t * m)

-- for all bits that the counters fit and that hold a k-th v in n blocks
abbrev pub WhereFit : (n v : ℕ) (xs : List ℕ) (k : ℕ) → ((ℕ → ℕ) → Type 0) → Type 0
WhereFit n v xs k P = (f : ℕ → ℕ) → ((p : ℕ) → f p ≤ 1) → AllFit f n xs → k < rank_of f v (512 * n) → P f

-- where the counters fit bits that hold a k-th v in n blocks, it lies in the block found, with `left` of v before it there; none is found only where they
-- fit no such bits
abbrev pub BlockWith : (n v : ℕ) (xs : List ℕ) (k : ℕ) → Option Spot → Type 0
BlockWith n v xs k o =
    MatchOption o (WhereFit n v xs k (λ f. ⊥))
    (λ s. (s.index < n) × WhereFit n v xs k (λ f. FoundIn (values_before f v 1) k s.index s.left))

-- where the counters fit the words, which hold a k-th v in n blocks, its position is found; none is found only where they do not
abbrev pub PositionOf : (n v : ℕ) (ws xs : List ℕ) (k : ℕ) → Option ℕ → Type 0
PositionOf n v ws xs k o =
    MatchOption o (AllFit (bit_at ws) n xs → k < rank_of (bit_at ws) v (512 * n) → ⊥)
    (λ r. (r < 512 * n) × (AllFit (bit_at ws) n xs → k < rank_of (bit_at ws) v (512 * n) → select_of (bit_at ws) (512 * n) v k ≡ some r))

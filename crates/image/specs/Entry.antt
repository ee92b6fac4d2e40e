-- Derived, for inner contracts: the entry of kind 1 by its fields, what it tells, from its numbers, and in two words. EntryLaws ties them to `Kinds.kind1`.
-- Assumes nothing.
use Rattle.std.specs.Prelude.{ℕ, zero, suc, ◌+◌, ◌*◌, ◌/◌, ◌%◌, ◌^◌, ◌<◌, ◌≡◌, List, length, get_or}
use Rattle.words.specs.Bits.{digits}
use Rattle.words.specs.Strip.{of_value}
use Rattle.words.specs.Handles.{block_bits}
use Rattle.image.specs.Kinds.{kind1}
use Rattle.image.specs.Reading.{ones_told}

-- the fields of an entry v: the ones before its superblock, and those of the superblock before its block j
abbrev pub superblock_field : ℕ → ℕ
superblock_field v = v % 2 ^ 44

unfoldable pub block_field : ℕ → ℕ → ℕ
block_field v zero = 0
block_field v (suc j) = v / 2 ^ (44 + 12 * j) % 2 ^ 12

-- the row's ones before block j of its superblock, as an entry v tells
abbrev pub entry_told : ℕ → ℕ → ℕ
entry_told v j = superblock_field v + block_field v j

-- those before block m of a row's part, as the entry of its superblock tells
unfoldable pub entry_ones : List ℕ → ℕ → ℕ
entry_ones part m = ones_told kind1 entry_told part m

-- the number of v before it
abbrev pub entry_values : List ℕ → ℕ → ℕ → ℕ
entry_values part v m = of_value v (block_bits * m) (entry_ones part m)

-- the numbers of an entry fit its fields: the ones before its superblock, and the first seven of eight counts
pub record EntryFits (before : ℕ) (counts : List ℕ) : Type 0 where
  pub first : before < 2 ^ 44
  pub long : length counts ≡ 8
  pub others : (j : ℕ) → j < 7 → get_or counts j 0 < 2 ^ 12

-- the entry with these numbers
abbrev pub entry_from : ℕ → List ℕ → ℕ
entry_from before counts = before + 2 ^ 44 * digits (2 ^ 12) (λ j. get_or counts j 0) 7

-- the number v as two words
pub record HalvesOf (v low high : ℕ) : Type 0 where
  pub whole : low + 2 ^ 64 * high ≡ v
  pub small : low < 2 ^ 64

-- Derived, for inner contracts: what the entries of a row's part tell, where a search over its blocks of 512 bits stands, the position found, the padding, and
-- the bytes that pad the entries. Laws in proofs/ tie them to the definitions. Assumes nothing.
use Rattle.std.specs.Prelude.{ℕ, ◌+◌, ◌*◌, ◌/◌, ◌%◌, ◌≤◌, ◌<◌, ◌≡◌, List, ◌⊎◌, length, get_or, Option, MatchOption}
use Rattle.words.specs.Strip.{cell, rank_of, select_of}
use Rattle.words.specs.Words.{place_in}
use Rattle.image.specs.Bytes.{num, bit_from}
use Rattle.image.specs.Kinds.{Kind}
use Rattle.image.specs.Layout.{head_bytes, superblock_blocks, superblocks_of, entries_bytes, pad_bytes, bits_start}
use Rattle.image.specs.Rows.{row_bits, Right}

-- entry e of a part, and that the part has it
abbrev pub entry_number : Kind → List ℕ → ℕ → ℕ
entry_number K part e = num part (head_bytes + K.entry_bytes * e) K.entry_bytes

abbrev pub HasEntry : Kind → List ℕ → ℕ → Type 0
HasEntry K part e = head_bytes + K.entry_bytes * e + K.entry_bytes ≤ length part

-- the ones before block m, as the entry of its superblock tells: `told v j` are those before block j of the superblock of an entry v
abbrev pub ones_told : Kind → (ℕ → ℕ → ℕ) → List ℕ → ℕ → ℕ
ones_told K told part m = told (entry_number K part (m / superblock_blocks K)) (m % superblock_blocks K)

-- of the numbers P 0 to P (end - 1), a search for k has come to the places lo to hi - 1: P lo is at most k unless lo is the first place, and P hi is
-- above k unless hi is past the last
pub record Halved (P : ℕ → ℕ) (end k lo hi : ℕ) : Type 0 where
  pub low : (lo ≡ 0) ⊎ (P lo ≤ k)
  pub high : (end ≤ hi) ⊎ (k < P hi)

-- o is, of a right row, the position of the k-th v, if there is one; of any row it is below n
abbrev pub PositionIn : Kind → List ℕ → ℕ → ℕ → ℕ → Option ℕ → Type 0
PositionIn K part n v k o =
    MatchOption o (Right K part n → rank_of (cell (row_bits K part n)) v n ≤ k)
    (λ p. (p < n) × (Right K part n → k < rank_of (cell (row_bits K part n)) v n → p ≡ place_in n (select_of (cell (row_bits K part n)) n v k)))

-- the bits of a row's part past its length n are zero, to the end of its last superblock
abbrev pub PaddingZero : Kind → List ℕ → ℕ → Type 0
PaddingZero K part n = (p : ℕ) → n ≤ p → p < K.superblock_bits * superblocks_of K n → bit_from part (bits_start K n) p ≡ 0

-- the bytes that pad its entries to a whole unit are zero
abbrev pub PadZero : Kind → List ℕ → ℕ → Type 0
PadZero K part n = (i : ℕ) → i < pad_bytes K n → get_or part (head_bytes + entries_bytes K n + i) 0 ≡ 0

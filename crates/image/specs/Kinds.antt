-- The kinds of image: what differs between them. Assumes nothing.
use Rattle.std.specs.Prelude.{ℕ, ◌+◌, ◌*◌, ◌^◌, Bool, false, cond, ◌||◌, List, [], ◌∷◌, eqb}
use Rattle.words.specs.Bits.{ones, digits}
use Rattle.words.specs.Handles.{block_bits}

-- a kind of image. A superblock is the image's block, whose parts of 512 bits are blocks
pub record Kind : Type 0 where
  -- its number in the header
  pub number : ℕ
  -- the bits of a superblock
  pub superblock_bits : ℕ
  -- the bytes of an entry
  pub entry_bytes : ℕ
  -- the entry, a number, of a superblock of these bits with so many of the row's ones before it
  pub entry : (ℕ → ℕ) → ℕ → ℕ

-- kind 1: a superblock has 4,096 bits, an entry 128 bits. The lowest 44 bits hold the row's ones before the superblock, the 12 bits from bit
-- 44 + 12 times (j - 1) on, for j = 1 to 7, the ones of the superblock before its block j
abbrev pub kind1 : Kind
kind1 = record {
  number = 1;
  superblock_bits = 4096;
  entry_bytes = 16;
  entry = λ g before. before + 2 ^ 44 * digits (2 ^ 12) (λ j. ones g (block_bits * (j + 1))) 7;
}

-- all kinds
abbrev pub kinds : List Kind
kinds = kind1 ∷ []

-- the kind with a number, among some; kind 1 where none has it
unfoldable pub kind_among : List Kind → ℕ → Kind
kind_among [] n = kind1
kind_among (K ∷ Ks) n = cond (eqb K.number n) K (kind_among Ks n)

-- whether one of some kinds has the number
unfoldable pub is_kind : List Kind → ℕ → Bool
is_kind [] n = false
is_kind (K ∷ Ks) n = eqb K.number n || is_kind Ks n

-- the kind that clear gives an image
abbrev pub clear_kind : Kind
clear_kind = kind1

-- A row by its own part of the image: its bits, and whether it is right; an image whose rows all are. Assumes nothing.
use Rattle.std.specs.Prelude.{ℕ, ◌<◌, ◌≡◌, Bool, List, length, get_or, take, drop}
use Rattle.std.proofs.Math.Option.{some}
use Rattle.words.specs.Bits.{list_of, same}
use Rattle.image.specs.Bytes.{bit_from}
use Rattle.image.specs.Kinds.{Kind}
use Rattle.image.specs.Layout.{bits_start, size_of, record_of}
use Rattle.image.specs.Chain.{next_at, label_at, length_at, kind_of, chain_of}

-- the row's own part of the image, from its record's start to its end
abbrev pub part_at : Kind → List ℕ → ℕ → List ℕ
part_at K s a = take (size_of K (length_at s a)) (drop a s)

-- the row's bits: those of a part of n bits
abbrev pub row_bits : Kind → List ℕ → ℕ → List ℕ
row_bits K part n = list_of (bit_from part (bits_start K n)) n

-- a row is right, its ones, entries and padding, when its part is the record that would be written for its bits
abbrev pub Right : Kind → List ℕ → ℕ → Type 0
Right K part n = part ≡ record_of K (next_at part 0) (label_at part 0) (row_bits K part n)

-- whether a row is right
abbrev pub right_part : Kind → List ℕ → ℕ → Bool
right_part K part n = same part (record_of K (next_at part 0) (label_at part 0) (row_bits K part n))

-- the row of the record at byte a is right
abbrev pub RightAt : Kind → List ℕ → ℕ → Type 0
RightAt K s a = Right K (part_at K s a) (length_at s a)

-- an image that obeys the layout: a sound chain of right rows
pub record Obeys (s : List ℕ) : Type 0 where
  pub records : List ℕ
  pub sound : chain_of s ≡ some records
  pub right : (i : ℕ) → i < length records → RightAt (kind_of s) s (get_or records i 0)

-- one whose chain is sound and some row of which is not right
pub record HasWrongRow (s : List ℕ) : Type 0 where
  pub records : List ℕ
  pub sound : chain_of s ≡ some records
  pub index : ℕ
  pub within : index < length records
  pub wrong : RightAt (kind_of s) s (get_or records index 0) → ⊥

-- The layout of a record: sizes, entries, bytes. Assumes nothing.
use Rattle.std.specs.Prelude.{ℕ, zero, suc, ◌+◌, ◌-◌, ◌*◌, ◌/◌, List, [], ◌++◌, length, replicate}
use Rattle.words.specs.Bits.{ones, digits, list_of}
use Rattle.words.specs.Strip.{cell, total_of}
use Rattle.words.specs.Handles.{block_bits, most_bits}
use Rattle.image.specs.Bytes.{le}
use Rattle.image.specs.Kinds.{Kind}

-- a unit of the image, in bytes
abbrev pub unit_bytes : ℕ
unit_bytes = 16

-- the bytes of a block of 512 bits
abbrev pub block_bytes : ℕ
block_bytes = block_bits / 8

-- the longest image in bytes, the highest label, and the longest row in bits: that of the largest capacity
abbrev pub most_bytes : ℕ
most_bytes = 4294967296

abbrev pub most_label : ℕ
most_label = 64

abbrev pub most_row : ℕ
most_row = most_bits

-- the bytes of the four numbers that a record starts with
abbrev pub head_bytes : ℕ
head_bytes = 16

-- Sizes, for each kind K.

-- the blocks of a superblock, and the bytes of its bits
abbrev pub superblock_blocks : Kind → ℕ
superblock_blocks K = K.superblock_bits / block_bits

abbrev pub superblock_bytes : Kind → ℕ
superblock_bytes K = K.superblock_bits / 8

-- E, the superblocks of n bits: n divided by the bits of one, rounded up
abbrev pub superblocks_of : Kind → ℕ → ℕ
superblocks_of K n = (n + (K.superblock_bits - 1)) / K.superblock_bits

-- the bytes of their entries
abbrev pub entries_bytes : Kind → ℕ → ℕ
entries_bytes K n = K.entry_bytes * superblocks_of K n

-- so many bytes, padded to a whole unit
abbrev pub whole_units : ℕ → ℕ
whole_units bytes = unit_bytes * ((bytes + (unit_bytes - 1)) / unit_bytes)

-- the zero bytes that pad the entries
abbrev pub pad_bytes : Kind → ℕ → ℕ
pad_bytes K n = whole_units (entries_bytes K n) - entries_bytes K n

-- where the bits start in a record: after four numbers and the entries, padded to a whole unit
abbrev pub bits_start : Kind → ℕ → ℕ
bits_start K n = head_bytes + whole_units (entries_bytes K n)

-- the size of a record; of kind 1 it is 16 + 528 times E bytes
abbrev pub size_of : Kind → ℕ → ℕ
size_of K n = bits_start K n + superblock_bytes K * superblocks_of K n

-- entry e over bits f: that of superblock e, with the row's ones before it
unfoldable pub entry_of : Kind → (ℕ → ℕ) → ℕ → ℕ
entry_of K f e = K.entry (λ p. f (K.superblock_bits * e + p)) (ones f (K.superblock_bits * e))

-- the entries of superblocks e to e + n - 1
unfoldable pub entries_from : Kind → (ℕ → ℕ) → ℕ → ℕ → List ℕ
entries_from K f e zero = []
entries_from K f e (suc n) = le K.entry_bytes (entry_of K f e) ++ entries_from K f (suc e) n

-- n zero bytes
abbrev pub zeros : ℕ → List ℕ
zeros n = replicate n 0

-- the first n bytes of bits f
abbrev pub bytes_of : (ℕ → ℕ) → ℕ → List ℕ
bytes_of f n = list_of (λ b. digits 2 (λ j. f (8 * b + j)) 8) n

-- a record: next index, label, length in bits, number of ones; the entries, padded with zero bytes to a whole unit; the bits, zero past the length
unfoldable pub record_of : Kind → ℕ → ℕ → List ℕ → List ℕ
record_of K next label s =
    le 4 next ++ (le 4 label ++ (le 4 (length s) ++ (le 4 (total_of s)
    ++ (entries_from K (cell s) 0 (superblocks_of K (length s)) ++ (zeros (pad_bytes K (length s))
    ++ bytes_of (cell s) (superblock_bytes K * superblocks_of K (length s)))))))

-- Derived, for inner contracts: what is stored while a record is written. Laws in proofs/ tie it to the layout. Assumes nothing.
use Rattle.std.specs.Prelude.{ℕ, ◌+◌, ◌*◌, ◌<◌, ◌≤◌, ◌≡◌, List, length, get_or, Result, Ok, Err}
use Rattle.std.proofs.lemmas.List.Edits.{sets}
use Rattle.words.specs.Bits.{ones}
use Rattle.words.specs.Handles.{block_bits}
use Rattle.words.specs.Strip.{cell}
use Rattle.words.specs.declared.handle.Handle.{Handle}
use Rattle.words.specs.Refusals.{number_of, judge, unless}
use Rattle.image.specs.declared.write.Target.{Target}
use Rattle.words.specs.declared.refusal.Refusal.{Refusal}
use Rattle.image.specs.declared.freezing.Place.{Place}
use Rattle.image.specs.Bytes.{le}
use Rattle.image.specs.Kinds.{Kind}
use Rattle.image.specs.Layout.{superblock_blocks, superblock_bytes, most_row, entries_from, bytes_of}
use Rattle.image.specs.Chain.{kind_of, chain_end, link_of}
use Rattle.image.specs.Calls.{records_of, record_lines, freeze_table}

-- where a new record goes: the byte where the index that ends the chain stands, and the byte where the record starts; or the number of a refusal
pub data PlaceTold : Type 0 where
  at : ℕ → ℕ → PlaceTold
  nowhere : ℕ → PlaceTold

abbrev pub place_told : Result Place Refusal → PlaceTold
place_told (Ok p) = at p.link p.start
place_told (Err r) = nowhere (number_of r)

-- that of a record of so many bytes
abbrev pub new_place : List ℕ → ℕ → ℕ → PlaceTold
new_place s label size = unless (judge (record_lines s label size)) nowhere (at (link_of (records_of s)) (chain_end (kind_of s) s (records_of s)))

-- that of the record of a strip
abbrev pub freeze_place : Handle → ℕ → List ℕ → ℕ → PlaceTold
freeze_place h words s label = unless (judge (freeze_table h words s label)) nowhere (at (link_of (records_of s)) (chain_end (kind_of s) s (records_of s)))

-- the ones of a superblock of bits g up to the end of each of its blocks
pub record BlockCounts (K : Kind) (g : ℕ → ℕ) (counts : List ℕ) : Type 0 where
  pub long : length counts ≡ superblock_blocks K
  pub ends : (j : ℕ) → j < superblock_blocks K → get_or counts j 0 ≡ ones g (block_bits * (j + 1))

-- t is s with the first m bytes of the bits g stored from byte `at` on; r is their ones
pub record BitsPut (g : ℕ → ℕ) (m at : ℕ) (s t : List ℕ) (r : ℕ) : Type 0 where
  pub same : t ≡ sets s at (bytes_of g m)
  pub count : r ≡ ones g (8 * m)

-- t is s with the bytes of a superblock of bits g stored from byte `at` on; counts are its ones up to the end of each of its blocks
pub record CountedPut (K : Kind) (g : ℕ → ℕ) (at : ℕ) (s t counts : List ℕ) : Type 0 where
  pub same : t ≡ sets s at (bytes_of g (superblock_bytes K))
  pub counted : BlockCounts K g counts

-- the bits of a strip from word w on, from its block b on, and those of its superblock e
abbrev pub word_cells : List ℕ → ℕ → ℕ → ℕ
word_cells t w p = cell t (64 * w + p)

abbrev pub block_cells : List ℕ → ℕ → ℕ → ℕ
block_cells t b p = cell t (block_bits * b + p)

abbrev pub superblock_cells : Kind → List ℕ → ℕ → ℕ → ℕ
superblock_cells K t e p = cell t (K.superblock_bits * e + p)

-- a superblock fits where it goes in the image s: its entry before its bits, and no more ones before it than a row may have bits
abbrev pub TargetFits : Kind → Target → List ℕ → Type 0
TargetFits K to s = (to.entry + K.entry_bytes ≤ to.bits) × (to.bits + superblock_bytes K ≤ length s) × (to.before ≤ most_row)

-- t is s with the entry and the bits of a superblock of bits g stored where they go; r is the ones up to its end
pub record SuperblockPut (K : Kind) (g : ℕ → ℕ) (to : Target) (s t : List ℕ) (r : ℕ) : Type 0 where
  pub same : t ≡ sets (sets s to.entry (le K.entry_bytes (K.entry g to.before))) to.bits (bytes_of g (superblock_bytes K))
  pub count : r ≡ to.before + ones g K.superblock_bits

-- t is s with the first k entries of the bits f stored from byte a on and the bits of as many superblocks from byte b on; r is their ones
pub record RowPut (K : Kind) (f : ℕ → ℕ) (k a b : ℕ) (s t : List ℕ) (r : ℕ) : Type 0 where
  pub same : t ≡ sets (sets s a (entries_from K f 0 k)) b (bytes_of f (superblock_bytes K * k))
  pub count : r ≡ ones f (K.superblock_bits * k)

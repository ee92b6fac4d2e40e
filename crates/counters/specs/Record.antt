-- A record: words and counters under a handle. Assumes nothing.
use Rattle.std.specs.Prelude.{◌≡◌, ℕ, ◌+◌, ◌*◌, ◌<◌, ◌≤◌, List, slice_index}
use Rattle.words.specs.Bits.{bit_at, digits, list_of}
use Rattle.words.specs.Strip.{cell, strip_of, PastZero, total_of}
use Rattle.words.specs.Handles.{words_of, handle_of}
use Rattle.words.specs.declared.handle.Handle.{Handle}
use Rattle.counters.specs.Tree.{blocks_of, nodes, height, counter, index_of, levels}

-- a handle with its words and counters
pub record StripRecord : Type 0 where
  pub handle : Handle
  pub words : List ℕ
  pub counters : List ℕ

-- every counter of n blocks is as defined for the bits f
abbrev pub AllFit : (ℕ → ℕ) → ℕ → List ℕ → Type 0
AllFit f n xs = (t j i : ℕ) → 1 ≤ t → t ≤ height n → j < nodes n t → i < 72 → slice_index xs (index_of n t j i) ≡ counter f t j i

-- a record fits when the bits past the length are 0, every counter is as defined, and the total is the ones of its words
pub record Fits (h : Handle) (ws cs : List ℕ) : Type 0 where
  pub clean : PastZero ws h.length
  pub right : AllFit (bit_at ws) (blocks_of h.capacity) cs
  pub held : h.total ≡ total_of (strip_of ws h.length)

-- laid afresh from a strip: the words with its bits at their positions and zeros past its length
unfoldable pub packed_words : ℕ → List ℕ → List ℕ
packed_words c s = list_of (λ k. digits 2 (λ j. cell s (64 * k + j)) 64) (words_of c)

-- and every counter as defined for them
unfoldable pub built_counters : ℕ → List ℕ → List ℕ
built_counters c s = levels (cell s) (blocks_of c) (height (blocks_of c))

-- the record laid afresh from a strip s of capacity c
abbrev pub built_record : ℕ → List ℕ → StripRecord
built_record c s = record { handle = handle_of c s; words = packed_words c s; counters = built_counters c s }

-- The text that lists an image's rows, in bytes of ASCII. Assumes nothing.
use Rattle.std.specs.Prelude.{ℕ, zero, suc, ◌+◌, ◌*◌, ◌/◌, ◌%◌, true, false, cond, List, [], ◌∷◌, ◌++◌, length, ltb, Some, None}
use Rattle.std.specs.Prelude as rust
use Rattle.std.proofs.Math.Option.{Option, some, none}
use Rattle.std.proofs.lemmas.List.Edits.{sets}
use Rattle.words.specs.Refusals.{Told, value, refused}
use Rattle.image.specs.Layout.{most_label}
use Rattle.image.specs.Chain.{label_at, length_at, ones_at}
use Rattle.image.specs.Calls.{records_of, inspect_told}

-- the last digits of n in decimal, at most `steps` of them
unfoldable pub digits_in : ℕ → ℕ → List ℕ
digits_in zero n = []
digits_in (suc steps) n = elim (ltb n 10) [ true ↦ [] | false ↦ digits_in steps (n / 10) ] ++ ((48 + n % 10) ∷ [])

-- n in decimal; n + 1 digits are always enough
unfoldable pub decimal : ℕ → List ℕ
decimal n = digits_in (suc n) n

abbrev pub space : ℕ
space = 32

abbrev pub newline : ℕ
newline = 10

-- n in decimal, and a byte after it
abbrev pub ended_by : ℕ → ℕ → List ℕ
ended_by n last = decimal n ++ (last ∷ [])

-- the line of a row: label, L, ones, in decimal
abbrev pub line : ℕ → ℕ → ℕ → List ℕ
line label n ones = ended_by label space ++ (ended_by n space ++ ended_by ones newline)

-- that of the record at byte a
abbrev pub row_line : List ℕ → ℕ → List ℕ
row_line s a = line (label_at s a) (length_at s a) (ones_at s a)

-- one line per row
unfoldable pub rows_text : List ℕ → List ℕ → List ℕ
rows_text s [] = []
rows_text s (a ∷ rs) = row_line s a ++ rows_text s rs

-- `refused ` and the number
abbrev pub refused_line : ℕ → List ℕ
refused_line n = (114 ∷ 101 ∷ 102 ∷ 117 ∷ 115 ∷ 101 ∷ 100 ∷ space ∷ []) ++ ended_by n newline

-- `too long`
abbrev pub too_long_line : List ℕ
too_long_line = 116 ∷ 111 ∷ 111 ∷ space ∷ 108 ∷ 111 ∷ 110 ∷ 103 ∷ newline ∷ []

-- the text after what inspect tells: the rows in chain order, or the refusal
abbrev pub told_text : List ℕ → Told → List ℕ
told_text s (value n) = rows_text s (records_of s)
told_text s (refused n) = refused_line n

-- the longest image that is listed, in bytes
abbrev pub most_listed : ℕ
most_listed = 65536

-- the text of an image
unfoldable pub text_of : List ℕ → List ℕ
text_of s = cond (ltb most_listed (length s)) too_long_line (told_text s (inspect_told s))

-- room for any text: a line of at most 23 bytes for each of 64 labels
abbrev pub line_bytes : ℕ
line_bytes = 23

abbrev pub text_bytes : ℕ
text_bytes = most_label * line_bytes

-- how many bytes were written; none where the buffer is shorter than that
abbrev pub written_of : rust.Option ℕ → Option ℕ
written_of None = none
written_of (Some n) = some n

-- with the buffer as the call leaves it
pub record ListingOutcome : Type 0 where
  pub written : Option ℕ
  pub out : List ℕ

abbrev pub outcome : Option ℕ → List ℕ → ListingOutcome
outcome n o = record { written = n; out = o }

-- the text is stored from byte 0 on, and every later byte stays; in too short a buffer every byte stays
unfoldable pub listing_outcome : List ℕ → List ℕ → ListingOutcome
listing_outcome s o = cond (ltb (length o) text_bytes) (outcome none o) (outcome (some (length (text_of s))) (sets o 0 (text_of s)))

-- The header and the chain of records. Assumes nothing.
use Rattle.std.specs.Prelude.{ℕ, zero, suc, ◌+◌, ◌*◌, List, [], ◌∷◌, ◌++◌, Bool, true, false, cond, not, ◌&&◌, ◌||◌, length, leb, eqb}
use Rattle.std.proofs.Math.Option.{Option, some, none}
use Rattle.image.specs.Bytes.{num, le}
use Rattle.image.specs.Kinds.{Kind, kinds, kind_among, is_kind}
use Rattle.image.specs.Layout.{unit_bytes, head_bytes, most_bytes, most_label, most_row, size_of}

-- the header: the first record's unit index, zero where there is none; the kind; zeros
abbrev pub header_of : Kind → ℕ → List ℕ
header_of K first = le 4 first ++ (le 4 K.number ++ le 8 0)

-- the kind of an image, by the number in its header
unfoldable pub kind_of : List ℕ → Kind
kind_of s = kind_among kinds (num s 4 4)

-- the numbers of the record that starts at byte a
abbrev pub next_at : List ℕ → ℕ → ℕ
next_at s a = num s a 4

abbrev pub label_at : List ℕ → ℕ → ℕ
label_at s a = num s (a + 4) 4

abbrev pub length_at : List ℕ → ℕ → ℕ
length_at s a = num s (a + 8) 4

abbrev pub ones_at : List ℕ → ℕ → ℕ
ones_at s a = num s (a + 12) 4

-- where that record ends
abbrev pub end_at : Kind → List ℕ → ℕ → ℕ
end_at K s a = a + size_of K (length_at s a)

-- a label from 1 to 64
abbrev pub good_label : ℕ → Bool
good_label n = leb 1 n && leb n most_label

-- 16 to 2^32 bytes
abbrev pub good_size : ℕ → Bool
good_size n = leb unit_bytes n && leb n most_bytes

-- the label and the length of the record at byte a are in range
abbrev pub good_fields : List ℕ → ℕ → Bool
good_fields s a = good_label (label_at s a) && leb (length_at s a) most_row

-- the image has 16 to 2^32 bytes, and bytes 4 to 15 are right: the number of a kind, and zeros
unfoldable pub sound_header : List ℕ → Bool
sound_header s = good_size (length s) && (is_kind kinds (num s 4 4) && eqb (num s 8 8) 0)

-- the record at byte a lies inside the image, its label and length are in range, and its next is zero or not before its end
unfoldable pub sound_record : Kind → List ℕ → ℕ → Bool
sound_record K s a =
    leb (a + head_bytes) (length s)
    && (good_fields s a && (leb (end_at K s a) (length s) && (eqb (next_at s a) 0 || leb (end_at K s a) (unit_bytes * next_at s a))))

-- whether x is in a list
unfoldable pub among : ℕ → List ℕ → Bool
among x [] = false
among x (y ∷ ys) = eqb x y || among x ys

-- one record more in front
abbrev pub in_front : ℕ → Option (List ℕ) → Option (List ℕ)
in_front a none = none
in_front a (some bs) = some (a ∷ bs)

-- the records from byte a on, by the byte where each starts; `met` are the labels met before. Each record takes at least 16 bytes, so as many steps as the
-- image has bytes are enough
unfoldable pub chain_from : Kind → ℕ → List ℕ → ℕ → List ℕ → Option (List ℕ)
chain_from K zero s a met = none
chain_from K (suc steps) s a met =
    elim (sound_record K s a && not (among (label_at s a) met)) [
      | false ↦ none
      | true ↦
          elim (eqb (next_at s a) 0) [
            | true ↦ some (a ∷ [])
            | false ↦ in_front a (chain_from K steps s (unit_bytes * next_at s a) (label_at s a ∷ met))
          ]
    ]

-- the records of a sound chain, in order; none where the chain is not sound
unfoldable pub chain_of : List ℕ → Option (List ℕ)
chain_of s =
    elim (sound_header s) [
      | false ↦ none
      | true ↦ elim (eqb (num s 0 4) 0) [ true ↦ some [] | false ↦ chain_from (kind_of s) (length s) s (unit_bytes * num s 0 4) [] ]
    ]

-- where the label's record starts
unfoldable pub place_of : List ℕ → ℕ → List ℕ → Option ℕ
place_of s label [] = none
place_of s label (a ∷ bs) = cond (eqb (label_at s a) label) (some a) (place_of s label bs)

-- the end of the last record, or unit 1
unfoldable pub chain_end : Kind → List ℕ → List ℕ → ℕ
chain_end K s [] = unit_bytes
chain_end K s (a ∷ []) = end_at K s a
chain_end K s (a ∷ b ∷ bs) = chain_end K s (b ∷ bs)

-- the byte where the index that ends the chain stands: that of the last record, or of the header
unfoldable pub link_of : List ℕ → ℕ
link_of [] = 0
link_of (a ∷ []) = a
link_of (a ∷ b ∷ bs) = link_of (b ∷ bs)

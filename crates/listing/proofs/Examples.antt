-- Texts by computation: numbers in decimal, and the listing of P12's image and of its first 15 bytes. Assumes nothing.
use mathlib.Core.Path.{◌≡◌, refl}
use mathlib.Core.List.{List, [], ◌∷◌}
use Prim.Native.Nat.{ℕ}
use lib.ListN.{take}
use Rattle.words.specs.Bits.{sum_to, digits, list_of, same}
use Rattle.image.specs.Bytes.{le}
use Rattle.image.specs.Kinds.{kind1, kind_among, is_kind}
use Rattle.image.specs.Layout.{entry_of, entries_from, record_of}
use Rattle.image.specs.Chain.{kind_of, sound_header, sound_record, among, chain_from, chain_of}
use Rattle.image.specs.Calls.{all_right}
use Rattle.image.specs.Shelf.{records_from, image_of}
use Rattle.listing.specs.Text.{digits_in, decimal, rows_text, text_of}

-- 0, and the longest row
pub decimals : (decimal 0 ≡ 48 ∷ []) × (decimal 134217728 ≡ 49 ∷ 51 ∷ 52 ∷ 50 ∷ 49 ∷ 55 ∷ 55 ∷ 50 ∷ 56 ∷ [])
unfolding decimal digits_in
decimals = (refl, refl)

-- the image of strip 01010 as label 3
abbrev example : List ℕ
example = image_of kind1 (record { label = 3; bits = 0 ∷ 1 ∷ 0 ∷ 1 ∷ 0 ∷ [] } ∷ [])

-- P12: `3 5 2`
pub P12-listing : text_of example ≡ 51 ∷ 32 ∷ 53 ∷ 32 ∷ 50 ∷ 10 ∷ []
unfolding text_of rows_text decimal digits_in chain_of chain_from kind_among is_kind kind_of sound_header sound_record among digits all_right same record_of entries_from
    entry_of le sum_to list_of image_of records_from
P12-listing = refl

-- `refused 10` for its first 15 bytes
pub P12-short : text_of (take 15 example) ≡ 114 ∷ 101 ∷ 102 ∷ 117 ∷ 115 ∷ 101 ∷ 100 ∷ 32 ∷ 49 ∷ 48 ∷ 10 ∷ []
unfolding text_of decimal digits_in chain_of kind_among is_kind kind_of sound_header digits image_of records_from record_of entries_from entry_of le sum_to list_of
P12-short = refl

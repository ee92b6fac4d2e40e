-- The lines of the rows of an image that obeys the layout: how many there are, how long each is, and the walk that writes them. Assumes nothing.
use mathlib.Core.Path.{◌≡◌, refl, sym, ap, ◌∙◌}
use mathlib.Core.List.{List, [], ◌∷◌, ◌++◌, append_assoc, append-nil}
use Prim.Native.Nat.{ℕ, suc, ◌+◌, ◌*◌, ◌≤◌, ◌<◌, min}
use native.Mathlib.Omega.{arith}
use lib.ListN.{length, get_or, length-append}
use Rattle.words.specs.Strip.{cell, rank}
use Rattle.words.proofs.SearchLaws.{rank_le}
use Rattle.image.specs.Bytes.{num}
use Rattle.image.specs.Layout.{unit_bytes, most_row, size_of}
use Rattle.image.specs.Chain.{kind_of, next_at, label_at, length_at, ones_at}
use Rattle.image.specs.Rows.{part_at, row_bits, RightAt, Obeys}
use Rattle.image.specs.Calls.{records_in, records_of}
use Rattle.image.proofs.ChainLaws.{RecordFacts, chain_facts, chain_few}
use Rattle.image.proofs.WalkLaws.{SoundWalk, Turn, walk_none, walk_turn}
use Rattle.image.proofs.InspectLaws.{obeys_chain}
use Rattle.image.proofs.NumberLaws.{num_taken}
use Rattle.image.proofs.PartLaws.{row_length_lem}
use Rattle.image.proofs.RightLaws.{right_ones}
use Rattle.listing.specs.Text.{row_line, rows_text, line_bytes, text_bytes}
use Rattle.listing.specs.Working.{Put}
use Rattle.listing.proofs.DecimalLaws.{line_most}
use Rattle.listing.proofs.StoreLaws.{put_none, put_more, put_as}

-- ---- how long a line is
-- the ones that a line tells are those of the row
pub row_ones : (s : List ℕ) (a : ℕ) → length_at s a ≤ most_row → RightAt (kind_of s) s a
    → ones_at s a ≡ rank (row_bits (kind_of s) (part_at (kind_of s) s a) (length_at s a)) 1 (length_at s a)
row_ones s a short right =
    let part : List ℕ = part_at (kind_of s) s a in
    let n : ℕ = length_at s a in
    sym (num_taken s a (size_of (kind_of s) n) 12 4 (omega arith))
    ∙ right_ones (kind_of s) part n short right
    ∙ ap (rank (row_bits (kind_of s) part n) 1) (row_length_lem (kind_of s) part n)

-- a line has at most so many bytes
row_most : (s : List ℕ) (a : ℕ) → RecordFacts (kind_of s) s a → RightAt (kind_of s) s a → length (row_line s a) ≤ line_bytes
row_most s a f right =
    let t : List ℕ = row_bits (kind_of s) (part_at (kind_of s) s a) (length_at s a) in
    let ones = row_ones s a f.short right in
    let most = rank_le (cell t) 1 (min (length_at s a) (length t)) in
    line_most (label_at s a) (length_at s a) (ones_at s a) f.high f.short (omega (arith, f.short))

-- lines, each of so many bytes at most
rows_long : (s rs : List ℕ) → ((i : ℕ) → i < length rs → length (row_line s (get_or rs i 0)) ≤ line_bytes) → length (rows_text s rs) ≤ line_bytes * length rs
unfolding rows_text
rows_long s [] h = omega arith
rows_long s (a ∷ rs) h =
    omega (arith, h 0 (omega arith), rows_long s rs (λ i l. h (suc i) (omega arith)), length-append (row_line s a) (rows_text s rs))

-- there is room for its lines
pub rows_most : (s : List ℕ) → Obeys s → length (rows_text s (records_of s)) ≤ text_bytes
rows_most s o =
    let f = chain_facts s o.records o.sound in
    let long = rows_long s o.records (λ i l. row_most s (get_or o.records i 0) (f.each i l).facts (o.right i l)) in
    omega (arith, chain_few s o.records o.sound, ap (λ (rs : List ℕ). length (rows_text s rs)) (ap records_in o.sound))

-- ---- the walk
-- the lines of some records, then of others
rows_append : (s xs ys : List ℕ) → rows_text s (xs ++ ys) ≡ rows_text s xs ++ rows_text s ys
unfolding rows_text
rows_append s [] ys = refl
rows_append s (x ∷ xs) ys = ap (λ (l : List ℕ). row_line s x ++ l) (rows_append s xs ys) ∙ sym (append_assoc (row_line s x) (rows_text s xs) (rows_text s ys))

-- the line of one record
rows_one : (s : List ℕ) (a : ℕ) → rows_text s (a ∷ []) ≡ row_line s a
unfolding rows_text
rows_one s a = append-nil (row_line s a)

-- and of more
rows_first : (s : List ℕ) (a : ℕ) (rs : List ℕ) → length (rows_text s (a ∷ rs)) ≡ length (row_line s a) + length (rows_text s rs)
unfolding rows_text
rows_first s a rs = length-append (row_line s a) (rows_text s rs)

-- a walk that stands at byte `at`: the lines of the records walked are stored up to byte `end`
pub record RowsPut (s out₀ out : List ℕ) (at end : ℕ) : Type 0 where
  pub past : List ℕ
  pub walk : SoundWalk s at past
  pub put : Put out₀ 0 (rows_text s past) out end

-- where it starts
pub rows_none : (s out : List ℕ) → Obeys s → RowsPut s out out (unit_bytes * num s 0 4) 0
unfolding rows_text
rows_none s out o = record { past = []; walk = walk_none s (obeys_chain o); put = put_none out 0 }

-- where it has not ended
module _ {s out₀ out : List ℕ} {at end : ℕ} (w : RowsPut s out₀ out at end) (n : at ≡ 0 → ⊥) where
  abbrev turn : Turn s at w.past
  turn = walk_turn w.walk n

  -- it stands at a sound record
  pub rows_record : RecordFacts (kind_of s) s at
  rows_record = turn.facts

  -- there is room for its line
  pub rows_room : Obeys s → end + length (row_line s at) ≤ text_bytes
  rows_room o =
      let long = length-append (rows_text s w.past) (rows_text s (at ∷ turn.rest)) in
      let same = ap length (sym (rows_append s w.past (at ∷ turn.rest)) ∙ ap (rows_text s) turn.whole) in
      omega (arith, w.put.end, rows_first s at turn.rest, rows_most s o)

  -- and with its line the walk goes on
  pub rows_more : (out₁ : List ℕ) (end₁ : ℕ) → Put out end (row_line s at) out₁ end₁ → RowsPut s out₀ out₁ (unit_bytes * next_at s at) end₁
  rows_more out₁ end₁ q =
      record {
        past = w.past ++ (at ∷ []);
        walk = turn.more;
        put = put_as _ (sym (rows_append s w.past (at ∷ []) ∙ ap (λ (l : List ℕ). rows_text s w.past ++ l) (rows_one s at))) (put_more w.put q);
      }

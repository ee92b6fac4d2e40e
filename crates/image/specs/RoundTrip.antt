-- What an accepted freeze leaves of the rows of an image: a row that gives a strip back, and a row that is kept. Assumes nothing.
use Rattle.std.specs.Prelude.{ℕ, ◌≡◌, List, [], ◌∷◌, length, drop}
use Rattle.std.proofs.Math.Option.{none}
use Rattle.words.specs.Strip.{cell, rank, select}
use Rattle.words.specs.Refusals.{judge, unless, Told, value, refused, found}
use Rattle.words.specs.Calls.{value_line, below_line, within_line}
use Rattle.image.specs.Chain.{kind_of}
use Rattle.image.specs.Rows.{row_bits, Right}
use Rattle.image.specs.Calls.{open_table, row_place, row_part, row_length, row_get_told, RowRanked, RowSelected}

-- a row gives strip t back: it opens, it has t's length and bits and is right, and look, count and find answer by the definitions over t,
-- find for every k
pub record GivesBack (s : List ℕ) (label : ℕ) (t : List ℕ) : Type 0 where
  pub opens : judge (open_table s label) ≡ none
  pub size : row_length s label ≡ length t
  pub bits : row_bits (kind_of s) (row_part s label) (row_length s label) ≡ t
  pub right : Right (kind_of s) (row_part s label) (row_length s label)
  pub look : (i : ℕ) → row_get_told s label i ≡ unless (judge (below_line (length t) i ∷ [])) refused (value (cell t i))
  pub count : (v i : ℕ) (o : Told) → RowRanked s label v i o
      → o ≡ unless (judge (value_line v ∷ within_line (length t) i ∷ [])) refused (value (rank t v i))
  pub find : (v k : ℕ) (o : Told) → RowSelected s label v k o → o ≡ unless (judge (value_line v ∷ [])) refused (found (select t v k))

-- a row is the same in both images: its kind, place and length, every byte but its next index, its bits, whether it is right, and what is promised of its
-- readings
pub record RowKept (s t : List ℕ) (l : ℕ) : Type 0 where
  pub was : judge (open_table s l) ≡ none
  pub opens : judge (open_table t l) ≡ none
  pub kind : kind_of t ≡ kind_of s
  pub place : row_place t l ≡ row_place s l
  pub size : row_length t l ≡ row_length s l
  pub rest : drop 4 (row_part t l) ≡ drop 4 (row_part s l)
  pub bits : row_bits (kind_of t) (row_part t l) (row_length t l) ≡ row_bits (kind_of s) (row_part s l) (row_length s l)
  pub right : Right (kind_of s) (row_part s l) (row_length s l) → Right (kind_of t) (row_part t l) (row_length t l)
  pub only : Right (kind_of t) (row_part t l) (row_length t l) → Right (kind_of s) (row_part s l) (row_length s l)
  pub look : (i : ℕ) → row_get_told t l i ≡ row_get_told s l i
  pub count : (v i : ℕ) (o : Told) → RowRanked t l v i o → RowRanked s l v i o
  pub count_only : (v i : ℕ) (o : Told) → RowRanked s l v i o → RowRanked t l v i o
  pub find : (v k : ℕ) (o : Told) → RowSelected t l v k o → RowSelected s l v k o
  pub find_only : (v k : ℕ) (o : Told) → RowSelected s l v k o → RowSelected t l v k o

-- The calls that compare two strips: their refusals in order, and their answers. Assumes nothing.
use Rattle.std.specs.Prelude.{ℕ, ◌+◌, ◌^◌, not, ◌&&◌, List, [], ◌∷◌, ◌++◌, length, eqb, ℤ, pos, neg_ℤ, ◌-ℤ◌, ◌≤ℤ◌, Result, Ok, Err}
use Rattle.words.specs.declared.handle.Handle.{Handle}
use Rattle.words.specs.declared.refusal.Refusal.{Refusal}
use Rattle.words.specs.Strip.{strip_of, rank, select, span_ones}
use Rattle.words.specs.Refusals.{number_of, Line, ◌⇒◌, judge, unless, Told, value, refused, found}
use Rattle.words.specs.Handles.{most_bits, untaken, strip_lines}
use Rattle.words.specs.Calls.{within_line, span_line}
use Rattle.pairs.specs.Rules.{joined}

-- two strips against each other: 16 capacity or length unequal
abbrev pub equal_table : Handle → Handle → List Line
equal_table first second = (not (eqb first.capacity second.capacity && eqb first.length second.length) ⇒ 16) ∷ []

-- all calls on two strips first: the first strip's 1, 2; the second's; 16. `words` and `others` are the numbers of words lent
abbrev pub pair_lines : Handle → ℕ → Handle → ℕ → List Line
pair_lines first words second others = strip_lines first words untaken ++ (strip_lines second others untaken ++ equal_table first second)

-- one that takes a position not above the length: the same; 4
abbrev pub pair_within_table : Handle → ℕ → Handle → ℕ → ℕ → List Line
pair_within_table first words second others i = pair_lines first words second others ++ (within_line first.length i ∷ [])

-- one that takes a span: the same; 5; 4
abbrev pub pair_span_table : Handle → ℕ → Handle → ℕ → ℕ → ℕ → List Line
pair_span_table first words second others a b = pair_lines first words second others ++ (span_line a b ∷ within_line first.length b ∷ [])

-- the strip that a rule makes of the two strips that handles and words hold
abbrev pub joined_strip : (ℕ → ℕ → ℕ) → Handle → List ℕ → Handle → List ℕ → List ℕ
joined_strip r first ws second vs = joined r (strip_of ws first.length) (strip_of vs second.length)

-- how many strokes before i the rule marks: 1, 2; 1, 2; 16; 4 i above the length
abbrev pub pair_rank_told : (ℕ → ℕ → ℕ) → Handle → List ℕ → Handle → List ℕ → ℕ → Told
pair_rank_told r first ws second vs i =
    unless (judge (pair_within_table first (length ws) second (length vs) i)) refused
    (value (rank (joined_strip r first ws second vs) 1 i))

-- the k-th stroke that the rule marks: 1, 2; 1, 2; 16; 6 no such stroke
abbrev pub pair_select_told : (ℕ → ℕ → ℕ) → Handle → List ℕ → Handle → List ℕ → ℕ → Told
pair_select_told r first ws second vs k =
    unless (judge (pair_lines first (length ws) second (length vs))) refused (found (select (joined_strip r first ws second vs) 1 k))

-- what a span tells: an integer, or the number of a refusal
pub data SpannedTold : Type 0 where
  spanned : ℤ → SpannedTold
  unspanned : ℕ → SpannedTold

-- a span's answer by its integer or number
abbrev pub spanned_of : Result ℤ Refusal → SpannedTold
spanned_of (Ok z) = spanned z
spanned_of (Err r) = unspanned (number_of r)

-- as one number: the integer, or 2^32 plus the refusal's number
abbrev pub coded_span : SpannedTold → ℤ
coded_span (spanned z) = z
coded_span (unspanned n) = pos (2 ^ 32 + n)

-- from -m to m
pub record Within (m : ℕ) (z : ℤ) : Type 0 where
  pub least : neg_ℤ (pos m) ≤ℤ z
  pub most : z ≤ℤ pos m

-- an integer from -134,217,728 to 134,217,728, or a refusal: its code says which (SmallLaws.coded_span_value, coded_span_refused)
abbrev pub SmallSpan : SpannedTold → Type 0
SmallSpan (spanned z) = Within most_bits z
SmallSpan (unspanned n) = Unit {0}

-- the ones of the first strip in positions a to b - 1 less those of the second: 1, 2; 1, 2; 16; 5 a above b; 4 b above the length
abbrev pub pair_span_told : Handle → List ℕ → Handle → List ℕ → ℕ → ℕ → SpannedTold
pair_span_told first ws second vs a b =
    unless (judge (pair_span_table first (length ws) second (length vs) a b)) unspanned
    (spanned (pos (span_ones (strip_of ws first.length) a b) -ℤ pos (span_ones (strip_of vs second.length) a b)))

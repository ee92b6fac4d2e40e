-- The lines that calls share, and the calls on words alone: their refusals in order, and their answers. Assumes nothing.
use Rattle.std.specs.Prelude.{ℕ, Bool, List, [], ◌∷◌, ◌++◌, length, nat_le, nat_lt}
use Rattle.words.specs.declared.handle.Handle.{Handle}
use Rattle.words.specs.Refusals.{Line, ◌⇒◌, judge, unless, Told, value, refused, found}
use Rattle.words.specs.Handles.{untaken, strip_lines}
use Rattle.words.specs.Strip.{cell, bad_value, strip_of, successor, predecessor}

-- 8 v neither 0 nor 1
abbrev pub value_line : ℕ → Line
value_line v = bad_value v ⇒ 8

-- 4 i not below the length n
abbrev pub below_line : ℕ → ℕ → Line
below_line n i = nat_le n i ⇒ 4

-- 4 i above the length n
abbrev pub within_line : ℕ → ℕ → Line
within_line n i = nat_lt n i ⇒ 4

-- 5 a above b
abbrev pub span_line : ℕ → ℕ → Line
span_line a b = nat_lt b a ⇒ 5

-- 6 no such stroke: k not below n, which is the number of v for a strip, the length for a row
abbrev pub absent_line : ℕ → ℕ → Line
absent_line n k = nat_le n k ⇒ 6

-- a call that takes a position below the length: 1, 2, 3; 4
abbrev pub below_table : Handle → ℕ → Bool → ℕ → List Line
below_table h words counted i = strip_lines h words counted ++ (below_line h.length i ∷ [])

-- a call that takes a value and a position not above the length: 1, 2, 3; 8; 4
abbrev pub value_table : Handle → ℕ → Bool → ℕ → ℕ → List Line
value_table h words counted v i = strip_lines h words counted ++ (value_line v ∷ within_line h.length i ∷ [])

-- look(i): 1, 2; 4; the bit
abbrev pub get_told : Handle → List ℕ → ℕ → Told
get_told h ws i = unless (judge (below_table h (length ws) untaken i)) refused (value (cell (strip_of ws h.length) i))

-- next(v, i): 1, 2; 8; 4; 6 none
abbrev pub successor_told : Handle → List ℕ → ℕ → ℕ → Told
successor_told h ws v i = unless (judge (value_table h (length ws) untaken v i)) refused (found (successor (strip_of ws h.length) v i))

-- prior(v, i): 1, 2; 8; 4; 6 none
abbrev pub predecessor_told : Handle → List ℕ → ℕ → ℕ → Told
predecessor_told h ws v i = unless (judge (value_table h (length ws) untaken v i)) refused (found (predecessor (strip_of ws h.length) v i))

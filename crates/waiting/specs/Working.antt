-- Derived, for inner contracts: the misfires that every outcome has, and those that some outcome has, by the words of the two strips. Laws in proofs/ tie them
-- to the outcomes. Assumes nothing.
use Rattle.std.specs.Prelude.{List, ℕ}
use Rattle.pairs.specs.Rules.{either, only_first}
use Rattle.pairs.specs.Working.{joined_bit}

-- 1 where every outcome has a misfire: one and not marked
abbrev pub must_bit : List ℕ → List ℕ → ℕ → ℕ
must_bit = joined_bit only_first

-- 1 where some outcome has one: one or marked
abbrev pub may_bit : List ℕ → List ℕ → ℕ → ℕ
may_bit = joined_bit either

-- The rules that join two bits, and the strip that a rule makes of two strips. Assumes nothing.
use Rattle.std.specs.Prelude.{ℕ, cond, not, ◌&&◌, ◌||◌, List, length, eqb}
use Rattle.words.specs.Bits.{list_of}
use Rattle.words.specs.Strip.{cell}
use Rattle.pairs.specs.declared.rule.Rule.{Rule}
use Rattle.pairs.specs.declared.rule.Rule.TheVariants.{Both, Either, OnlyFirst, Differ}

-- a rule joins two bits to one: 1 where it marks the stroke, else 0. Here 1 where both mark it
abbrev pub both : ℕ → ℕ → ℕ
both a b = cond (eqb a 1 && eqb b 1) 1 0

-- 1 where either marks it
abbrev pub either : ℕ → ℕ → ℕ
either a b = cond (eqb a 1 || eqb b 1) 1 0

-- 1 where only the first marks it
abbrev pub only_first : ℕ → ℕ → ℕ
only_first a b = cond (eqb a 1 && not (eqb b 1)) 1 0

-- 1 where they judge it differently
abbrev pub differ : ℕ → ℕ → ℕ
differ a b = cond (eqb a b) 0 1

-- the rule of each case
abbrev pub rule_of : Rule → ℕ → ℕ → ℕ
rule_of Both = both
rule_of Either = either
rule_of OnlyFirst = only_first
rule_of Differ = differ

-- the strip that a rule makes of two strips of one length: at each position the rule of the two cells
abbrev pub joined : (ℕ → ℕ → ℕ) → List ℕ → List ℕ → List ℕ
joined r s t = list_of (λ p. r (cell s p) (cell t p)) (length s)

-- `merging::copy::words_equal` meets its contract. The invariant: the words before i are equal. Assumes nothing.
use Rattle.std.proofs.Common.{sym, ◌∙◌, arith}
use Rattle.merging.proofs.CopyLaws.{compared_none, compared_more, compared_unequal, compared_done}
use Rattle.merging.proofs.copy.words_equal.Goals as goal

pub loop-i-init : goal.loop-i-init
loop-i-init c = compared_none _ _ _

pub returns-then-u64_at : goal.returns-then-u64_at
returns-then-u64_at c = compared_unequal _ _ _ (λ e. c.if-u64_at.true (c.u64_at.ensures.0 ∙ e ∙ sym c.u64_at-in-loop-i.ensures.0))

pub loop-i-preserved : goal.loop-i-preserved
loop-i-preserved c =
    compared_more c.loop-i.invariant c.loop-i-test.true c.requires.0 c.requires.1
    (λ j. omega (arith, c.type_inv.a j)) (λ j. omega (arith, c.type_inv.b j))
    (sym c.u64_at.ensures.0 ∙ c.if-u64_at.false ∙ c.u64_at-in-loop-i.ensures.0)

pub returns : goal.returns
returns c = compared_done c.loop-i.invariant c.loop-i-test.false c.requires.0 c.requires.1

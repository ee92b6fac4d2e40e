-- `bursts::window::bounded_start` meets its contract. Assumes nothing.
use native.Mathlib.Omega.{arith}
use Rattle.words.specs.Bits.{bit}
use Rattle.words.proofs.Sums.{ones_le}
use Rattle.words.proofs.BitLaws.{bit_le}
use Rattle.bursts.proofs.WindowLaws.{bound_none}
use Rattle.bursts.proofs.window.bounded_start.Goals as goal

pub overflow_add-c : goal.overflow_add-c
overflow_add-c c =
    let e = c.args.e in
    omega (arith, c.ones_of.ensures, ones_le (bit e) 64 (bit_le e))

pub returns-then-c-ones_of : goal.returns-then-c-ones_of
returns-then-c-ones_of c =
    let a = c.args in
    bound_none (bit a.x) (bit a.e) a.c a.m a.k (omega arith) (omega (arith, c.ones_of.ensures, c.if-c-ones_of.true))

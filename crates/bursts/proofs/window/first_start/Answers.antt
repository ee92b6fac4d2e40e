-- `bursts::window::first_start` meets its contract. The invariant: no start before d serves, and what is held and needed there. Assumes nothing.
use Rattle.std.proofs.Common.{◌+◌, ◌<◌, arith}
use Rattle.words.specs.Bits.{bit, ones}
use Rattle.words.proofs.Sums.{sum_zero, sum_more, ones_le}
use Rattle.words.proofs.BitLaws.{bit_le}
use Rattle.bursts.proofs.WindowLaws.{below_more}
use Rattle.bursts.proofs.window.first_start.Goals as goal

pub loop-d-init : goal.loop-d-init
loop-d-init c =
    let a = c.args in
    (omega (arith, sum_zero (bit a.e)), omega (arith, sum_zero (bit a.x)), λ s l. absurd (omega arith))

pub overflow_add-need : goal.overflow_add-need
overflow_add-need c =
    let a = c.args in
    omega (arith, ones_le (bit a.x) c.loop-d.d (bit_le a.x), bit_le a.x c.loop-d.d)

pub loop-d-preserved : goal.loop-d-preserved
loop-d-preserved c =
    let a = c.args in
    let l = c.loop-d in (
      omega (arith, l.invariant.0, c.bit_of.ensures, sum_more (bit a.e) l.d),
      omega (arith, l.invariant.1, c.bit_of-in-loop-d.ensures, sum_more (bit a.x) l.d),
      below_more (λ s. a.c + ones (bit a.e) s < a.m + ones (bit a.x) s) l.d l.invariant.2 (omega (arith, l.invariant.0, l.invariant.1, c.if-need-have.false)),
    )

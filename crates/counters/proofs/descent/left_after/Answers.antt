-- `counters::descent::left_after` meets its contract. Assumes nothing.
use Rattle.std.proofs.Common.{◌≡◌, ℕ, ◌+◌, ◌-◌, ◌%◌, ◌^◌, arith}
use Rattle.words.specs.Strip.{as_bit}
use Rattle.words.proofs.Wrapping.{wrapping_exact}
use Rattle.counters.proofs.SelectionLaws.{nth_valued}
use Rattle.counters.proofs.descent.left_after.Goals as goal

pub returns : goal.returns
returns c P h z l =
    let s = c.args in
    let x = c.value_count-last in
    let e : x.result ≡ P s.index =
    x.ensures (P s.index) (nth_valued P (as_bit s.v) s.size s.from s.index s.counters.now h (omega arith) (omega arith)) in
    let r : ℕ = (s.k + (2 ^ 32 - x.result)) % 2 ^ 32 in
    omega (arith, e, wrapping_exact (2 ^ 32) s.k x.result r (omega arith) (omega arith) (omega arith))

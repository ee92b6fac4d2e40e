-- `words::scan::last_before` meets its contract: the highest one of the word of i below i. Assumes nothing.
use Rattle.std.proofs.Common.{◌≡◌, ℕ, suc, ◌+◌, ◌*◌, ◌/◌, subst, arith}
use Rattle.words.specs.Bits.{bit_at}
use Rattle.words.specs.Strip.{as_bit}
use Rattle.words.specs.Working.{LastBefore}
use Rattle.words.proofs.ScanLaws.{marked_under, marked_last}
use Rattle.words.proofs.scan.last_before.Goals as goal

pub returns-in-Some : goal.returns-in-Some
returns-in-Some c =
    let s = c.args in
    let a : ℕ = 64 * (s.i / 64) in
    let e : a + suc c.in-Some.high ≡ suc (a + c.in-Some.high) = omega arith in
    subst (LastBefore (bit_at s.words.now) (as_bit s.v) s.i) e
    (marked_last (bit_at s.words.now) (as_bit s.v) a a s.i c.put_range-x.result
    (marked_under s.words.now (as_bit s.v) s.i c.matches.result c.put_range-x.result c.matches.ensures c.put_range-x.ensures) (suc c.in-Some.high)
    (omega arith) c.in-Some.ensures)

-- `words::scan::highest_one` meets its contract: the leading zeros lie above it. Assumes nothing.
use Rattle.std.proofs.Common.{◌≡◌, ℕ, suc, ◌-◌, subst, arith}
use lib.Count.{count_leading_zeros}
use Rattle.words.specs.Bits.{bit}
use Rattle.words.specs.Working.{LastBefore}
use Rattle.words.proofs.ScanLaws.{leading_last}
use Rattle.words.proofs.scan.highest_one.Goals as goal

pub returns : goal.returns
returns c =
    let x : ℕ = c.args.x in
    let t = leading_last 64 x c.ranges.x.fits c.if-x-eq0.false in
    let e : 64 - count_leading_zeros 64 x ≡ suc (63 - count_leading_zeros 64 x) = omega (arith, t.0) in
    subst (LastBefore (bit x) 1 64) e t.1

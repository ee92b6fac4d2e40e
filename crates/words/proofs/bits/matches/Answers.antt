-- `words::bits::matches` meets its contract. Assumes nothing.
use Rattle.std.proofs.Common.{ℕ, ◌-◌, ◌^◌, Bool, sym, subst}
use Rattle.words.specs.Working.{Matched}
use Rattle.words.specs.Strip.{as_bit}
use Rattle.words.proofs.WordLaws.{matched_zero}
use Rattle.words.proofs.bits.matches.Goals as goal

pub returns-else-v : goal.returns-else-v
returns-else-v c =
    let x : ℕ = c.args.x in
    subst (λ (v : Bool). Matched x (as_bit v) ((2 ^ 64 - 1) - x)) (sym c.if-v.false) (matched_zero x c.ranges.x.fits)

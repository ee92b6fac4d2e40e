-- `words::bits::flip_bit` meets its contract. Assumes nothing.
use Rattle.std.proofs.Common.{ℕ, ◌+◌, ◌-◌, sym, ap, subst}
use lib.Bits.{bit_xor}
use Rattle.words.specs.Bits.{bit}
use Rattle.words.specs.Working.{WordPut}
use Rattle.words.proofs.BitLaws.{one_shl}
use Rattle.words.proofs.WordLaws.{written_flip}
use Rattle.words.proofs.bits.flip_bit.Goals as goal

pub returns : goal.returns
returns c =
    let x : ℕ = c.args.x in
    let i : ℕ = c.args.i in
    subst (λ (r : ℕ). WordPut x i (i + 1) (1 - bit x i) r) (ap (bit_xor x) (sym (one_shl i c.requires))) (written_flip x i)

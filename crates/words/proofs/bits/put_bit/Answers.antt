-- `words::bits::put_bit` meets its contract: the mask is a single one, at bit i. Assumes nothing.
use Rattle.std.proofs.Common.{◌≡◌, ℕ, ◌+◌, ◌-◌, ◌*◌, ◌%◌, ◌^◌, ◌<◌, sym, ap, ◌∙◌, subst₂, arith}
use lib.Bits.{bit_and, bit_or}
use Rattle.words.specs.Working.{WordPut}
use Rattle.words.specs.Strip.{as_bit}
use Rattle.words.proofs.BitLaws.{one_shl, mask, mask_one}
use Rattle.words.proofs.WordLaws.{written_set, written_clear}
use Rattle.words.proofs.bits.put_bit.Goals as goal

-- the mask that the code makes
made : (i : ℕ) → i < 64 → mask 1 i ≡ (1 * 2 ^ i) % 2 ^ 64
made i h = mask_one i ∙ sym (one_shl i h)

pub returns-then-v : goal.returns-then-v
returns-then-v c =
    let x : ℕ = c.args.x in
    let i : ℕ = c.args.i in
    let v : 1 ≡ as_bit c.args.v = ap as_bit (sym c.if-v.true) in
    subst₂ (λ (b r : ℕ). WordPut x i (i + 1) b r) v (ap (bit_or x) (made i c.requires)) (written_set x 1 i)

pub returns-else-v : goal.returns-else-v
returns-else-v c =
    let x : ℕ = c.args.x in
    let i : ℕ = c.args.i in
    let v : 0 ≡ as_bit c.args.v = ap as_bit (sym c.if-v.false) in
    subst₂ (λ (b r : ℕ). WordPut x i (i + 1) b r) v (ap (λ (m : ℕ). bit_and x ((2 ^ 64 - 1) - m)) (made i c.requires))
    (written_clear x 1 i c.ranges.x.fits (omega arith))

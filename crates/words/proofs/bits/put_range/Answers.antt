-- `words::bits::put_range` meets its contract: the mask is e - a ones from bit a on. Assumes nothing.
use Rattle.std.proofs.Common.{◌≡◌, ℕ, ◌+◌, ◌-◌, ◌^◌, ◌≤◌, sym, ap, ◌∙◌, ap₂, arith, pow_mono}
use lib.Bits.{bit_and, bit_or}
use Rattle.words.specs.Working.{WordPut}
use Rattle.words.specs.Strip.{as_bit}
use Rattle.words.proofs.BitLaws.{mask, mask_is}
use Rattle.words.proofs.WordLaws.{written_set, written_clear}
use Rattle.words.proofs.bits.put_range.Goals as goal
use Rattle.words.proofs.bits.put_range.Goals.{After-low_mask-2}

pub overflow_sub-mask : goal.overflow_sub-mask
overflow_sub-mask c = omega (arith, c.low_mask-2.ensures, c.low_mask.ensures, pow_mono c.requires.0)

-- the mask that the code makes
made : (c : After-low_mask-2)
    → c.low_mask.result - c.low_mask-2.result ≡ mask (c.args.e - c.args.a) c.args.a
made c =
    let a : ℕ = c.args.a in
    let e : ℕ = c.args.e in
    let m : e ≡ (e - a) + a = omega arith in
    ap₂ (λ (x y : ℕ). x - y) (c.low_mask.ensures ∙ ap (λ (n : ℕ). 2 ^ n - 1) m) c.low_mask-2.ensures ∙ mask_is (e - a) a

-- the range ends at e
upto : (a e : ℕ) → a ≤ e → a + (e - a) ≡ e
upto a e h = omega arith

pub returns-then-v : goal.returns-then-v
returns-then-v c =
    let x : ℕ = c.args.x in
    let a : ℕ = c.args.a in
    let e : ℕ = c.args.e in
    let w : WordPut x a e 1 (bit_or x (mask (e - a) a)) = rw (upto a e c.requires.0) at (written_set x (e - a) a) in
    let v : 1 ≡ as_bit c.args.v = ap as_bit (sym c.if-v.true) in
    mathlib.Core.Path.subst₂ (λ (b r : ℕ). WordPut x a e b r) v (ap (bit_or x) (sym (made (goal.at.returns-then-v c).After-low_mask-2))) w

pub returns-else-v : goal.returns-else-v
returns-else-v c =
    let x : ℕ = c.args.x in
    let a : ℕ = c.args.a in
    let e : ℕ = c.args.e in
    let w : WordPut x a e 0 (bit_and x ((2 ^ 64 - 1) - mask (e - a) a)) =
    rw (upto a e c.requires.0) at (written_clear x (e - a) a c.ranges.x.fits (omega arith)) in
    let v : 0 ≡ as_bit c.args.v = ap as_bit (sym c.if-v.false) in
    mathlib.Core.Path.subst₂ (λ (b r : ℕ). WordPut x a e b r) v (ap (λ (m : ℕ). bit_and x ((2 ^ 64 - 1) - m)) (sym (made (goal.at.returns-else-v c).After-low_mask-2))) w

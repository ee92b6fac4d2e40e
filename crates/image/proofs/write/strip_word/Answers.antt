-- `image::write::strip_word` meets its contract. Assumes nothing.
use mathlib.Core.Path.{ap, ◌∙◌}
use lib.Bits.{bit_and}
use lib.ListN.{get_or}
use Rattle.words.specs.Bits.{bit}
use Prim.Native.Nat.{ℕ, ◌-◌, ◌*◌}
use native.Mathlib.Omega.{arith}
use Rattle.image.proofs.WriteLaws.{word_none, word_all, word_some}
use Rattle.image.proofs.write.strip_word.Goals as goal

pub returns-then-n-w : goal.returns-then-n-w
returns-then-n-w c =
    let a = c.args in
    λ p l. word_none a.words.now a.n a.w p c.if-n-w.true

pub returns-then-left-lt64 : goal.returns-then-left-lt64
returns-then-left-lt64 c =
    let a = c.args in
    λ p l.
    ap (λ (m : ℕ). bit (bit_and (get_or a.words.now a.w 0) m) p) c.low_mask.ensures
    ∙ word_some a.words.now a.n a.w p (a.n - 64 * a.w) (omega arith) l

pub returns : goal.returns
returns c =
    let a = c.args in
    λ p l. word_all a.words.now a.n a.w p (omega arith) l

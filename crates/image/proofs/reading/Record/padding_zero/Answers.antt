-- `image::reading::Record::padding_zero` meets its contract. The invariant: the bits from n on, before word w, are zero. Assumes nothing.
use Rattle.std.proofs.Common.{◌≡◌, ℕ, ◌*◌, ◌/◌, ◌^◌, ap, ◌∙◌, arith}
use mathlib.Core.Logic.{⊎_elim}
use Rattle.words.proofs.Sums.{lt_or}
use Rattle.image.specs.Bytes.{bit_from}
use Rattle.image.proofs.RightLaws.{shifted_none, shifted_some}
use Rattle.image.proofs.reading.Record.padding_zero.Goals as goal

-- a one in the word that position n parts
pub returns-then-u64_at-n-ne0 : goal.returns-then-u64_at-n-ne0
returns-then-u64_at-n-ne0 c =
    let s = c.bits_start-start in
    let p = c.args.self.part.now in
    let n = c.args.self.n in
    λ zeros. shifted_some p s.result (n / 64) _ c.u64_at.result c.u64_at.ensures.1 (omega arith) c.if-u64_at-n-ne0.true
    (λ q k h. ap (λ (i : ℕ). bit_from p i q) s.ensures.0 ∙ zeros q (omega arith) (omega (arith, c.if-first-end.false, c.superblocks_of-end.ensures.0)))

-- none
pub loop-w-init : goal.loop-w-init
loop-w-init c =
    λ q k h. shifted_none c.args.self.part.now _ (c.args.self.n / 64) _ c.u64_at.result c.u64_at.ensures.1 c.if-u64_at-n-ne0.false q (omega arith) (omega arith)

-- a one in word w
pub returns-then-u64_at-ne0 : goal.returns-then-u64_at-ne0
returns-then-u64_at-ne0 c =
    let s = c.bits_start-start in
    let p = c.args.self.part.now in
    let w = c.loop-w.w in
    let x = c.u64_at-in-loop-w in
    let whole : x.result / 2 ^ 0 ≡ x.result = omega arith in
    λ zeros. shifted_some p s.result w 0 x.result x.ensures.1 (omega arith) (λ z. c.if-u64_at-ne0.true (omega (arith, whole, z)))
    (λ q k h. ap (λ (i : ℕ). bit_from p i q) s.ensures.0 ∙ zeros q (omega arith) (omega arith))

pub loop-w-preserved : goal.loop-w-preserved
loop-w-preserved c =
    let l = c.loop-w in
    let p = c.args.self.part.now in
    let x = c.u64_at-in-loop-w in
    let whole : x.result / 2 ^ 0 ≡ x.result = omega arith in
    λ q m h.
    ⊎_elim (l.invariant q m)
    (λ k. shifted_none p _ l.w 0 x.result x.ensures.1 (whole ∙ c.if-u64_at-ne0.false) q (omega arith) h)
    (lt_or q (64 * l.w))

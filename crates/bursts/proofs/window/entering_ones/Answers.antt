-- `bursts::window::entering_ones` meets its contract. The invariant: the numbers before i are the ones of the runs. Assumes nothing.
use Rattle.std.proofs.Common.{◌≡◌, ℕ, ◌+◌, ◌*◌, ap, ◌∙◌, arith}
use Rattle.std.proofs.Math.ListN.{length-set}
use Rattle.words.specs.Bits.{bit_at}
use Rattle.words.proofs.Sums.{stored_more}
use Rattle.bursts.specs.Working.{run_ones}
use Rattle.bursts.proofs.WindowLaws.{run_word}
use Rattle.bursts.proofs.window.entering_ones.Goals as goal

pub loop-i-preserved : goal.loop-i-preserved
loop-i-preserved c =
    let j = c.args.j in
    let w = c.args.w in
    let l = c.loop-i in
    let ws = c.args.words.now in
    let at : (p : ℕ) → 64 * (j + l.i) + w + p ≡ 64 * j + w + 64 * l.i + p = (λ p. omega arith) in (
      simp length-set l.invariant.0,
      omega arith,
      stored_more (run_ones ws (64 * j + w)) l.counts l.i c.ones_of.result (omega arith) l.invariant.2
          (run_word ws (64 * j + w) l.i c.entering.result c.ones_of.result (λ p h. c.entering.ensures p h ∙ ap (bit_at ws) (at p)) c.ones_of.ensures),
    )

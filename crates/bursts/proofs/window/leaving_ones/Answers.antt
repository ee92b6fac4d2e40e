-- `bursts::window::leaving_ones` meets its contract. The invariant: the numbers before i are the ones of the runs. Assumes nothing.
use mathlib.Core.Path.{◌≡◌, sym, ap, ◌∙◌}
use mathlib.Core.List.{List}
use Prim.Native.Nat.{ℕ, ◌+◌, ◌*◌, ◌<◌}
use native.Mathlib.Omega.{arith}
use lib.ListN.{get_or, length-set}
use Rattle.words.specs.Bits.{bit, bit_at}
use Rattle.words.proofs.Sums.{stored_more}
use Rattle.words.proofs.WordLaws.{word_bit}
use Rattle.bursts.specs.Working.{run_ones}
use Rattle.bursts.proofs.WindowLaws.{run_word}
use Rattle.bursts.proofs.window.leaving_ones.Goals as goal

-- the bits of word j + i are those of run i
run : (ws : List ℕ) (j i p : ℕ) → p < 64 → bit (get_or ws (j + i) 0) p ≡ bit_at ws (64 * j + 64 * i + p)
run ws j i p l = let e : 64 * (j + i) + p ≡ 64 * j + 64 * i + p = omega arith in sym (word_bit ws (j + i) p l) ∙ ap (bit_at ws) e

pub loop-i-preserved : goal.loop-i-preserved
loop-i-preserved c =
    let a = c.args in
    let l = c.loop-i in
    let ws = a.words.now in (
      simp length-set l.invariant.0,
      omega arith,
      stored_more (run_ones ws (64 * a.j)) l.counts l.i c.ones_of.result (omega arith) l.invariant.2
          (run_word ws (64 * a.j) l.i (get_or ws (a.j + l.i) 0) c.ones_of.result (run ws a.j l.i) c.ones_of.ensures),
    )

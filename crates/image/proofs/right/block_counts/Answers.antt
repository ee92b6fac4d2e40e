-- `image::right::block_counts` meets its contract. The invariant: the blocks before j are counted, and `sum` is their ones. Assumes nothing.
use mathlib.Core.Path.{◌≡◌, refl}
use Prim.Native.Nat.{◌+◌, ◌*◌, ◌/◌, ◌%◌}
use native.Mathlib.Omega.{arith}
use lib.ListN.{get_or}
use Rattle.words.specs.Bits.{ones}
use Rattle.words.proofs.Sums.{ones_le}
use Rattle.words.proofs.BitLaws.{bit_le}
use Rattle.image.specs.Bytes.{bit_from}
use Rattle.image.specs.Kinds.{kind1}
use Rattle.image.proofs.CountLaws.{counting_none, counting_more}
use Rattle.image.proofs.RightLaws.{block_more}
use Rattle.image.proofs.right.block_counts.Goals as goal
use Rattle.image.proofs.right.block_counts.Goals.{After-block_ones-sum}

pub loop-j-init : goal.loop-j-init
loop-j-init c = counting_none kind1 _ _ refl

-- the ones up to the end of block j
next : (c : After-block_ones-sum)
    → let l = c.loop-j in let a = c.args in
    l.sum + c.block_ones-sum.result ≡ ones (bit_from a.part.now a.at) (512 * (l.j + 1))
next c =
    let l = c.loop-j in
    let a = c.args in
    let block = c.block_at-block in
    block_more a.part.now block.result a.at l.j l.sum c.block_ones-sum.result block.ensures.1 l.invariant.count c.block_ones-sum.ensures

pub overflow_add-sum : goal.overflow_add-sum
overflow_add-sum c =
    let l = c.loop-j in
    let a = c.args in
    omega (arith, next (goal.at.overflow_add-sum c).After-block_ones-sum, ones_le (bit_from a.part.now a.at) (512 * (l.j + 1)) (λ p. bit_le (get_or a.part.now (a.at + p / 8) 0) (p % 8)))

pub loop-j-preserved : goal.loop-j-preserved
loop-j-preserved c =
    let l = c.loop-j in
    counting_more kind1 _ l.counts l.sum l.j _ l.invariant c.loop-j-test.true (next (goal.at.loop-j-preserved c).After-block_ones-sum)

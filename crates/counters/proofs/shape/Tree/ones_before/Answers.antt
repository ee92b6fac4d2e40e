-- `counters::shape::Tree::ones_before` meets its contract: the ones before a block, and those of the block before position i. Assumes nothing.
use Rattle.std.proofs.Common.{◌≡◌, ℕ, ◌+◌, ◌-◌, ◌*◌, ◌/◌, ◌≤◌, List, sym, ap, ◌∙◌, arith}
use Rattle.words.specs.Bits.{bit_at, ones}
use Rattle.words.proofs.Sums.{sum_zero, ones_le}
use Rattle.words.proofs.WordLaws.{bit_at_le}
use Rattle.counters.proofs.RankLaws.{ones_in_block}
use Rattle.counters.proofs.shape.Tree.ones_before.Goals as goal
use Rattle.counters.proofs.shape.Tree.ones_before.Goals.{After-block_rank}

pub returns-then-i-eq0 : goal.returns-then-i-eq0
returns-then-i-eq0 c =
    let ws = c.args.self.words.now in
    (omega arith, λ fit. sym (ap (ones (bit_at ws)) c.if-i-eq0.true ∙ sum_zero (bit_at ws)))

-- at most 512 of the block
few : (c : After-block_rank) → c.block_rank.result ≤ 512
few c =
    let block = c.block_at.result.now in
    let m : ℕ = c.args.i - 512 * ((c.args.i - 1) / 512) in
    omega (arith, c.block_rank.ensures, ones_le (bit_at block) m (bit_at_le block))

pub overflow_add-result : goal.overflow_add-result
overflow_add-result c = omega (arith, few (goal.at.overflow_add-result c).After-block_rank, c.ones_before_block.ensures.0)

pub returns : goal.returns
returns c =
    let a = c.args in
    let ws = a.self.words.now in
    let b : ℕ = (a.i - 1) / 512 in
    let e : 512 * b + (a.i - 512 * b) ≡ a.i = omega arith in
    let split = ones_in_block ws b (a.i - 512 * b) (omega arith) in
    let block = ap (λ (xs : List ℕ). ones (bit_at xs) (a.i - 512 * b)) c.block_at.ensures in (
      omega (arith, few (goal.at.returns c).After-block_rank, c.ones_before_block.ensures.0),
      λ fit. omega (arith, c.ones_before_block.ensures.1 (bit_at ws) fit, c.block_rank.ensures, block, split, ap (ones (bit_at ws)) e),
    )

-- `counters::build::child_ones` meets its contract. Assumes nothing.
use Rattle.std.proofs.Common.{◌≡◌, ℕ, ◌%◌, ◌^◌, List, ap, ◌∙◌, arith}
use Rattle.words.specs.Bits.{bit_at, ones}
use Rattle.counters.specs.Building.{child_holds}
use Rattle.counters.proofs.BuildLaws.{child_past, child_block, child_above, child_block_le}
use Rattle.counters.proofs.build.child_ones.Goals as goal
use Rattle.counters.proofs.build.child_ones.Goals.{After-block_ones}

pub returns-then-below-m : goal.returns-then-below-m
returns-then-below-m c = child_past c.args.words.now c.args.counters.now c.args.t c.args.below c.args.m c.requires c.if-below-m.true

-- the result is what the block holds
held : (c : After-block_ones)
    → let s = c.args in
    c.block_ones.result ≡ child_holds s.words.now s.counters.now s.t s.below s.m
held c =
    let s = c.args in
    c.block_ones.ensures
    ∙ ap (λ (ws : List ℕ). ones (bit_at ws) 512) c.block_at.ensures
    ∙ child_block s.words.now s.counters.now s.t s.below s.m c.if-t-eq0.true

pub overflow_cast-result : goal.overflow_cast-result
overflow_cast-result c =
    let s = c.args in
    omega (arith, held (goal.at.overflow_cast-result c).After-block_ones, child_block_le s.words.now s.counters.now s.t s.below s.m c.if-t-eq0.true)

pub returns-then-t-eq0 : goal.returns-then-t-eq0
returns-then-t-eq0 c = held (goal.at.returns-then-t-eq0 c).After-block_ones

pub returns : goal.returns
returns c =
    let s = c.args in
    ap (λ (x : ℕ). x % 2 ^ 32) c.node_ones.ensures.0
    ∙ child_above s.words.now s.counters.now s.t s.below s.m c.if-t-eq0.false c.if-below-m.false

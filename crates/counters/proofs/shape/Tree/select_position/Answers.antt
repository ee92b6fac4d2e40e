-- `counters::shape::Tree::select_position` meets its contract: the way down ends in the block that holds the k-th v. Assumes nothing.
use Rattle.std.proofs.Common.{◌≡◌, ℕ, ◌+◌, ◌*◌, ◌<◌, ◌≤◌, List, sym, subst, arith}
use mathlib.Core.Option.{some}
use Rattle.words.specs.Bits.{bit_at}
use Rattle.words.specs.Strip.{as_bit, rank_of, select_of}
use Rattle.words.specs.Words.{place_in}
use Rattle.words.proofs.WordLaws.{bit_at_le}
use Rattle.words.proofs.SearchLaws.{select_le}
use Rattle.counters.specs.Record.{AllFit}
use Rattle.counters.specs.Descent.{FoundIn, values_before}
use Rattle.counters.proofs.SelectionLaws.{block_place}
use Rattle.counters.proofs.shape.Tree.select_position.Goals as goal
use Rattle.counters.proofs.shape.Tree.select_position.Goals.{After-block_select-p}

-- within the block
inside : (c : After-block_select-p) → c.block_select-p.result ≤ 512
inside c = omega (arith, c.block_select-p.ensures, select_le (bit_at c.block_at.result.now) 512 (as_bit c.args.v) c.wide.result)

-- on a record that fits, the k-th v
place : (c : After-block_select-p)
    → let s = c.args in
    let f = bit_at s.self.words.now in
    let r = c.block_select-p.result in
    AllFit f s.self.blocks s.self.counters.now → s.k < rank_of f (as_bit s.v) (512 * s.self.blocks)
    → (r < 512) × (select_of f (512 * s.self.blocks) (as_bit s.v) s.k ≡ some (512 * c.in_ok-spot.spot.index + r))
place c fit h =
    let s = c.args in
    let spot = c.in_ok-spot.spot in
    let ws = s.self.words.now in
    let v : ℕ = as_bit s.v in
    let r : ℕ = c.block_select-p.result in
    let left : ℕ = c.wide.result in
    block_place ws s.self.blocks spot.index v s.k left r c.in_ok-spot.ensures.0
    (subst (λ (n : ℕ). FoundIn (values_before (bit_at ws) v 1) s.k spot.index n) (sym c.wide.ensures.0) (c.in_ok-spot.ensures.1 (bit_at ws) (bit_at_le ws) fit h))
    (subst (λ (xs : List ℕ). r ≡ place_in 512 (select_of (bit_at xs) 512 v left)) c.block_at.ensures c.block_select-p.ensures)

pub returns-then-p-eq-BLOCK_BITS : goal.returns-then-p-eq-BLOCK_BITS
returns-then-p-eq-BLOCK_BITS c fit h =
    omega (arith, c.if-p-eq-BLOCK_BITS.true, (place (goal.at.returns-then-p-eq-BLOCK_BITS c).After-block_select-p fit h).0)

pub overflow_add-result : goal.overflow_add-result
overflow_add-result c = omega (arith, inside (goal.at.overflow_add-result c).After-block_select-p, c.in_ok-spot.ensures.0)

pub returns : goal.returns
returns c = (
  omega (arith, inside (goal.at.returns c).After-block_select-p, c.if-p-eq-BLOCK_BITS.false, c.in_ok-spot.ensures.0),
  λ fit h. (place (goal.at.returns c).After-block_select-p fit h).1,
)

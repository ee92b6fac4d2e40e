-- `counters::read::Record::rank` meets its contract. Assumes nothing.
use Rattle.std.proofs.Common.{[], ◌∷◌, arith, ltb-false}
use Rattle.words.specs.Calls.{value_line, within_line}
use Rattle.counters.proofs.PromiseLaws.{tree_over, PassedRecord, record_passed}
use Rattle.counters.proofs.ReadLaws.{rank_done, rank_unfit}
use Rattle.counters.proofs.read.Record.rank.Goals as goal
use Rattle.counters.proofs.read.Record.rank.Goals.{In_ok-check_rank}

-- what the checks leave
passed : (c : In_ok-check_rank)
    → let s = c.args.self in
    PassedRecord s.strip.handle s.strip.words.now s.counters.now (value_line c.args.v ∷ within_line s.strip.handle.length c.args.i ∷ [])
passed c =
    let s = c.args.self in
    record_passed s.strip.handle s.strip.words.now s.counters.now _ c.check_rank.result c.check_rank.ensures c.in_ok-check_rank.was

pub invariant_of-tree : goal.invariant_of-tree
invariant_of-tree c =
    let z = (passed (goal.at.invariant_of-tree c).In_ok-check_rank).known in
    record { covered = omega (arith, z.words, z.step); whole = tree_over z }

pub ones_before-ones-requires : goal.ones_before-ones-requires
ones_before-ones-requires c =
    let p = passed (goal.at.ones_before-ones-requires c).In_ok-check_rank in
    let z = p.known in
    omega (arith, ltb-false c.args.self.strip.handle.length c.args.i p.own.1.0, z.long, z.step)

pub returns-then-i-ones : goal.returns-then-i-ones
returns-then-i-ones c =
    let s = c.args.self in
    rank_unfit s.strip.handle s.strip.words.now s.counters.now c.args.v c.args.i c.ones_before-ones.result
    (passed (goal.at.returns-then-i-ones c).In_ok-check_rank) c.ones_before-ones.ensures.1 c.if-i-ones.true

pub returns : goal.returns
returns c =
    let s = c.args.self in
    rank_done s.strip.handle s.strip.words.now s.counters.now c.args.v c.args.i c.ones_before-ones.result
    (passed (goal.at.returns c).In_ok-check_rank) c.ones_before-ones.ensures.1 c.of_value.result c.if-i-ones.false c.of_value.ensures

-- `counters::read::Record::select` meets its contract. Assumes nothing.
use Rattle.std.proofs.Common.{◌≡◌, ℕ, ◌≤◌, [], ◌∷◌, subst, arith, ltb-false, leb-false}
use Rattle.std.specs.Prelude.{Option, Some, None}
use Rattle.words.specs.Strip.{of_value}
use Rattle.words.specs.Calls.{value_line, absent_line}
use Rattle.words.proofs.WordLaws.{as_bit_of}
use Rattle.words.proofs.SearchLaws.{value_le}
use Rattle.counters.specs.Tree.{blocks_of}
use Rattle.counters.specs.Descent.{PositionOf}
use Rattle.counters.proofs.PromiseLaws.{tree_over, PassedRecord, record_passed}
use Rattle.counters.proofs.ReadLaws.{select_done, select_past, select_none}
use Rattle.counters.proofs.read.Record.select.Goals as goal
use Rattle.counters.proofs.read.Record.select.Goals.{In_ok-check_select, After-select_position}

-- what the checks leave
passed : (c : In_ok-check_select)
    → let s = c.args.self in
    let h = s.strip.handle in
    PassedRecord h s.strip.words.now s.counters.now (value_line c.args.v ∷ absent_line (of_value c.args.v h.length h.total) c.args.k ∷ [])
passed c =
    let s = c.args.self in
    record_passed s.strip.handle s.strip.words.now s.counters.now _ c.check_select.result c.check_select.ensures c.in_ok-check_select.was

pub invariant_of-tree : goal.invariant_of-tree
invariant_of-tree c =
    let z = (passed (goal.at.invariant_of-tree c).In_ok-check_select).known in
    record { covered = omega (arith, z.words, z.step); whole = tree_over z }

pub select_position-requires : goal.select_position-requires
select_position-requires c =
    let h = c.args.self.strip.handle in
    let p = passed (goal.at.select_position-requires c).In_ok-check_select in
    let z = p.known in
    omega (arith, leb-false _ _ p.own.1.0, value_le c.args.v h.length h.total z.held, z.long, z.step)

-- the position found, by v
place : (c : After-select_position) → c.args.v ≤ 1 → (o : Option ℕ) → c.select_position.result ≡ o
    → let s = c.args.self in
    PositionOf (blocks_of s.strip.handle.capacity) c.args.v s.strip.words.now s.counters.now c.args.k o
place c small o e =
    let s = c.args.self in
    let n : ℕ = blocks_of s.strip.handle.capacity in
    subst (λ (q : Option ℕ). PositionOf n c.args.v s.strip.words.now s.counters.now c.args.k q) e
    (subst (λ (b : ℕ). PositionOf n b s.strip.words.now s.counters.now c.args.k c.select_position.result) (as_bit_of c.args.v small) c.select_position.ensures)

pub returns-in-Some : goal.returns-in-Some
returns-in-Some c =
    let s = c.args.self in
    let p = passed (goal.at.returns-in-Some c).In_ok-check_select in
    let at = place (goal.at.returns-in-Some c).After-select_position (ltb-false 1 c.args.v p.own.0) (Some c.in-Some.p) c.in-Some.is in
    select_done s.strip.handle s.strip.words.now s.counters.now c.args.v c.args.k p c.in-Some.p at.1 c.if-p-h.true

pub returns-in_default : goal.returns-in_default
returns-in_default c =
    let s = c.args.self in
    let p = passed (goal.at.returns-in_default c).In_ok-check_select in
    let at = place (goal.at.returns-in_default c).After-select_position (ltb-false 1 c.args.v p.own.0) (Some c.in-Some.p) c.in-Some.is in
    select_past s.strip.handle s.strip.words.now s.counters.now c.args.v c.args.k p c.in-Some.p at.1 c.if-p-h.false

pub returns-in_default-2 : goal.returns-in_default-2
returns-in_default-2 c =
    let s = c.args.self in
    let p = passed (goal.at.returns-in_default-2 c).In_ok-check_select in
    select_none s.strip.handle s.strip.words.now s.counters.now c.args.v c.args.k p
    (place (goal.at.returns-in_default-2 c).After-select_position (ltb-false 1 c.args.v p.own.0) None c.in_default.is)

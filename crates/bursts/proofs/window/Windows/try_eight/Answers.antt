-- `bursts::window::Windows::try_eight` meets its contract. The invariant: no start before word j + i serves, and what the window there holds. Assumes nothing.
use Rattle.std.proofs.Common.{◌+◌, ◌*◌, get_or, arith}
use Rattle.bursts.specs.Working.{Holds}
use Rattle.bursts.proofs.WindowLaws.{holds_le, holds_run, holds_wider, passed_le, passed_more, searched_found, searched_none}
use Rattle.bursts.proofs.window.Windows.try_eight.Goals as goal
use Rattle.bursts.proofs.window.Windows.try_eight.Goals.{In-loop-i}

-- the ones that enter with word j + i, and those that leave
enters : (c : In-loop-i)
    → let s = c.args.self in
    Holds s.words.now 64 (64 * (c.args.j + c.loop-i.i) + s.w) (get_or c.args.enters c.loop-i.i 0)
enters c =
    let s = c.args.self in
    let a = c.args in
    holds_run s.words.now (64 * a.j + s.w) (64 * (a.j + c.loop-i.i) + s.w) c.loop-i.i a.enters (omega arith) c.loop-i-test.true c.requires.4

leaves : (c : In-loop-i) → Holds c.args.self.words.now 64 (64 * (c.args.j + c.loop-i.i)) (get_or c.args.leaves c.loop-i.i 0)
leaves c =
    let a = c.args in
    holds_run a.self.words.now (64 * a.j) (64 * (a.j + c.loop-i.i)) c.loop-i.i a.leaves (omega arith) c.loop-i-test.true c.requires.3

pub overflow_add-most : goal.overflow_add-most
overflow_add-most c =
    let s = c.args.self in
    let at = 64 * (c.args.j + c.loop-i.i) in
    omega (
      arith,
      holds_le s.words.now s.w at c.loop-i.count c.loop-i.invariant.1.holds,
      holds_le s.words.now 64 (at + s.w) (get_or c.args.enters c.loop-i.i 0) (enters (goal.at.overflow_add-most c).In-loop-i),
    )

pub start_in_word-requires : goal.start_in_word-requires
start_in_word-requires c =
    let s = c.args.self in
    let h = c.loop-i.invariant.1.holds in (
      omega arith,
      omega arith,
      h,
      holds_wider s.words.now s.w (64 * (c.args.j + c.loop-i.i)) c.loop-i.count (get_or c.args.enters c.loop-i.i 0) h
          (enters (goal.at.start_in_word-requires c).In-loop-i),
    )

pub returns-in-Some : goal.returns-in-Some
returns-in-Some c =
    searched_found c.loop-i.invariant.1 (64 * (c.args.j + c.loop-i.i + 1)) (64 * (c.args.j + 8)) c.in-Some.start c.in-Some.ensures (omega arith) (omega arith)

pub overflow_sub-count : goal.overflow_sub-count
overflow_sub-count c =
    let at = (goal.at.overflow_sub-count c).In-loop-i in
    passed_le c.loop-i.invariant.1 (64 * (c.args.j + (c.loop-i.i + 1))) _ _ (omega arith) (enters at) (leaves at)

pub loop-i-preserved : goal.loop-i-preserved
loop-i-preserved c =
    let at = (goal.at.loop-i-preserved c).In-loop-i in (
      omega arith,
      passed_more c.loop-i.invariant.1 (64 * (c.args.j + (c.loop-i.i + 1))) _ _ (omega arith) (enters at) (leaves at)
          (λ s la lb. c.in_default.ensures s la (omega arith)),
    )

pub returns : goal.returns
returns c = searched_none c.loop-i.invariant.1 (64 * (c.args.j + 8)) (omega arith)

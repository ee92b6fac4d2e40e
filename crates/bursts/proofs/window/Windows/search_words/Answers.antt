-- `bursts::window::Windows::search_words` meets its contract. The invariant: no start before word j serves, and what the window there holds. Assumes nothing.
use Rattle.std.proofs.Common.{◌+◌, ◌*◌, arith}
use Rattle.bursts.specs.Working.{Holds}
use Rattle.bursts.proofs.WindowLaws.{holds_le, holds_bits, holds_word, holds_wider, passed_le, passed_more, searched_found, searched_none}
use Rattle.bursts.proofs.window.Windows.search_words.Goals as goal
use Rattle.bursts.proofs.window.Windows.search_words.Goals.{After-ones_of}

-- the ones that enter
enters : (c : After-ones_of)
    → let s = c.args.self in Holds s.words.now 64 (64 * c.loop-j.j + s.w) c.ones_of.result
enters c =
    let s = c.args.self in
    holds_bits s.words.now (64 * c.loop-j.j + s.w) c.entering.result c.ones_of.result c.entering.ensures c.ones_of.ensures

pub overflow_add-most : goal.overflow_add-most
overflow_add-most c =
    let s = c.args.self in
    omega (
      arith,
      holds_le s.words.now s.w (64 * c.loop-j.j) c.loop-j.count c.loop-j.invariant.2.holds,
      holds_le s.words.now 64 (64 * c.loop-j.j + s.w) c.ones_of.result (enters (goal.at.overflow_add-most c).After-ones_of),
    )

pub start_in_word-requires : goal.start_in_word-requires
start_in_word-requires c =
    let s = c.args.self in
    let h = c.loop-j.invariant.2.holds in (
      omega arith,
      omega arith,
      h,
      holds_wider s.words.now s.w (64 * c.loop-j.j) c.loop-j.count c.ones_of.result h (enters (goal.at.start_in_word-requires c).After-ones_of),
    )

pub returns-in-Some : goal.returns-in-Some
returns-in-Some c =
    searched_found c.loop-j.invariant.2 (64 * (c.loop-j.j + 1)) (64 * c.args.to) c.in-Some.start c.in-Some.ensures (omega arith) (omega arith)

pub overflow_sub-count : goal.overflow_sub-count
overflow_sub-count c =
    passed_le c.loop-j.invariant.2 (64 * (c.loop-j.j + 1)) c.ones_of.result c.ones_of-in-loop-j.result (omega arith)
    (enters (goal.at.overflow_sub-count c).After-ones_of)
    (holds_word c.args.self.words.now c.loop-j.j c.ones_of-in-loop-j.result c.ones_of-in-loop-j.ensures)

pub loop-j-preserved : goal.loop-j-preserved
loop-j-preserved c = (
  omega arith,
  omega arith,
  passed_more c.loop-j.invariant.2 (64 * (c.loop-j.j + 1)) c.ones_of.result c.ones_of-in-loop-j.result (omega arith)
      (enters (goal.at.loop-j-preserved c).After-ones_of)
      (holds_word c.args.self.words.now c.loop-j.j c.ones_of-in-loop-j.result c.ones_of-in-loop-j.ensures) c.in_default.ensures,
)

pub returns : goal.returns
returns c = searched_none c.loop-j.invariant.2 (64 * c.args.to) (omega arith)

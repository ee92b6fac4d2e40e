-- `bursts::window::Windows::search_all` meets its contract. The invariant: no start before word 8 b serves, and what the window there holds. Assumes nothing.
use Rattle.std.proofs.Common.{◌≡◌, ◌+◌, ◌*◌, ◌/◌, arith}
use Rattle.bursts.proofs.WindowLaws.{passed_over, searched_found, searched_after}
use Rattle.bursts.proofs.window.Windows.search_all.Goals as goal

pub returns-in_err-count : goal.returns-in_err-count
returns-in_err-count c =
    rw c.from_residual.ensures
    (searched_found c.loop-b.invariant.1 (64 * (8 * c.loop-b.b + 8)) (64 * c.args.to) c.in_err-count.field-0.0 c.in_err-count.ensures (omega arith)
    (omega arith))

pub loop-b-preserved : goal.loop-b-preserved
loop-b-preserved c =
    let e : 8 * c.loop-b.b + 8 ≡ 8 * (c.loop-b.b + 1) = omega arith in
    (omega arith, passed_over c.loop-b.invariant.1 (64 * (8 * (c.loop-b.b + 1))) c.in_ok-count.count (rw e at c.in_ok-count.ensures))

pub returns : goal.returns
returns c =
    let e : 8 * c.loop-b.b ≡ c.args.to / 8 * 8 = omega arith in
    searched_after (rw e at c.loop-b.invariant.1) (64 * c.args.to) c.search_words.result c.search_words.ensures (omega arith)

-- `pairs::rule::join` meets its contract: one law for each rule. Assumes nothing.
use Rattle.pairs.proofs.JoinLaws.{joined_both, joined_either, joined_only_first, joined_differ}
use Rattle.pairs.proofs.rule.join.Goals as goal

pub returns-in-Both : goal.returns-in-Both
returns-in-Both c = rw c.in-Both.is (joined_both c.args.x c.args.y)

pub returns-in-Either : goal.returns-in-Either
returns-in-Either c = rw c.in-Either.is (joined_either c.args.x c.args.y)

pub returns-in-OnlyFirst : goal.returns-in-OnlyFirst
returns-in-OnlyFirst c = rw c.in-OnlyFirst.is (joined_only_first c.args.x c.args.y c.ranges.y.fits)

pub returns-in-Differ : goal.returns-in-Differ
returns-in-Differ c = rw c.in-Differ.is (joined_differ c.args.x c.args.y)

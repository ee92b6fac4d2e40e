-- `words::scan::lowest_one` meets its contract: the trailing zeros lie below it. Assumes nothing.
use Rattle.words.proofs.ScanLaws.{trailing_first}
use Rattle.words.proofs.scan.lowest_one.Goals as goal

pub returns : goal.returns
returns c = let t = trailing_first 64 c.args.x c.ranges.x.fits c.if-x-eq0.false in (t.1, t.0)

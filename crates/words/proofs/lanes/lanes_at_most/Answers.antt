-- `words::lanes::lanes_at_most` meets its contract: the subtraction borrows in no lane, and each lane's high bit is its test. Assumes nothing.
use Rattle.words.proofs.LaneLaws.{at_most_law}
use Rattle.words.proofs.lanes.lanes_at_most.Goals as goal

pub returns : goal.returns
returns c = at_most_law c.args.s c.args.k c.ranges.s.fits c.requires.0 c.requires.1 c.lane_product.result c.lane_product.ensures

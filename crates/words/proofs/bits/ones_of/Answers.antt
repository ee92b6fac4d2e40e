-- `words::bits::ones_of` meets its contract. Assumes nothing.
use Rattle.words.proofs.BitLaws.{count_is}
use Rattle.words.proofs.bits.ones_of.Goals as goal

pub returns : goal.returns
returns c = count_is 64 c.args.x c.ranges.x.fits

-- `listing::number::put_ended` meets its contract: the digits, then one byte more. Assumes nothing.
use Rattle.listing.proofs.StoreLaws.{put_byte}
use Rattle.listing.proofs.number.put_ended.Goals as goal

pub returns : goal.returns
returns c = put_byte c.args.byte c.put_decimal-last.ensures

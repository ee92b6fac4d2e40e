-- `words::lanes::byte_counts` meets its contract: three pairings, of fields of 1, 2 and 4 bits. Assumes nothing.
use Rattle.words.proofs.PairLaws.{byte_law}
use Rattle.words.proofs.lanes.byte_counts.Goals as goal

pub returns : goal.returns
returns c = byte_law c.args.x

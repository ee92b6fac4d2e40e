-- `words::fill::put_position` meets its contract: one bit of one word is written. Assumes nothing.
use Rattle.words.specs.Strip.{as_bit}
use Rattle.words.proofs.FillLaws.{position_put}
use Rattle.words.proofs.fill.put_position.Goals as goal

pub returns : goal.returns
returns c = position_put c.args.words.now c.args.p (as_bit c.args.v) c.put_bit.result c.requires c.put_bit.ensures

-- `words::fill::flip_position` meets its contract: the one bit of its word is flipped. Assumes nothing.
use Rattle.std.proofs.Common.{◌-◌}
use Rattle.words.specs.Bits.{bit_at}
use Rattle.words.proofs.FillLaws.{position_put}
use Rattle.words.proofs.fill.flip_position.Goals as goal

pub returns-clause-range_put : goal.returns-clause-range_put
returns-clause-range_put c =
    let ws = c.args.words.now in
    position_put ws c.args.p (1 - bit_at ws c.args.p) c.flip_bit-x.result c.requires c.flip_bit-x.ensures

-- `image::reading::Record::bit` meets its contract. Assumes nothing.
use Rattle.std.proofs.Common.{◌+◌, ◌/◌, arith}
use Rattle.image.specs.Kinds.{kind1}
use Rattle.image.proofs.KindLaws.{bytes_inside, kind1_fits}
use Rattle.image.proofs.reading.Record.bit.Goals as goal

pub byte_at-requires : goal.byte_at-requires
byte_at-requires c =
    let a = c.args in
    omega (arith, c.bits_start.ensures.0, bytes_inside kind1 kind1_fits a.self.n (a.i / 8 + 1) (omega arith))

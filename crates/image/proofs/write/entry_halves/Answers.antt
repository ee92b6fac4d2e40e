-- `image::write::entry_halves` meets its contract. Assumes nothing.
use Rattle.image.proofs.EntryLaws.{halves_made}
use Rattle.image.proofs.write.entry_halves.Goals as goal

pub returns : goal.returns
returns c = halves_made _ _ c.requires

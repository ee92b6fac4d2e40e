-- `image::reading::place_with` meets its contract. The invariant: the k-th v lies in the 2^t places from lo on, as the entries say. Assumes nothing.
use Rattle.std.proofs.Common.{ℕ, ◌+◌, ◌*◌, ◌^◌, ◌<◌}
use Rattle.words.specs.Strip.{as_bit}
use Rattle.image.specs.Entry.{entry_values}
use Rattle.image.specs.Reading.{Halved}
use Rattle.image.proofs.reading.place_with.Given as goal

abbrev pub invariant-loop-t : goal.invariant-loop-t
invariant-loop-t g l = (l.lo < l.count) × Halved (λ (b : ℕ). entry_values l.part (as_bit l.v) (g.row.STEP * b)) l.count l.k l.lo (l.lo + 2 ^ l.t)

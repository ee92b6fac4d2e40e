-- `image::chain::scan_chain` meets its contract. The invariant: what is told of the records walked, among it the label's record o, by its byte, and the rest of
-- the chain from `next` on. The measure is what is left of the image past it. Assumes nothing.
use Rattle.std.proofs.Common.{ℕ, length}
use Rattle.std.specs.Prelude.{Option, unwrap_or}
use Rattle.image.specs.Walk.{RecordAt}
use Rattle.image.proofs.WalkLaws.{Standing, Scanned, left}
use Rattle.image.proofs.chain.scan_chain.Given as goal

abbrev pub invariant-loop-next : goal.invariant-loop-next
invariant-loop-next l = (o : Option ℕ) × RecordAt o l.found × Standing (λ (at : ℕ). Scanned l.image l.label at l.met l.link l.end o) l.next

abbrev pub decreases-loop-next : goal.decreases-loop-next
decreases-loop-next l = left (length l.image) (unwrap_or l.next 0)

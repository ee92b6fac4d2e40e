-- `merging::rows::copy_rows` meets its contract. The invariant: the records of the rows walked that count are copied. The measure is what is left of the image past `next`.
-- Assumes nothing.
use Rattle.std.proofs.Common.{ℕ, length}
use Rattle.std.specs.Prelude.{unwrap_or}
use Rattle.std.specs.Option.{option_copied}
use Rattle.image.specs.Kinds.{kind1}
use Rattle.image.proofs.WalkLaws.{Standing, left}
use Rattle.merging.specs.Working.{marked}
use Rattle.merging.proofs.LoopLaws.{CopyingRows}
use Rattle.merging.proofs.rows.copy_rows.Given as goal

abbrev pub invariant-loop-next : goal.invariant-loop-next
invariant-loop-next l = Standing (λ (at : ℕ). CopyingRows kind1 l.image (marked (option_copied l.marks)) l.initial.out l.start l.end l.out at l.at) l.next

abbrev pub decreases-loop-next : goal.decreases-loop-next
decreases-loop-next l = left (length l.image) (unwrap_or l.next 0)

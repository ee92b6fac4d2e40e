-- `image::open::held_length` meets its contract: each return has the test that led there. Assumes nothing.
use native.Mathlib.Omega.{arith}
use borrow.Author.Tests.{lt-leb, le-leb}
use lib.ListN.{length}
use Rattle.image.specs.Layout.{head_bytes}
use Rattle.image.specs.Calls.{held_length}
use Rattle.image.proofs.open.held_length.Goals as goal

pub returns-then-part-lt-HEAD_BYTES : goal.returns-then-part-lt-HEAD_BYTES
unfolding held_length
returns-then-part-lt-HEAD_BYTES c = simp (lt-leb head_bytes (length c.args.part.now) c.if-part-lt-HEAD_BYTES.true)

pub returns : goal.returns
unfolding held_length
returns c = simp (le-leb head_bytes (length c.args.part.now) (omega arith)) c.length_at.ensures.0

-- `machine::runner::put_answers` meets its contract. Assumes nothing.
use native.Mathlib.Omega.{arith}
use Rattle.image.proofs.PutLaws.{part_stored}
use Rattle.machine.proofs.runner.put_answers.Goals as goal

pub returns : goal.returns
returns g c = part_stored _ _ _ _ _ (omega arith) (omega arith) c.copy_from_slice.ensures.after

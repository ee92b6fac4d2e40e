-- Derived, for inner contracts: what the runner's loop does. Laws in proofs/ tie it to the machine. Assumes nothing.
use Rattle.std.specs.Prelude.{ℕ, ◌≡◌, List, ◌++◌, take, drop}
use Rattle.machine.specs.Scripts.{decode}
use Rattle.machine.specs.Unit.{UnitState}
use Rattle.machine.specs.Demand.{Trace}
use Rattle.machine.specs.Runner.{head_answers, answers_for, calls_in}

-- the calls of a script from x to z, and their answers after the first four places; all other places as they were
pub record Looped (script : List ℕ) (x : UnitState) (ans : List ℕ) (z : UnitState) (ans' : List ℕ) : Type 0 where
  pub out : List ℕ
  pub trace : Trace x (decode script) out z
  pub told : ans' ≡ take head_answers ans ++ (out ++ drop (answers_for (calls_in script)) ans)

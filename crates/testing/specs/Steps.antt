-- What the exported step of a script gives. Assumes nothing.
use Rattle.std.specs.Prelude.{ℕ, ◌≤◌, ◌<◌, ◌≡◌, List, length}
use Rattle.machine.specs.Machine.{Step}
use Rattle.machine.specs.Unit.{UnitState}
use Rattle.strips.specs.Exports.{out_numbers, out_with, out_over}

-- the four lent buffers of a step
pub record LentAll : Type 0 where
  pub words : List ℕ
  pub counters : List ℕ
  pub image : List ℕ
  pub out : List ℕ

abbrev pub lent_all : List ℕ → List ℕ → List ℕ → List ℕ → LentAll
lent_all ws cs im os = record { words = ws; counters = cs; image = im; out = os }

-- a step's six numbers
abbrev pub step_out : Step UnitState → List ℕ
step_out y = out_with y.refusal y.first y.second y.next.strip.handle

-- a step with some outcome of which P holds
pub record StepRan (P : Step UnitState → Type 0) (os : List ℕ) (m : LentAll) : Type 0 where
  pub step : Step UnitState
  pub holds : P step
  pub same : m ≡ lent_all step.next.strip.words step.next.strip.counters step.next.image (out_over (step_out step) os)

-- with fewer places in `out` than a step's numbers nothing runs
pub record StepReported (P : Step UnitState → Type 0) (l m : LentAll) : Type 0 where
  pub idle : length l.out < out_numbers → m ≡ l
  pub ran : out_numbers ≤ length l.out → StepRan P l.out m

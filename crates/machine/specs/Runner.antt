-- The runner of scripts: what `execute` answers, and what it leaves. Assumes nothing.
use Rattle.std.specs.Prelude.{ℕ, ◌+◌, ◌-◌, ◌*◌, ◌/◌, ◌^◌, ◌≤◌, ◌≡◌, not, cond, List, ◌∷◌, ◌++◌, length, set, drop, ltb, eqb}
use Rattle.std.proofs.Math.Option.{Option, none}
use Rattle.words.specs.Refusals.{judge, unless}
use Rattle.words.specs.declared.handle.Handle.{Handle}
use Rattle.machine.specs.Machine.{State, Call, run, outputs, opening_table}
use Rattle.machine.specs.Scripts.{call_numbers, decode}
use Rattle.machine.specs.Unit.{UnitState, afresh}
use Rattle.machine.specs.Demand.{Trace, Turns, start}

-- the places of answers: four before those of the calls, three for each call
abbrev pub head_answers : ℕ
head_answers = 4

abbrev pub call_answers : ℕ
call_answers = 3

abbrev pub answers_for : ℕ → ℕ
answers_for n = head_answers + call_answers * n

-- the calls of a script
abbrev pub calls_in : List ℕ → ℕ
calls_in script = length script / call_numbers

-- the number of calls run, and every lent buffer at the end
pub record Ended : Type 0 where
  pub count : ℕ
  pub words : List ℕ
  pub counters : List ℕ
  pub image : List ℕ
  pub answers : List ℕ

abbrev pub ended : ℕ → List ℕ → List ℕ → List ℕ → List ℕ → Ended
ended n ws cs im ans = record { count = n; words = ws; counters = cs; image = im; answers = ans }

-- the answers of n calls: 0, capacity, length and total of the last handle, three numbers for each call; later places as they were
abbrev pub answers_over : ℕ → Handle → List ℕ → List ℕ → List ℕ
answers_over n h out ans = (0 ∷ h.capacity ∷ h.length ∷ h.total ∷ out) ++ drop (answers_for n) ans

-- n calls run to x
abbrev pub ran_to : ℕ → UnitState → List ℕ → List ℕ → Ended
ran_to n x out ans = ended n x.strip.words x.strip.counters x.image (answers_over n x.strip.handle out ans)

-- the opening's table on lent buffers: clear's refusals come first where `order` is not 0
abbrev pub opening_of : ℕ → ℕ → List ℕ → List ℕ → List ℕ → Option ℕ
opening_of c order ws cs im = judge (opening_table c (not (eqb order 0)) (length ws) (length cs) (length im))

-- answers too short: nothing runs, and 2^64 - 1; the opening refused: its number in the first place, and nothing more; else the machine's
unfoldable pub executed : List ℕ → ℕ → ℕ → List ℕ → List ℕ → List ℕ → List ℕ → Ended
executed script c order ws cs im ans =
    cond (ltb (length ans) (answers_for (calls_in script))) (ended (2 ^ 64 - 1) ws cs im ans)
    (unless (opening_of c order ws cs im) (λ n. ended 0 ws cs im (set ans 0 n))
    (ran_to (calls_in script) (afresh (run (start c ws cs im) (decode script))) (outputs (start c ws cs im) (decode script)) ans))

-- a list of calls by their own promises, from the opened machine's state laid afresh to an outcome, with its answers; every accepted turn in it changed
-- exactly its counters
pub record Ran (s : State) (ks : List Call) (n : ℕ) (ans : List ℕ) (o : Ended) : Type 0 where
  pub last : UnitState
  pub out : List ℕ
  pub trace : Trace (afresh s) ks out last
  pub turns : Turns trace
  pub same : o ≡ ran_to n last out ans

-- Demand 3 of a script: for all lent buffers the whole outcome; where the calls ran, a list of calls by their own promises leads there
pub record Executed (script : List ℕ) (c order : ℕ) (ws cs im ans : List ℕ) (o : Ended) : Type 0 where
  pub whole : o ≡ executed script c order ws cs im ans
  pub ran : answers_for (calls_in script) ≤ length ans → opening_of c order ws cs im ≡ none → Ran (start c ws cs im) (decode script) (calls_in script) ans o

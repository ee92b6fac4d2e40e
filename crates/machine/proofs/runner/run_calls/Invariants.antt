-- `machine::runner::run_calls` meets its contract. Assumes nothing.
use Rattle.machine.specs.Unit.{strip_record, unit_state}
use Rattle.machine.proofs.LoopLaws.{Looping}
use Rattle.machine.proofs.runner.run_calls.Given as goal

abbrev pub invariant-loop-i : goal.invariant-loop-i
invariant-loop-i l = Looping l.script (unit_state (strip_record l.initial.last l.initial.words l.initial.counters) l.initial.image) l.initial.answers l.answers (unit_state (strip_record l.last l.words l.counters) l.image) l.i

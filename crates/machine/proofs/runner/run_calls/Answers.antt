-- `machine::runner::run_calls` meets its contract. Assumes nothing.
use native.Mathlib.Omega.{arith}
use mathlib.Core.Path.{ap, ◌∙◌}
use mathlib.Core.List.{List, []}
use Prim.Native.Nat.{ℕ, ◌/◌}
use lib.ListN.{length, get_or}
use Rattle.words.proofs.BlockLaws.{chunk_at}
use Rattle.machine.proofs.LoopLaws.{looping_start, looping_more, looping_done}
use Rattle.machine.proofs.runner.run_calls.Goals as goal

pub loop-i-init : goal.loop-i-init
loop-i-init c = looping_start _ _ _

pub loop-i-preserved : goal.loop-i-preserved
loop-i-preserved c =
    let s = c.args.script.now in
    let i = c.loop-i.i in
    let d = c.step-r in
    let chunk = ap (λ (ws : List (List ℕ)). get_or ws i []) c.as_chunks.ensures.front ∙ chunk_at 4 (length s / 4) i s (omega arith) in
    looping_more _ _ _ _ _ _ _ _ _ _ _ _ _ _ (omega arith) c.loop-i.invariant chunk d.ensures (c.numbers_of.ensures c.loop-i.last) c.put_answers.ensures
    c.handle_after-last.ensures

pub returns : goal.returns
returns c = looping_done _ _ _ _ _ _ c.requires (omega arith) c.loop-i.invariant

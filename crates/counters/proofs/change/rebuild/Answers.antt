-- `counters::change::rebuild` meets its contract. Assumes nothing.
use Rattle.std.proofs.Common.{sym, ap, ◌∙◌, arith}
use Rattle.words.specs.declared.handle.Handle.{Handle}
use Rattle.words.specs.Bits.{bit_at, ones}
use Rattle.counters.specs.Promises.{done, outcome}
use Rattle.counters.proofs.PromiseLaws.{rebuild_done}
use Rattle.counters.proofs.change.rebuild.Goals as goal

pub returns : goal.returns
returns c =
    let a = c.args in
    let wipe = c.put_positions in
    let built = c.build_counters-ones in
    ap (λ (g : Handle). outcome (done g built.result 0) wipe.new.words built.new.counters) c.new.ensures
    ∙ rebuild_done a.capacity a.n built.result a.words.now wipe.new.words built.new.counters c.requires.0 (omega (arith, c.requires))
    wipe.ensures (λ k. (c.slice_known-3-1.given k).fits) (built.auto.counters ∙ c.requires.4.size)
    (built.ensures.0 ∙ ap (ones (bit_at wipe.new.words)) (sym c.requires.2)) built.ensures.1

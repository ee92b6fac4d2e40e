-- `counters::path::move_node` meets its contract: the summaries are lent first, then the keys of the child's group. Assumes nothing.
use Rattle.std.proofs.Common.{ℕ, ◌+◌, ◌-◌, ◌*◌, ◌/◌, ◌%◌, take, drop, refl, arith}
use Rattle.counters.proofs.SpliceLaws.{splice}
use Rattle.counters.proofs.PathLaws.{steps_later, lanes_moved, offsets_number, node_moved}
use Rattle.counters.proofs.path.move_node.Goals as goal

pub returns : goal.returns
returns c =
    let first = c.add_each in
    let second = c.add_each-2 in
    let s = c.args in
    let g : ℕ = s.c / 8 in
    let a : ℕ = 8 + 8 * g in
    let us = first.new.lanes in
    let p : ℕ = 7 - g in
    let q : ℕ = 7 - s.c % 8 in (
      offsets_number s.c (omega arith),
      λ d are.
          node_moved s.c d s.node.now us second.new.lanes a (a + 8 - a)
          (omega arith) (omega arith) refl (omega arith) first.auto.lanes second.auto.lanes
          (lanes_moved 8 d s.steps.now are (g + 1) p (p + 8 - p) (omega arith) (omega arith) s.node.now us 0 8 refl
          (λ i. omega (arith, c.slice_known-1.given i)) first.ensures)
          (lanes_moved 7 d (take 15 (drop 1 s.steps.now)) (steps_later 7 d 15 s.steps.now refl are) (s.c % 8) q (q + 8 - q) (omega arith) (omega arith)
          (splice 0 8 s.node.now us) second.new.lanes a (a + 8 - a) (omega arith) (λ i. omega (arith, c.slice_known-2-1.given i)) second.ensures),
    )

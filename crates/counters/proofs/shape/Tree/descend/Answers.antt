-- `counters::shape::Tree::descend` meets its contract. Assumes nothing.
use Rattle.std.proofs.Common.{◌≡◌, ℕ, suc, ◌+◌, ◌-◌, ◌*◌, ◌<◌, ◌≤◌, sym, ap, subst, arith}
use Rattle.words.specs.Strip.{as_bit}
use Rattle.counters.specs.Tree.{nodes, child_bits, counter_count}
use Rattle.counters.specs.Working.{most_blocks}
use Rattle.counters.specs.Descent.{FoundIn, values_before}
use Rattle.counters.proofs.TreeLaws.{height_le, level_few, nodes_zero}
use Rattle.counters.proofs.SelectionLaws.{Leads, Way, way_root, way_end, way_down, found_there}
use Rattle.counters.proofs.shape.Tree.descend.Goals as goal
use Rattle.counters.proofs.shape.Tree.descend.Goals.{After-child_with-child, In-loop-t}

pub loop-t-init : goal.loop-t-init
loop-t-init c =
    subst (λ (t : ℕ). Way c.args.self.blocks (as_bit c.args.v) c.args.k c.args.self.counters.now t (record { count = 1; start = 0 }) 0 c.args.k) (sym c.height_of-t.ensures)
    (way_root c.args.self.blocks (as_bit c.args.v) c.args.k c.args.self.counters.now c.args.self.whole)

-- the node is one of its level, whose counters are there; it has no more nodes than there are blocks, and there are at most three levels
room : (c : In-loop-t)
    → let l = c.loop-t in
    (l.spot.index < l.level.count) × (l.level.start + 72 * l.level.count ≤ counter_count c.args.self.blocks) × (l.level.count ≤ most_blocks) × (l.t ≤ 3)
room c =
    let w = c.loop-t.invariant in (
      w.there,
      (way_end c.args.self.blocks (as_bit c.args.v) c.args.k c.args.self.counters.now c.loop-t-test.true w).1,
      level_few w.place c.args.self.whole,
      omega (arith, w.level, height_le c.args.self.blocks),
    )

pub overflow_mul-at : goal.overflow_mul-at
overflow_mul-at c = omega (arith, room (goal.at.overflow_mul-at c).In-loop-t)

pub overflow_add-at : goal.overflow_add-at
overflow_add-at c = omega (arith, room (goal.at.overflow_add-at c).In-loop-t)

pub child_bits-requires : goal.child_bits-requires
child_bits-requires c = omega (arith, room (goal.at.child_bits-requires c).In-loop-t)

pub child_with-child-requires : goal.child_with-child-requires
child_with-child-requires c = omega (arith, room (goal.at.child_with-child-requires c).In-loop-t, c.child_bits.ensures.1)

pub nodes_of-requires : goal.nodes_of-requires
nodes_of-requires c = omega (arith, room (goal.at.nodes_of-requires c).In-loop-t)

pub overflow_mul-level : goal.overflow_mul-level
overflow_mul-level c = omega (arith, room (goal.at.overflow_mul-level c).In-loop-t)

pub overflow_add-level : goal.overflow_add-level
overflow_add-level c = omega (arith, room (goal.at.overflow_add-level c).In-loop-t)

pub overflow_mul-spot : goal.overflow_mul-spot
overflow_mul-spot c = omega (arith, room (goal.at.overflow_mul-spot c).In-loop-t)

pub overflow_add-spot : goal.overflow_add-spot
overflow_add-spot c = omega (arith, room (goal.at.overflow_add-spot c).In-loop-t, c.child_with-child.ensures.0)

-- the child found holds the k-th v
found : (c : After-child_with-child)
    → let l = c.loop-t in
    let r = c.child_with-child.result in
    Leads c.args.self.blocks (as_bit c.args.v) c.args.k c.args.self.counters.now (l.t - 1) (64 * l.spot.index + r.index) r.left
found c =
    let l = c.loop-t in
    let r = c.child_with-child in
    let size = c.child_bits in
    let t : l.t - 1 + 1 ≡ l.t = omega arith in
    way_down c.args.self.blocks (as_bit c.args.v) c.args.k c.args.self.counters.now size.result r.result.index r.result.left c.loop-t-test.true l.invariant
    (subst (λ (t : ℕ). size.result ≡ child_bits t) t size.ensures.0) r.ensures

pub returns-then-level-spot : goal.returns-then-level-spot
returns-then-level-spot c f bits fit h =
    let l = c.loop-t in
    let r = c.child_with-child.result in
    let there : 64 * l.spot.index + r.index < nodes c.args.self.blocks (l.t - 1) =
    found_there f (as_bit c.args.v) c.args.self.blocks (l.t - 1) c.args.k (64 * l.spot.index + r.index) r.left h (found (goal.at.returns-then-level-spot c).After-child_with-child f bits fit h) in
    omega (arith, there, c.nodes_of.ensures, c.if-level-spot.true)

pub loop-t-preserved : goal.loop-t-preserved
loop-t-preserved c =
    let l = c.loop-t in
    record {
      level = omega (arith, l.invariant.level);
      place =
          record {
            counted = c.nodes_of.ensures;
            starts =
                (way_end c.args.self.blocks (as_bit c.args.v) c.args.k c.args.self.counters.now c.loop-t-test.true l.invariant).0;
          };
      there = c.if-level-spot.false;
      leads = found (goal.at.loop-t-preserved c).After-child_with-child;
    }

pub returns : goal.returns
returns c =
    let s = c.args in
    let l = c.loop-t in
    let z : l.t ≡ 0 = omega arith in
    let one : suc l.t ≡ 1 = omega arith in (
      omega (arith, l.invariant.there, l.invariant.place.counted, ap (nodes s.self.blocks) z, nodes_zero s.self.blocks),
      λ f bits fit h. subst (λ (t : ℕ). FoundIn (values_before f (as_bit s.v) t) s.k l.spot.index l.spot.left) one (l.invariant.leads f bits fit h),
    )

-- `merging::rows::Placed::rows_conflict` meets its contract. The invariant: no row walked is unequal to the first image's of its label. Assumes nothing.
use Rattle.std.proofs.Common.{◌≡◌, sym, ◌∙◌}
use Rattle.image.specs.Chain.{kind_of}
use Rattle.image.proofs.ChainLaws.{RecordFacts}
use Rattle.image.proofs.WalkLaws.{standing_here, standing_end, left_turn}
use Rattle.merging.proofs.RowsLaws.{obeys_least, row_walk_facts, row_walk_right}
use Rattle.merging.proofs.LoopLaws.{Comparing, comparing_none, comparing_more, comparing_unequal, comparing_done}
use Rattle.merging.proofs.rows.Placed.rows_conflict.Goals as goal
use Rattle.merging.proofs.rows.Placed.rows_conflict.Goals.{In-Some}

-- the walk at the record that a turn stands at
here : (c : In-Some) → Comparing c.args.self.image.now c.args.second.now c.in-Some.at × (c.in-Some.at ≡ 0 → ⊥)
here c = standing_here c.loop-next.invariant c.in-Some.is

-- that record
known : (c : In-Some) → let s = c.args.second.now in RecordFacts (kind_of s) s c.in-Some.at
known c = let w = here c in row_walk_facts w.0.walk w.1

pub first_record-next-requires : goal.first_record-next-requires
first_record-next-requires c = obeys_least c.requires.1

pub loop-next-init : goal.loop-next-init
loop-next-init c = record { byte = _; stands = c.first_record-next.ensures; holds = comparing_none _ _ c.requires.1 }

pub row_conflicts-requires : goal.row_conflicts-requires
row_conflicts-requires c =
    let i = (goal.at.row_conflicts-requires c).In-Some in
    let w = here i in
    (c.requires.0, row_walk_right w.0.walk w.1, (known i).high)

pub returns-then-row_conflicts : goal.returns-then-row_conflicts
returns-then-row_conflicts c =
    let w = here (goal.at.returns-then-row_conflicts c).In-Some in
    comparing_unequal w.0 w.1 (sym c.row_conflicts.ensures ∙ c.if-row_conflicts.true)

pub next_record-next-requires : goal.next_record-next-requires
next_record-next-requires c = (known (goal.at.next_record-next-requires c).In-Some).room

pub loop-next-smaller : goal.loop-next-smaller
loop-next-smaller c =
    let i = (goal.at.loop-next-smaller c).In-Some in
    left_turn _ _ _ _ c.in-Some.is (here i).1 (known i) c.next_record-next.ensures

pub loop-next-preserved : goal.loop-next-preserved
loop-next-preserved c =
    let w = here (goal.at.loop-next-preserved c).In-Some in
    record {
      byte = _;
      stands = c.next_record-next.ensures;
      holds = comparing_more w.0 w.1 (sym c.row_conflicts.ensures ∙ c.if-row_conflicts.false);
    }

pub returns : goal.returns
returns c = comparing_done (standing_end c.loop-next.invariant c.in_default.is)

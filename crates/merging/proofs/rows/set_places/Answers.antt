-- `merging::rows::set_places` meets its contract. The invariant: the places of the records walked. Assumes nothing.
use Rattle.std.proofs.Common.{◌≡◌, arith}
use Rattle.image.specs.Chain.{kind_of}
use Rattle.image.proofs.ChainLaws.{RecordFacts}
use Rattle.image.proofs.WalkLaws.{standing_here, standing_end, left_turn}
use Rattle.merging.proofs.RowsLaws.{obeys_least, row_walk_facts}
use Rattle.merging.proofs.LoopLaws.{Placing, placing_none, placing_more, placing_done}
use Rattle.merging.proofs.rows.set_places.Goals as goal
use Rattle.merging.proofs.rows.set_places.Goals.{In-Some}

-- the walk at the record that a turn stands at
here : (c : In-Some) → Placing c.args.image.now c.loop-next.places c.in-Some.at × (c.in-Some.at ≡ 0 → ⊥)
here c = standing_here c.loop-next.invariant c.in-Some.is

-- that record
known : (c : In-Some) → let s = c.args.image.now in RecordFacts (kind_of s) s c.in-Some.at
known c = let w = here c in row_walk_facts w.0.walk w.1

pub first_record-next-requires : goal.first_record-next-requires
first_record-next-requires c = obeys_least c.requires.0

pub loop-next-init : goal.loop-next-init
loop-next-init c = record { byte = _; stands = c.first_record-next.ensures; holds = rw c.requires.1 (placing_none _ c.requires.0) }

pub label_at-requires : goal.label_at-requires
label_at-requires c = (known (goal.at.label_at-requires c).In-Some).room

pub bounds-places-label_at : goal.bounds-places-label_at
bounds-places-label_at c = omega (arith, c.label_at.ensures.0, (known (goal.at.bounds-places-label_at c).In-Some).high)

pub next_record-next-requires : goal.next_record-next-requires
next_record-next-requires c = (known (goal.at.next_record-next-requires c).In-Some).room

pub loop-next-smaller : goal.loop-next-smaller
loop-next-smaller c =
    let i = (goal.at.loop-next-smaller c).In-Some in
    left_turn _ _ _ _ c.in-Some.is (here i).1 (known i) c.next_record-next.ensures

pub loop-next-preserved : goal.loop-next-preserved
loop-next-preserved c =
    let w = here (goal.at.loop-next-preserved c).In-Some in
    record { byte = _; stands = c.next_record-next.ensures; holds = placing_more w.0 w.1 _ c.label_at.ensures.0 }

pub returns : goal.returns
returns c = placing_done (standing_end c.loop-next.invariant c.in_default.is)

-- `listing::rows::put_rows` meets its contract. The invariant: the lines of the records walked are stored, and the rest of the chain starts at `next`. The
-- measure is what is left of the image past it. Assumes nothing.
use Rattle.std.proofs.Common.{◌≡◌, arith}
use Rattle.image.specs.Chain.{kind_of}
use Rattle.image.proofs.ChainLaws.{RecordFacts, chain_facts}
use Rattle.image.proofs.WalkLaws.{standing_here, left_turn}
use Rattle.image.proofs.InspectLaws.{obeys_chain}
use Rattle.listing.proofs.StoreLaws.{put_length}
use Rattle.listing.proofs.RowsLaws.{RowsPut, rows_none, rows_record, rows_room, rows_more}
use Rattle.listing.proofs.rows.put_rows.Goals as goal
use Rattle.listing.proofs.rows.put_rows.Goals.{In-Some}

-- the walk at the record that a turn stands at
here : (c : In-Some) → RowsPut c.args.image.now c.args.out.now c.loop-next.out c.in-Some.at c.loop-next.end × (c.in-Some.at ≡ 0 → ⊥)
here c = standing_here c.loop-next.invariant c.in-Some.is

-- that record
known : (c : In-Some) → let s = c.args.image.now in RecordFacts (kind_of s) s c.in-Some.at
known c = let w = here c in rows_record w.0 w.1

pub first_record-next-requires : goal.first_record-next-requires
first_record-next-requires c = (chain_facts _ _ (obeys_chain c.requires.0)).header.least

pub loop-next-init : goal.loop-next-init
loop-next-init c = record { byte = _; stands = c.first_record-next.ensures; holds = rows_none _ _ c.requires.0 }

pub put_line-end-requires : goal.put_line-end-requires
put_line-end-requires c =
    let i = (goal.at.put_line-end-requires c).In-Some in
    let w = here i in
    ((known i).room, omega (arith, rows_room w.0 w.1 c.requires.0, put_length w.0.put, c.requires.1))

pub next_record-next-requires : goal.next_record-next-requires
next_record-next-requires c = (known (goal.at.next_record-next-requires c).In-Some).room

pub loop-next-smaller : goal.loop-next-smaller
loop-next-smaller c =
    let i = (goal.at.loop-next-smaller c).In-Some in
    left_turn _ _ _ _ c.in-Some.is (here i).1 (known i) c.next_record-next.ensures

pub loop-next-preserved : goal.loop-next-preserved
loop-next-preserved c =
    let w = here (goal.at.loop-next-preserved c).In-Some in
    record { byte = _; stands = c.next_record-next.ensures; holds = rows_more w.0 w.1 _ _ c.put_line-end.ensures }

-- `image::query::nth_label` meets its contract. The invariant: the records walked and `left` make k. The measure is what is left of the image past `next`.
-- Assumes nothing.
use Rattle.std.proofs.Common.{◌≡◌, refl, arith}
use Rattle.image.specs.Chain.{kind_of}
use Rattle.image.proofs.ChainLaws.{RecordFacts, chain_facts, some_in}
use Rattle.image.proofs.WalkLaws.{standing_here, standing_end, left_turn}
use Rattle.image.proofs.QueryLaws.{Nearing, nearing_none, nearing_record, nearing_here, nearing_more, nearing_done}
use Rattle.image.proofs.query.nth_label.Goals as goal
use Rattle.image.proofs.query.nth_label.Goals.{In-Some}

-- the walk at the record that a turn stands at
here : (c : In-Some) → Nearing c.args.image.now c.args.k c.in-Some.at c.loop-next.left × (c.in-Some.at ≡ 0 → ⊥)
here c = standing_here c.loop-next.invariant c.in-Some.is

-- that record
known : (c : In-Some) → let s = c.args.image.now in RecordFacts (kind_of s) s c.in-Some.at
known c = let w = here c in nearing_record w.0 w.1

pub first_record-next-requires : goal.first_record-next-requires
first_record-next-requires c = (chain_facts _ _ (some_in _ c.requires)).header.least

pub loop-next-init : goal.loop-next-init
loop-next-init c = record { byte = _; stands = c.first_record-next.ensures; holds = nearing_none _ _ c.requires }

pub label_at-requires : goal.label_at-requires
label_at-requires c = (known (goal.at.label_at-requires c).In-Some).room

pub returns-then-left-eq0 : goal.returns-then-left-eq0
returns-then-left-eq0 c =
    let w = here (goal.at.returns-then-left-eq0 c).In-Some in
    nearing_here w.0 w.1 _ c.label_at.ensures.0 c.if-left-eq0.true

pub next_record-next-requires : goal.next_record-next-requires
next_record-next-requires c = (known (goal.at.next_record-next-requires c).In-Some).room

pub loop-next-smaller : goal.loop-next-smaller
loop-next-smaller c =
    let i = (goal.at.loop-next-smaller c).In-Some in
    left_turn _ _ _ _ c.in-Some.is (here i).1 (known i) c.next_record-next.ensures

pub loop-next-preserved : goal.loop-next-preserved
loop-next-preserved c =
    let w = here (goal.at.loop-next-preserved c).In-Some in
    record { byte = _; stands = c.next_record-next.ensures; holds = nearing_more w.0 w.1 _ refl _ (omega (arith, c.if-left-eq0.false)) }

pub returns : goal.returns
returns c = nearing_done (standing_end c.loop-next.invariant c.in_default.is) refl

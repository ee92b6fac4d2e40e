-- `image::inspection::count_rows` meets its contract. The invariant: the rows walked are right, and the records from `next` on decide. The measure is
-- what is left of the image past it. Assumes nothing.
use Rattle.std.proofs.Common.{◌≡◌, sym, ◌∙◌, refl, arith}
use Rattle.image.specs.Kinds.{kind1}
use Rattle.image.specs.Chain.{kind_of}
use Rattle.image.proofs.KindLaws.{one_kind}
use Rattle.image.proofs.ChainLaws.{RecordFacts, chain_facts, some_in}
use Rattle.image.proofs.WalkLaws.{standing_here, standing_end, left_turn}
use Rattle.image.proofs.RowLaws.{part_room}
use Rattle.image.proofs.InspectLaws.{Inspected, row_test, inspected_none, inspected_record, inspected_few, inspected_more, inspected_wrong, inspected_done, read_good, read_right}
use Rattle.image.proofs.inspection.count_rows.Goals as goal
use Rattle.image.proofs.inspection.count_rows.Goals.{After-part_right, In-Some}

-- the walk at the record that a turn stands at
here : (c : In-Some) → Inspected c.args.image.now c.in-Some.at c.loop-next.count × (c.in-Some.at ≡ 0 → ⊥)
here c = standing_here c.loop-next.invariant c.in-Some.is

-- that record
known : (c : In-Some) → let s = c.args.image.now in RecordFacts (kind_of s) s c.in-Some.at
known c = let w = here c in inspected_record w.0 w.1

pub first_record-next-requires : goal.first_record-next-requires
first_record-next-requires c = (chain_facts _ _ (some_in _ c.requires)).header.least

pub loop-next-init : goal.loop-next-init
loop-next-init c = record { byte = _; stands = c.first_record-next.ensures; holds = inspected_none _ c.requires }

pub record_part-part-requires : goal.record_part-part-requires
record_part-part-requires c = let k = known (goal.at.record_part-part-requires c).In-Some in (k.room, k.inside)

pub length_at-requires : goal.length_at-requires
length_at-requires c = part_room _ _ _ (known (goal.at.length_at-requires c).In-Some) _ c.record_part-part.ensures

pub part_right-requires : goal.part_right-requires
part_right-requires c = read_good kind1 _ _ _ _ (one_kind _) (known (goal.at.part_right-requires c).In-Some) c.record_part-part.ensures c.length_at.ensures.0

-- whether its row is right
judged : (c : After-part_right) → (let s = c.args.image.now in RecordFacts (kind_of s) s c.in-Some.at)
    → c.part_right.result ≡ row_test c.args.image.now c.in-Some.at
judged c k = c.part_right.ensures ∙ read_right kind1 _ _ _ _ (one_kind _) k c.record_part-part.ensures c.length_at.ensures.0

pub returns-then-not-part_right : goal.returns-then-not-part_right
returns-then-not-part_right c =
    let i = (goal.at.returns-then-not-part_right c).In-Some in
    let w = here i in
    inspected_wrong w.0 w.1 (sym (judged (goal.at.returns-then-not-part_right c).After-part_right (known i)) ∙ c.if-not-part_right.true)

pub overflow_add-count : goal.overflow_add-count
overflow_add-count c = let w = here (goal.at.overflow_add-count c).In-Some in omega (arith, inspected_few w.0 w.1)

pub next_record-next-requires : goal.next_record-next-requires
next_record-next-requires c = (known (goal.at.next_record-next-requires c).In-Some).room

pub loop-next-smaller : goal.loop-next-smaller
loop-next-smaller c =
    let i = (goal.at.loop-next-smaller c).In-Some in
    left_turn _ _ _ _ c.in-Some.is (here i).1 (known i) c.next_record-next.ensures

pub loop-next-preserved : goal.loop-next-preserved
loop-next-preserved c =
    let i = (goal.at.loop-next-preserved c).In-Some in
    let w = here i in
    record {
      byte = _;
      stands = c.next_record-next.ensures;
      holds = inspected_more w.0 w.1 _ refl (sym (judged (goal.at.loop-next-preserved c).After-part_right (known i)) ∙ c.if-not-part_right.false);
    }

pub returns : goal.returns
returns c = inspected_done (standing_end c.loop-next.invariant c.in_default.is) refl

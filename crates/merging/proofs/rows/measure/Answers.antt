-- `merging::rows::measure` meets its contract. The invariant: the number of the rows walked that count, and the bytes of their records. Assumes nothing.
use Rattle.std.proofs.Common.{◌≡◌, sym, ap, ◌∙◌, arith}
use Rattle.image.specs.Chain.{kind_of}
use Rattle.image.proofs.ChainLaws.{RecordFacts}
use Rattle.image.proofs.WalkLaws.{standing_here, standing_end, left_turn}
use Rattle.std.specs.Option.{option_copied}
use Rattle.image.specs.Kinds.{kind1}
use Rattle.image.specs.Layout.{size_of}
use Rattle.image.proofs.KindLaws.{kind1_fits, one_kind}
use Rattle.image.proofs.WalkLaws.{walk_few}
use Rattle.merging.specs.Working.{marked}
use Rattle.merging.proofs.RowsLaws.{obeys_least, row_walk_facts}
use Rattle.merging.proofs.LoopLaws.{Measuring, measuring_none, measuring_out, measuring_in, measuring_done}
use Rattle.merging.proofs.rows.measure.Goals as goal
use Rattle.merging.proofs.rows.measure.Goals.{In-Some, then-not-is_marked, else-not-is_marked}

-- the walk at the record that a turn stands at
here : (c : In-Some)
    → Measuring kind1 c.args.image.now (marked (option_copied c.args.marks)) c.in-Some.at c.loop-next.rows c.loop-next.bytes × (c.in-Some.at ≡ 0 → ⊥)
here c = standing_here c.loop-next.invariant c.in-Some.is

-- that record
known : (c : In-Some) → let s = c.args.image.now in RecordFacts (kind_of s) s c.in-Some.at
known c = let w = here c in row_walk_facts w.0.walk w.1

pub first_record-next-requires : goal.first_record-next-requires
first_record-next-requires c = obeys_least c.requires

pub loop-next-init : goal.loop-next-init
loop-next-init c = record { byte = _; stands = c.first_record-next.ensures; holds = measuring_none kind1 _ _ c.requires }

pub is_marked-requires : goal.is_marked-requires
is_marked-requires c = let k = known (goal.at.is_marked-requires c).In-Some in (k.room, k.high)

pub overflow_add-rows : goal.overflow_add-rows
overflow_add-rows c = let w = here (goal.at.overflow_add-rows c).In-Some in omega (arith, w.0.few, walk_few w.0.walk.walk w.1)

pub length_at-requires : goal.length_at-requires
length_at-requires c = (known (goal.at.length_at-requires c).In-Some).room

pub overflow_add-bytes : goal.overflow_add-bytes
overflow_add-bytes c =
    let w = here (goal.at.overflow_add-bytes c).In-Some in
    omega (arith, w.0.bounded, w.0.few, walk_few w.0.walk.walk w.1, c.record_size-bytes.ensures, c.length_at.ensures.1)

pub next_record-next-requires : goal.next_record-next-requires
next_record-next-requires c = (known (goal.at.next_record-next-requires c).In-Some).room

pub loop-next-smaller : goal.loop-next-smaller
loop-next-smaller c =
    let i = (goal.at.loop-next-smaller c).In-Some in
    left_turn _ _ _ _ c.in-Some.is (here i).1 (known i) c.next_record-next.ensures

pub loop-next-preserved : goal.loop-next-preserved
loop-next-preserved c =
    let w = here (goal.at.loop-next-preserved c).In-Some in
    record {
      byte = _;
      stands = c.next_record-next.ensures;
      holds =
          elim c.if-not-is_marked.branch [
            | then-not-is_marked u ↦
                rw (u.rows-is, u.bytes-is)
                (measuring_in w.0 w.1 kind1_fits (one_kind _) _ (u.record_size-bytes.ensures ∙ ap (size_of kind1) u.length_at.ensures.0)
                (sym c.is_marked.ensures ∙ u.if-not-is_marked.true))
            | else-not-is_marked u ↦ rw (u.rows-is, u.bytes-is) (measuring_out w.0 w.1 (sym c.is_marked.ensures ∙ u.if-not-is_marked.false))
          ];
    }

pub returns : goal.returns
returns c = measuring_done (standing_end c.loop-next.invariant c.in_default.is)

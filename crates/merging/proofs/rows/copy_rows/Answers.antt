-- `merging::rows::copy_rows` meets its contract. The invariant: the records of the rows walked that count are copied. Assumes nothing.
use Rattle.std.proofs.Common.{◌≡◌, sym, ◌∙◌, arith}
use Rattle.image.specs.Chain.{kind_of}
use Rattle.image.proofs.ChainLaws.{RecordFacts}
use Rattle.image.proofs.WalkLaws.{standing_here, standing_end, left_turn}
use Rattle.std.specs.Option.{option_copied}
use Rattle.image.specs.Kinds.{kind1}
use Rattle.image.proofs.KindLaws.{kind1_fits}
use Rattle.merging.specs.Working.{marked}
use Rattle.merging.proofs.RowsLaws.{obeys_least, row_walk_facts, row_walk_right}
use Rattle.merging.proofs.LoopLaws.{CopyingRows, copying_rows_none, copying_rows_room, copying_rows_out, copying_rows_in, copying_rows_done}
use Rattle.merging.proofs.rows.copy_rows.Goals as goal
use Rattle.merging.proofs.rows.copy_rows.Goals.{In-Some, then-not-is_marked, else-not-is_marked}

-- the walk at the record that a turn stands at
here : (c : In-Some)
    → let a = c.args in
    CopyingRows kind1 a.image.now (marked (option_copied a.marks)) a.out.now a.start a.end c.loop-next.out c.in-Some.from c.loop-next.at × (c.in-Some.from ≡ 0 → ⊥)
here c = standing_here c.loop-next.invariant c.in-Some.is

-- that record
known : (c : In-Some) → let s = c.args.image.now in RecordFacts (kind_of s) s c.in-Some.from
known c = let w = here c in row_walk_facts w.0.walk w.1

pub first_record-next-requires : goal.first_record-next-requires
first_record-next-requires c = obeys_least c.requires.0

pub loop-next-init : goal.loop-next-init
loop-next-init c = record { byte = _; stands = c.first_record-next.ensures; holds = copying_rows_none kind1 kind1_fits _ _ _ _ _ c.requires.0 }

pub is_marked-requires : goal.is_marked-requires
is_marked-requires c = let k = known (goal.at.is_marked-requires c).In-Some in (k.room, k.high)

pub copy_record-at-requires : goal.copy_record-at-requires
copy_record-at-requires c =
    let w = here (goal.at.copy_record-at-requires c).In-Some in (
      row_walk_right w.0.walk w.1,
      copying_rows_room kind1_fits w.0 w.1 (sym c.is_marked.ensures ∙ c.if-not-is_marked.true) c.requires.1,
      omega (arith, w.0.long, c.requires.2),
    )

pub next_record-next-requires : goal.next_record-next-requires
next_record-next-requires c = (known (goal.at.next_record-next-requires c).In-Some).room

pub loop-next-smaller : goal.loop-next-smaller
loop-next-smaller c =
    let i = (goal.at.loop-next-smaller c).In-Some in
    left_turn _ _ _ _ c.in-Some.is (here i).1 (known i) c.next_record-next.ensures

pub loop-next-preserved : goal.loop-next-preserved
loop-next-preserved c =
    let w = here (goal.at.loop-next-preserved c).In-Some in
    record {
      byte = _;
      stands = c.next_record-next.ensures;
      holds =
          elim c.if-not-is_marked.branch [
            | then-not-is_marked u ↦
                rw (u.out-is, u.at-is) (copying_rows_in kind1_fits w.0 w.1 (sym c.is_marked.ensures ∙ u.if-not-is_marked.true) u.copy_record-at.ensures)
            | else-not-is_marked u ↦
                rw (u.out-is, u.at-is) (copying_rows_out kind1_fits w.0 w.1 (sym c.is_marked.ensures ∙ u.if-not-is_marked.false))
          ];
    }

pub returns : goal.returns
returns c = copying_rows_done (standing_end c.loop-next.invariant c.in_default.is)

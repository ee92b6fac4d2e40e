-- `image::chain::scan_chain` meets its contract. The invariant: what is told of the records walked, among it the label's record o, by its byte, and the rest of
-- the chain from `next` on. The measure is what is left of the image past it. Assumes nothing.
use Rattle.std.proofs.Common.{◌≡◌, refl, sym, true, cond, eqb, eq-eqb, ne_eqb, arith}
use Rattle.std.specs.Prelude.{Some, None}
use Rattle.image.specs.Chain.{kind_of, sound_record}
use Rattle.image.proofs.ChainLaws.{header_facts, RecordFacts, record_facts, chain_unsound}
use Rattle.image.proofs.WalkLaws.{Scanned, standing_here, standing_end, record_one, record_or, left_turn, scanned_none, scanned_unsound, scanned_again, scanned_more, scanned_done, scan_unsound}
use Rattle.image.proofs.chain.scan_chain.Goals as goal
use Rattle.image.proofs.chain.scan_chain.Goals.{then-here-label, else-here-label, In-Some, Else-not-record_sound, Joined-here-label}

-- the scan at the record that a turn stands at
here : (c : In-Some)
    → let l = c.loop-next in Scanned c.args.image.now c.args.label c.in-Some.at l.met l.link l.end l.invariant.0 × (c.in-Some.at ≡ 0 → ⊥)
here c = standing_here c.loop-next.invariant.2 c.in-Some.is

-- that record is sound
sound : (c : Else-not-record_sound) → let s = c.args.image.now in sound_record (kind_of s) s c.in-Some.at ≡ true
sound c = sym c.if-not-record_sound.ensures

known : (c : Else-not-record_sound) → let s = c.args.image.now in RecordFacts (kind_of s) s c.in-Some.at
known c = record_facts _ _ _ (sound c)

-- the byte where the label was met, after the branch
spot : (c : Joined-here-label)
    → c.if-here-label.found ≡ cond (eqb c.label_at-here.result c.args.label) c.in-Some.at c.loop-next.found
spot c =
    elim c.if-here-label.branch [
      | then-here-label w ↦ simp (eq-eqb _ _ w.if-here-label.true) w.found-is
      | else-here-label w ↦ simp (ne_eqb _ _ w.if-here-label.false) w.found-is
    ]

pub returns-then-not-header_sound : goal.returns-then-not-header_sound
returns-then-not-header_sound c = scan_unsound _ _ (chain_unsound _ (sym c.if-not-header_sound.ensures))

pub first_record-next-requires : goal.first_record-next-requires
first_record-next-requires c = (header_facts _ (sym c.if-not-header_sound.ensures)).least

pub loop-next-init : goal.loop-next-init
loop-next-init c = (
  None,
  refl,
  record { byte = _; stands = c.first_record-next.ensures; holds = scanned_none _ _ (sym c.if-not-header_sound.ensures) },
)

pub returns-then-not-record_sound : goal.returns-then-not-record_sound
returns-then-not-record_sound c =
    let w = here (goal.at.returns-then-not-record_sound c).In-Some in
    scanned_unsound w.0 w.1 (sym c.if-not-record_sound.ensures)

pub label_at-here-requires : goal.label_at-here-requires
label_at-here-requires c = (known c).room

pub bounds-met-here : goal.bounds-met-here
bounds-met-here c = omega (arith, (known (goal.at.bounds-met-here c).Else-not-record_sound).high)

pub returns-then-met-here : goal.returns-then-met-here
returns-then-met-here c =
    let w = here (goal.at.returns-then-met-here c).In-Some in
    scanned_again w.0 w.1 (sound (goal.at.returns-then-met-here c).Else-not-record_sound) _ c.label_at-here.ensures.0 c.if-met-here.true

pub bounds-met-here-in-Some : goal.bounds-met-here-in-Some
bounds-met-here-in-Some c = omega (arith, (known (goal.at.bounds-met-here-in-Some c).Else-not-record_sound).high)

pub record_end-end-requires : goal.record_end-end-requires
record_end-end-requires c = (known (goal.at.record_end-end-requires c).Else-not-record_sound).room

pub next_record-next-requires : goal.next_record-next-requires
next_record-next-requires c = (known (goal.at.next_record-next-requires c).Else-not-record_sound).room

pub loop-next-smaller : goal.loop-next-smaller
loop-next-smaller c =
    let w = here (goal.at.loop-next-smaller c).In-Some in
    left_turn _ _ _ _ c.in-Some.is w.1 (known (goal.at.loop-next-smaller c).Else-not-record_sound) c.next_record-next.ensures

pub loop-next-preserved : goal.loop-next-preserved
loop-next-preserved c =
    let w = here (goal.at.loop-next-preserved c).In-Some in
    let i = c.loop-next.invariant in
    let met = eqb c.label_at-here.result c.args.label in (
      cond met (Some c.in-Some.at) i.0,
      rw (spot (goal.at.loop-next-preserved c).Joined-here-label) (record_or met c.in-Some.at c.loop-next.found i.0 w.1 i.1),
      record {
        byte = _;
        stands = c.next_record-next.ensures;
        holds =
            scanned_more w.0 w.1 (sound (goal.at.loop-next-preserved c).Else-not-record_sound) _ c.label_at-here.ensures.0 _ _ _
            refl c.record_end-end.ensures c.if-met-here.false refl;
      },
    )

pub returns : goal.returns
returns c =
    let i = c.loop-next.invariant in
    rw (record_one _ _ _ c.record_at-found.ensures i.1) (scanned_done (standing_end i.2 c.in_default.is) refl)

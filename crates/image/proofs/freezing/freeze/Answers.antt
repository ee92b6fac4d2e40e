-- `image::freezing::freeze` meets its contract. Assumes nothing.
use Rattle.std.proofs.Common.{◌≡◌, length, ap, ◌∙◌, sym, arith}
use Rattle.std.proofs.Math.Option.{none}
use Rattle.std.proofs.lemmas.List.Edits.{sets}
use Rattle.words.specs.Strip.{strip_of}
use Rattle.words.specs.Refusals.{judge}
use Rattle.image.specs.Kinds.{Kind}
use Rattle.image.specs.Layout.{size_of, record_of}
use Rattle.image.specs.Chain.{kind_of, link_of, chain_end}
use Rattle.image.specs.Calls.{records_of, freeze_table}
use Rattle.image.proofs.KindLaws.{one_kind}
use Rattle.image.proofs.FreezeLaws.{freezing, placed_at, freeze_refused, freeze_done}
use Rattle.image.proofs.freezing.freeze.Goals as goal
use Rattle.image.proofs.freezing.freeze.Goals.{In_ok-place}

-- what a place that is given says
known : (c : In_ok-place)
    → let a = c.args in
    let s = a.image.now in
    (judge (freeze_table a.strip.handle (length a.strip.words.now) s a.label) ≡ none) × (c.in_ok-place.place.link ≡ link_of (records_of s))
    × (c.in_ok-place.place.start ≡ chain_end (kind_of s) s (records_of s))
known c =
    let a = c.args in
    placed_at a.strip.handle (length a.strip.words.now) a.image.now a.label _ _ c.check_freeze.ensures c.in_ok-place.was

pub returns-in_err-place : goal.returns-in_err-place
returns-in_err-place c =
    let a = c.args in
    freeze_refused a.strip.handle a.strip.words.now a.image.now a.label _ _ _ c.check_freeze.ensures c.in_err-place.was c.from_residual.ensures.1

pub put_le-requires : goal.put_le-requires
put_le-requires c =
    let k = known (goal.at.put_le-requires c).In_ok-place in
    let f = (freezing c.args.strip.handle _ c.args.image.now c.args.label k.0).facts.ended in
    omega (arith, k.1, f.past, f.inside)

pub write_record-requires : goal.write_record-requires
write_record-requires c =
    let a = c.args in
    let k = known (goal.at.write_record-requires c).In_ok-place in
    let f = freezing a.strip.handle _ a.image.now a.label k.0 in
    let n : length c.put_le.new.s ≡ length a.image.now = c.put_le.auto.s in (
      omega (arith, n, k.2, f.room, ap (λ (K : Kind). size_of K a.strip.handle.length) (one_kind a.image.now)),
      omega (arith, f.strip.count, f.strip.long, f.strip.step),
      omega (arith, f.strip.long, f.strip.most),
      omega (arith, f.high),
      omega (arith, n, f.facts.header.most),
    )

pub returns : goal.returns
returns c =
    let a = c.args in
    let place = c.in_ok-place.place in
    let k = known (goal.at.returns c).In_ok-place in
    freeze_done a.strip.handle a.strip.words.now a.image.now a.label place.link place.start c.put_le.new.s c.write_record.new.image k.0 k.1 k.2
    c.put_le.ensures
    (c.write_record.ensures
    ∙ ap (λ (K : Kind). sets c.put_le.new.s place.start (record_of K 0 a.label (strip_of a.strip.words.now a.strip.handle.length)))
    (sym (one_kind a.image.now)))

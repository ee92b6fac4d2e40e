-- `merging::merging::merge_rows` meets its contract. Assumes nothing.
use mathlib.Core.Path.{◌≡◌, sym, ap, ap₂, ◌∙◌}
use mathlib.Core.Bool.{true, false}
use mathlib.Core.List.{List}
use Prim.Native.Nat.{ℕ, ◌+◌}
use native.Mathlib.Omega.{arith}
use lib.ListN.{length}
use Rattle.words.specs.Refusals.{value}
use Rattle.image.specs.Kinds.{Kind, kind1}
use Rattle.image.specs.Layout.{unit_bytes}
use Rattle.image.specs.Chain.{kind_of, good_size}
use Rattle.image.specs.Shelf.{sizes_of, written}
use Rattle.image.specs.Calls.{image_outcome}
use Rattle.image.proofs.KindLaws.{kind1_fits, one_kind}
use Rattle.image.proofs.ChainLaws.{size_facts}
use Rattle.merging.specs.Merged.{rows_of, conflict}
use Rattle.merging.specs.Calls.{merged_rows, room_for}
use Rattle.merging.proofs.LoopLaws.{merged_number, merged_sizes}
use Rattle.merging.proofs.MergeLaws.{room_sized, room_short, room_enough, merge_conflict, merge_full, merge_written}
use Rattle.merging.proofs.merging.merge_rows.Goals as goal
use Rattle.merging.proofs.merging.merge_rows.Goals.{After-measure-more, Else-not-size_good, Else-rows_conflict}

-- no row is unequal
equal : (c : Else-rows_conflict)
    → conflict (rows_of c.args.first.now) (rows_of c.args.second.now) ≡ false
equal c =
    sym c.rows_conflict.ensures ∙ c.if-rows_conflict.false

pub returns-then-rows_conflict : goal.returns-then-rows_conflict
returns-then-rows_conflict c = merge_conflict _ _ _ c.requires.0 c.requires.1 (sym c.rows_conflict.ensures ∙ c.if-rows_conflict.true)

-- where the rows end
ended : (c : After-measure-more)
    → unit_bytes + c.measure-own.result.bytes + c.measure-more.result.bytes
    ≡ unit_bytes + sizes_of kind1 (merged_rows c.args.first.now c.args.second.now)
ended c =
    omega (
      arith,
      merged_sizes c.set_places.ensures c.requires.1 kind1 kind1_fits,
      c.measure-own.ensures.sizes,
      c.measure-more.ensures.sizes,
    )

-- the size is in range
good : (c : Else-not-size_good)
    → good_size (length c.args.third.now) ≡ true
good c =
    sym c.size_good.ensures ∙ c.if-not-size_good.false

pub returns-then-not-size_good : goal.returns-then-not-size_good
returns-then-not-size_good c =
    let first = c.args.first.now in
    let second = c.args.second.now in
    let third = c.args.third.now in
    merge_full first second third c.requires.0 c.requires.1 (equal (goal.at.returns-then-not-size_good c).Else-rows_conflict)
    (room_sized (kind_of first) (merged_rows first second) (length third) (sym c.size_good.ensures ∙ c.if-not-size_good.true))

pub returns-then-third-end : goal.returns-then-third-end
returns-then-third-end c =
    let first = c.args.first.now in
    let second = c.args.second.now in
    let third = c.args.third.now in
    merge_full first second third c.requires.0 c.requires.1 (equal (goal.at.returns-then-third-end c).Else-rows_conflict)
    (ap (λ (K : Kind). room_for K (merged_rows first second) (length third)) (one_kind first)
    ∙ room_short kind1 (merged_rows first second) (length third) (good (goal.at.returns-then-third-end c).Else-not-size_good) (omega (arith, c.if-third-end.true, ended (goal.at.returns-then-third-end c).After-measure-more)))

pub write_rows-requires : goal.write_rows-requires
write_rows-requires c = (
  (c.requires.0, c.set_places.ensures),
  c.requires.1,
  ended (goal.at.write_rows-requires c).After-measure-more,
  omega (arith, c.if-third-end.false),
  (size_facts _ (good (goal.at.write_rows-requires c).Else-not-size_good)).1,
)

pub returns : goal.returns
returns c =
    let first = c.args.first.now in
    let second = c.args.second.now in
    let third = c.args.third.now in
    let rows : c.measure-own.result.rows + c.measure-more.result.rows ≡ length (merged_rows first second) =
    omega (
      arith,
      merged_number c.set_places.ensures c.requires.1,
      c.measure-own.ensures.number,
      c.measure-more.ensures.number,
    ) in
    ap₂ (λ (n : ℕ) (l : List ℕ). image_outcome (value n) l) rows
    (c.write_rows.ensures ∙ ap (λ (K : Kind). written K (merged_rows first second) third) (sym (one_kind first)))
    ∙ merge_written first second third c.requires.0 c.requires.1 (equal (goal.at.returns c).Else-rows_conflict)
    (ap (λ (K : Kind). room_for K (merged_rows first second) (length third)) (one_kind first)
    ∙ room_enough kind1 (merged_rows first second) (length third) (good (goal.at.returns c).Else-not-size_good)
    (omega (arith, c.if-third-end.false, ended (goal.at.returns c).After-measure-more)))

-- `image::part::part_rank` meets its contract. Assumes nothing.
use Rattle.std.proofs.Common.{◌≡◌, ℕ, List, [], ◌∷◌}
use Rattle.std.proofs.Math.Option.{none}
use borrow.Author.Tests.{le-ltb}
use Rattle.words.specs.Refusals.{Line, judge}
use Rattle.words.specs.Calls.{value_line, within_line}
use Rattle.image.specs.Kinds.{kind1}
use Rattle.image.specs.Calls.{part_line}
use Rattle.image.proofs.PartLaws.{rank_done, rank_wrong}
use Rattle.image.proofs.part.part_rank.Goals as goal
use Rattle.image.proofs.part.part_rank.Goals.{Else-n-i}

-- the call's table
abbrev table : List ℕ → ℕ → ℕ → ℕ → List Line
table part n v i = part_line kind1 part n ∷ value_line v ∷ within_line n i ∷ []

-- it passes
passed : (c : Else-n-i) → let a = c.args in judge (table a.part.now a.n a.v a.i) ≡ none
passed c =
    let a = c.args in
    simp (c.in_ok-record.ensures.2, le-ltb 1 a.v c.if-v-gt1.false, le-ltb a.n a.i c.if-n-i.false)

pub returns-then-i-ones : goal.returns-then-i-ones
returns-then-i-ones c =
    let a = c.args in
    let r = c.in_ok-record.ensures in
    let counted = rw (r.0, r.1) at c.ones_before-ones.ensures.1 in
    rank_wrong kind1 (table a.part.now a.n a.v a.i) a.part.now a.n a.v a.i c.ones_before-ones.result (passed (goal.at.returns-then-i-ones c).Else-n-i)
    c.if-v-gt1.false c.if-n-i.false counted c.if-i-ones.true

pub returns : goal.returns
returns c =
    let a = c.args in
    let r = c.in_ok-record.ensures in
    let counted = rw (r.0, r.1) at c.ones_before-ones.ensures.1 in
    rank_done kind1 (table a.part.now a.n a.v a.i) a.part.now a.n a.v a.i c.ones_before-ones.result (passed (goal.at.returns c).Else-n-i)
    c.if-v-gt1.false c.if-n-i.false counted c.of_value.result c.if-i-ones.false c.of_value.ensures

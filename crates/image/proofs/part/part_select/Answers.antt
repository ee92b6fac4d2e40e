-- `image::part::part_select` meets its contract. Assumes nothing.
use Rattle.std.proofs.Common.{◌≡◌, ℕ, List, [], ◌∷◌, arith}
use Rattle.std.proofs.Math.Option.{none}
use borrow.Author.Tests.{lt-leb, le-ltb}
use Rattle.words.specs.Refusals.{Line, judge}
use Rattle.words.specs.Calls.{value_line, absent_line}
use Rattle.words.proofs.WordLaws.{as_bit_of}
use Rattle.image.specs.Kinds.{kind1}
use Rattle.image.specs.Calls.{part_line}
use Rattle.image.proofs.PartLaws.{part_is, select_over, select_absent, select_done, select_past}
use Rattle.image.proofs.part.part_select.Goals as goal
use Rattle.image.proofs.part.part_select.Goals.{Else-n-k}

-- the call's table
abbrev table : List ℕ → ℕ → ℕ → ℕ → List Line
table part n v k = part_line kind1 part n ∷ value_line v ∷ absent_line n k ∷ []

-- it passes
passed : (c : Else-n-k) → let a = c.args in judge (table a.part.now a.n a.v a.k) ≡ none
passed c =
    let a = c.args in
    simp (c.in_ok-record.ensures.2, le-ltb 1 a.v c.if-v-gt1.false, lt-leb a.n a.k c.if-n-k.false)

pub returns-then-n-ones : goal.returns-then-n-ones
returns-then-n-ones c =
    let a = c.args in
    let total = c.ones_at-ones in
    let k = part_is kind1 a.part.now a.n c.in_ok-record.ensures.2 in
    select_over kind1 (table a.part.now a.n a.v a.k) a.part.now a.n a.v a.k total.result (passed (goal.at.returns-then-n-ones c).Else-n-k)
    c.if-v-gt1.false k.short total.ensures.0 c.if-n-ones.true

pub returns-then-of_value-k : goal.returns-then-of_value-k
returns-then-of_value-k c =
    let a = c.args in
    let total = c.ones_at-ones in
    let k = part_is kind1 a.part.now a.n c.in_ok-record.ensures.2 in
    select_absent kind1 (table a.part.now a.n a.v a.k) a.part.now a.n a.v a.k total.result (passed (goal.at.returns-then-of_value-k c).Else-n-k)
    c.if-v-gt1.false k.short total.ensures.0 (omega (arith, c.of_value.ensures, c.if-of_value-k.true))

pub returns-in-Some : goal.returns-in-Some
returns-in-Some c =
    let a = c.args in
    let total = c.ones_at-ones in
    let k = part_is kind1 a.part.now a.n c.in_ok-record.ensures.2 in
    let r = c.in_ok-record.ensures in
    let o = rw (r.0, r.1, as_bit_of a.v c.if-v-gt1.false) at c.in-Some.ensures in
    select_done kind1 (table a.part.now a.n a.v a.k) a.part.now a.n a.v a.k total.result (passed (goal.at.returns-in-Some c).Else-n-k)
    c.if-v-gt1.false k.short total.ensures.0 (omega (arith, c.of_value.ensures, c.if-of_value-k.false)) c.in-Some.p o.0 o.1

pub returns-in-None : goal.returns-in-None
returns-in-None c =
    let a = c.args in
    let total = c.ones_at-ones in
    let r = c.in_ok-record.ensures in
    let k = part_is kind1 a.part.now a.n c.in_ok-record.ensures.2 in
    select_past kind1 (table a.part.now a.n a.v a.k) a.part.now a.n a.v a.k total.result (passed (goal.at.returns-in-None c).Else-n-k)
    c.if-v-gt1.false k.short total.ensures.0 (omega (arith, c.of_value.ensures, c.if-of_value-k.false))
    (rw (r.0, r.1, as_bit_of a.v c.if-v-gt1.false) at c.in-None.ensures)

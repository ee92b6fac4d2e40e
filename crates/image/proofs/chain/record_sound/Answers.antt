-- `image::chain::record_sound` meets its contract: each return has the fact that fails, or all of them. Assumes nothing.
use mathlib.Core.Path.{◌≡◌, sym, ◌∙◌}
use mathlib.Core.Bool.{false}
use Prim.Native.Nat.{ℕ, ◌*◌, ◌≤◌}
use lib.Dec.{leb}
use native.Mathlib.Omega.{arith}
use borrow.Author.Tests.{le-leb, leb-true}
use Rattle.words.proofs.BoolLaws.{true_false}
use Rattle.image.specs.Layout.{unit_bytes}
use Rattle.image.specs.Chain.{kind_of, next_at, end_at, good_fields}
use Rattle.image.proofs.ChainLaws.{fields_good, fields_facts, RecordFacts, record_sound, tells_record, no_record}
use Rattle.image.proofs.chain.record_sound.Goals as goal
use Rattle.image.proofs.chain.record_sound.Goals.{Else-n-end}

pub returns-then-n-lt-HEAD_BYTES : goal.returns-then-n-lt-HEAD_BYTES
returns-then-n-lt-HEAD_BYTES c = let a = c.args in no_record (kind_of a.image.now) a.image.now a.at (λ f. omega (arith, f.room))

pub returns-then-n-at : goal.returns-then-n-at
returns-then-n-at c = let a = c.args in no_record (kind_of a.image.now) a.image.now a.at (λ f. omega (arith, f.room))

pub returns-then-not-fields_good : goal.returns-then-not-fields_good
returns-then-not-fields_good c =
    let a = c.args in
    let bad : good_fields a.image.now a.at ≡ false = sym c.fields_good.ensures ∙ c.if-not-fields_good.true in
    no_record (kind_of a.image.now) a.image.now a.at (λ f. true_false (fields_good a.image.now a.at f.low f.high f.short) bad)

pub returns-then-n-end : goal.returns-then-n-end
returns-then-n-end c =
    let a = c.args in
    no_record (kind_of a.image.now) a.image.now a.at (λ f. omega (arith, f.inside))

-- all but what is asked of the next
facts : (c : Else-n-end)
    → let a = c.args in
    let s = a.image.now in
    ((next_at s a.at ≡ 0 → ⊥) → end_at (kind_of s) s a.at ≤ unit_bytes * next_at s a.at) → RecordFacts (kind_of s) s a.at
facts c h =
    let a = c.args in
    let k = fields_facts a.image.now a.at (sym c.fields_good.ensures ∙ c.if-not-fields_good.false) in
    record { room = omega arith; low = k.0; high = k.1; short = k.2; inside = omega arith; ahead = h }

pub returns-in-None : goal.returns-in-None
returns-in-None c = sym (record_sound _ _ _ (facts (goal.at.returns-in-None c).Else-n-end (λ n. absurd (n (omega (arith, c.in-None.ensures))))))

pub returns-in-Some : goal.returns-in-Some
returns-in-Some c =
    let a = c.args in
    let end : ℕ = c.record_end-end.result in
    let next : ℕ = c.in-Some.next in
    let k = c.in-Some.ensures in
    tells_record (kind_of a.image.now) a.image.now a.at (leb end next)
    (λ t. facts (goal.at.returns-in-Some c).Else-n-end (λ n. omega (arith, k.0, leb-true end next t)))
    (λ f. le-leb end next (omega (arith, k.0, k.1, f.ahead (λ z. omega (arith, k.0, k.1)))))

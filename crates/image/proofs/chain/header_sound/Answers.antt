-- `image::chain::header_sound` meets its contract: each return has the fact that fails, or all of them. Assumes nothing.
use mathlib.Core.Path.{◌≡◌, sym, ◌∙◌}
use mathlib.Core.Bool.{false}
use Prim.Native.Nat.{◌≤◌}
use native.Mathlib.Omega.{arith}
use lib.ListN.{length}
use borrow.Author.Tests.{eq-eqb, eqb-true}
use Rattle.words.proofs.BoolLaws.{true_false}
use Rattle.image.specs.Bytes.{num}
use Rattle.image.specs.Kinds.{kind1}
use Rattle.image.specs.Layout.{unit_bytes, most_bytes}
use Rattle.image.specs.Chain.{good_size}
use Rattle.image.proofs.KindLaws.{one_number}
use Rattle.image.proofs.ChainLaws.{size_good, size_facts, tells_header, no_header}
use Rattle.image.proofs.chain.header_sound.Goals as goal
use Rattle.image.proofs.chain.header_sound.Goals.{Else-not-size_good}

pub returns-then-not-size_good : goal.returns-then-not-size_good
returns-then-not-size_good c =
    let s = c.args.image.now in
    let bad : good_size (length s) ≡ false = sym c.size_good.ensures ∙ c.if-not-size_good.true in
    no_header s (λ f. true_false (size_good (length s) f.least f.most) bad)

-- the size is in range
sized : (c : Else-not-size_good) → (unit_bytes ≤ length c.args.image.now) × (length c.args.image.now ≤ most_bytes)
sized c =
    size_facts _ (sym c.size_good.ensures ∙ c.if-not-size_good.false)

pub returns-then-index_at-ne-KIND : goal.returns-then-index_at-ne-KIND
returns-then-index_at-ne-KIND c =
    let s = c.args.image.now in
    no_header s (λ f. omega (arith, eqb-true (num s 4 4) kind1.number (sym (one_number (num s 4 4)) ∙ f.kind)))

pub returns : goal.returns
returns c =
    let k = sized (goal.at.returns c).Else-not-size_good in
    let s = c.args.image.now in
    tells_header s _
    (λ t.
    record {
      least = k.0;
      most = k.1;
      kind = one_number (num s 4 4) ∙ eq-eqb (num s 4 4) kind1.number (omega arith);
      zeros = sym c.u64_at.ensures.0 ∙ eqb-true c.u64_at.result 0 t;
    })
    (λ f. eq-eqb c.u64_at.result 0 (c.u64_at.ensures.0 ∙ f.zeros))

-- `image::part::check_part` meets its contract: each return has the tests that led there. Assumes nothing.
use Rattle.std.proofs.Common.{◌≡◌, length, refl, ap, ◌∙◌, sym, le-leb, ne_eqb, eq-eqb, arith}
use borrow.Author.Tests.{lt-leb}
use Rattle.image.specs.Kinds.{kind1}
use Rattle.image.specs.Layout.{head_bytes, size_of}
use Rattle.image.specs.Chain.{length_at}
use Rattle.image.specs.Calls.{good_part}
use Rattle.image.proofs.part.check_part.Goals as goal
use Rattle.image.proofs.part.check_part.Goals.{Else-bytes-record_size}

pub returns-then-bytes-lt-HEAD_BYTES : goal.returns-then-bytes-lt-HEAD_BYTES
unfolding good_part
returns-then-bytes-lt-HEAD_BYTES c = (refl, simp (lt-leb head_bytes (length c.args.part.now) c.if-bytes-lt-HEAD_BYTES.true))

pub returns-then-not-fields_good : goal.returns-then-not-fields_good
unfolding good_part
returns-then-not-fields_good c = (refl, simp (le-leb head_bytes (length c.args.part.now) (omega arith), sym c.if-not-fields_good.ensures))

pub returns-then-bytes-record_size : goal.returns-then-bytes-record_size
unfolding good_part
returns-then-bytes-record_size c =
    let s = c.args.part.now in
    let e : length s ≡ size_of kind1 (length_at s 0) → ⊥ =
    λ q. c.if-bytes-record_size.true (q ∙ sym (c.record_size.ensures ∙ ap (size_of kind1) c.length_at-length.ensures.0)) in
    (refl, simp (le-leb head_bytes (length s) (omega arith), sym c.if-not-fields_good.ensures, ne_eqb (length s) (size_of kind1 (length_at s 0)) e))

-- the part has the size of its record
sized : (c : Else-bytes-record_size) → let s = c.args.part.now in length s ≡ size_of kind1 (length_at s 0)
sized c = c.if-bytes-record_size.false ∙ c.record_size.ensures ∙ ap (size_of kind1) c.length_at-length.ensures.0

pub returns-then-n-length : goal.returns-then-n-length
unfolding good_part
returns-then-n-length c =
    let s = c.args.part.now in
    let e = sized (goal.at.returns-then-n-length c).Else-bytes-record_size in (
      refl,
      simp (
        le-leb head_bytes (length s) (omega arith),
        sym c.if-not-fields_good.ensures,
        eq-eqb (length s) (size_of kind1 (length_at s 0)) e,
        ne_eqb c.args.n (length_at s 0) (λ q. c.if-n-length.true (q ∙ sym c.length_at-length.ensures.0)),
      ),
    )

pub returns : goal.returns
unfolding good_part
returns c =
    let s = c.args.part.now in
    let e = sized (goal.at.returns c).Else-bytes-record_size in (
      c.new.ensures.0,
      c.new.ensures.1,
      simp (
        le-leb head_bytes (length s) (omega arith),
        sym c.if-not-fields_good.ensures,
        eq-eqb (length s) (size_of kind1 (length_at s 0)) e,
        eq-eqb c.args.n (length_at s 0) (c.if-n-length.false ∙ c.length_at-length.ensures.0),
      ),
    )

-- `merging::rows::rows_equal` meets its contract. Assumes nothing.
use Rattle.std.proofs.Common.{◌≡◌, ap₂, ◌∙◌, length, length-drop, arith}
use Rattle.words.specs.Bits.{same}
use Rattle.image.specs.Kinds.{kind1}
use Rattle.image.specs.Layout.{size_of}
use Rattle.image.specs.Chain.{length_at}
use Rattle.image.proofs.KindLaws.{kind1_fits, one_kind}
use Rattle.merging.proofs.RecordsLaws.{part_whole, rest_taken, rest_words, rows_same, rows_unequal}
use Rattle.merging.proofs.rows.rows_equal.Goals as goal
use Rattle.merging.proofs.rows.rows_equal.Goals.{After-record_part-p}

-- the size of the first record, in whole words
sized : (c : After-record_part-p)
    → let a = c.args in length c.record_part-p.result.now ≡ size_of kind1 (length_at a.first.now a.a)
sized c = part_whole kind1 _ _ c.requires.0 (one_kind _) _ c.record_part-p.ensures

pub returns-then-q-size : goal.returns-then-q-size
returns-then-q-size c = rows_unequal kind1 _ _ _ _ c.requires.0 c.requires.1 (one_kind _) (one_kind _) _ _ c.record_part-p.ensures c.record_part-q.ensures c.if-q-size.true

pub words_equal-requires : goal.words_equal-requires
words_equal-requires c =
    let p = c.record_part-p.result.now in
    let q = c.record_part-q.result.now in
    let s = sized (goal.at.words_equal-requires c).After-record_part-p in
    rw (rest_taken p, rest_taken q) (
      omega (arith, rest_words kind1 kind1_fits p _ s, length-drop 8 p),
      omega (arith, rest_words kind1 kind1_fits p _ s, length-drop 8 p, length-drop 8 q, c.if-q-size.false),
    )

pub returns : goal.returns
returns c =
    c.words_equal.ensures
    ∙ ap₂ same (rest_taken c.record_part-p.result.now) (rest_taken c.record_part-q.result.now)
    ∙ rows_same kind1 _ _ _ _ c.requires.0 c.requires.1 (one_kind _) (one_kind _) _ _ c.record_part-p.ensures c.record_part-q.ensures

-- `merging::rows::copy_record` meets its contract: a new next index, the label, and the record's bytes from the length on. Assumes nothing.
use Rattle.std.proofs.Common.{◌≡◌, refl, ap, ◌∙◌, ◌+◌, length, length-drop, arith}
use Rattle.std.proofs.lemmas.List.Edits.{sets}
use Rattle.image.specs.Kinds.{kind1}
use Rattle.image.specs.Layout.{size_of}
use Rattle.image.specs.Chain.{length_at}
use Rattle.image.proofs.KindLaws.{kind1_fits, one_kind}
use Rattle.merging.proofs.RecordsLaws.{part_whole, rest_taken, rest_words, record_copied}
use Rattle.merging.proofs.rows.copy_record.Goals as goal
use Rattle.merging.proofs.rows.copy_record.Goals.{After-record_part-part}

-- the size of the record, in whole units
sized : (c : After-record_part-part)
    → let a = c.args in length c.record_part-part.result.now ≡ size_of kind1 (length_at a.image.now a.from)
sized c = part_whole kind1 _ _ c.requires.0 (one_kind _) _ c.record_part-part.ensures

pub copy_words-requires : goal.copy_words-requires
copy_words-requires c =
    let s = sized (goal.at.copy_words-requires c).After-record_part-part in
    rw (rest_taken c.record_part-part.result.now) (
      rest_words kind1 kind1_fits c.record_part-part.result.now _ s,
      omega (arith, s, length-drop 8 c.record_part-part.result.now, c.put_le-2.auto.s, c.put_le.auto.s, c.requires.1),
    )

pub returns : goal.returns
returns c =
    record_copied kind1 c.args.image.now c.args.from c.requires.0 (one_kind _) c.record_part-part.result.now c.record_part-part.ensures
    c.args.out.now c.put_le.new.s c.put_le-2.new.s c.copy_words.new.s c.args.at c.args.end
    (c.args.at + length c.record_part-part.result.now) c.next_index.result c.label_at.result refl
    c.next_index.ensures c.label_at.ensures.0 c.put_le.ensures c.put_le-2.ensures
    (c.copy_words.ensures ∙ ap (sets c.put_le-2.new.s (c.args.at + 8)) (rest_taken c.record_part-part.result.now))

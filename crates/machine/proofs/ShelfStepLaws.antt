-- The calls on the image: from a shelf half with F written out over B, each does as the machine, and the half after it is good. Assumes nothing.
use mathlib.Core.Path.{◌≡◌, refl, sym, ap, ap₂, ◌∙◌, subst}
use mathlib.Core.Bool.{Bool, true, false, not}
use mathlib.Core.List.{List, [], ◌∷◌, ◌++◌}
use mathlib.Core.Option.{Option, some, none}
use Prim.Native.Nat.{ℕ, ◌+◌, ◌/◌}
use native.Mathlib.Omega.{arith}
use lib.ListN.{length}
use Rattle.words.specs.Strip as strip
use Rattle.words.specs.Strip.{cell, strip_of, or_else}
use Rattle.words.specs.Refusals.{Line, judge, unless, Told, value, refused, found}
use Rattle.words.specs.Handles.{untaken, strip_lines}
use Rattle.words.specs.Calls.{value_line, below_line, within_line, absent_line}
use Rattle.words.proofs.CheckLaws.{judge_append, passes, absent_found}
use Rattle.counters.specs.Record.{StripRecord}
use Rattle.image.specs.Layout.{unit_bytes, size_of}
use Rattle.image.specs.Chain.{kind_of, chain_of, chain_end}
use Rattle.image.specs.Shelf.{Labelled, written, row_of}
use Rattle.image.specs.Calls.{is_some, records_of, ImageOutcome, image_outcome, record_with, clear_table, freeze_table, frozen, freeze_outcome, place_lines, open_table, row_lines, inspect_lines, row_length, row_part}
use Rattle.image.specs.Rows.{row_bits}
use Rattle.image.proofs.RowLaws.{after_lines, table_refused}
use Rattle.image.proofs.ShelfLaws as W
use Rattle.image.proofs.InspectLaws.{written_inspected}
use Rattle.machine.specs.Machine.{StripState, ShelfState, ShelfCall, clear, freeze, inspect, row_rank, row_select, row_get, Step, accepted, refuses, tells, through, handle_in, known, bits_in, row, sound, shelf_kind, shelf_end, row_table, with_rows, shelf_move}
use Rattle.machine.specs.Unit.{afresh_strip, afresh_image, ShelfActed, by_image}
use Rattle.machine.proofs.StateLaws.{shelf_fits, shelf_named, StripGood, ShelfGood, words_are, strip_is, image_is, sound_is}
use Rattle.machine.proofs.StripStepLaws.{judged_as, told_judged, judged_good, tells_good}

module _ (b : ShelfState) (g : ShelfGood b) where
  abbrev im : List ℕ
  im = afresh_image b

  -- the image has the machine's kind
  pub kind_is : kind_of im ≡ shelf_kind
  kind_is = W.written_kind shelf_kind shelf_fits shelf_named b.rows b.base g.rows

  -- ---- the numbers that refusals are judged on
  -- the chain is sound
  pub chain_is : is_some (chain_of im) ≡ sound b
  chain_is = ap is_some (W.written_chain shelf_kind shelf_fits shelf_named b.rows b.base g.rows) ∙ sym (sound_is b g)

  -- a label has a record where it has a row
  known_is : (label : ℕ) → is_some (record_with im label) ≡ known b label
  known_is label = W.written_known shelf_kind shelf_fits shelf_named b.rows b.base g.rows label

  -- the last record ends where the next would start
  end_is : chain_end (kind_of im) im (records_of im) ≡ shelf_end b
  end_is =
      ap (chain_end (kind_of im) im) (W.written_records shelf_kind shelf_fits shelf_named b.rows b.base g.rows)
      ∙ W.written_end shelf_kind shelf_fits shelf_named b.rows b.base g.rows ∙ W.length_image shelf_kind shelf_fits b.rows

  -- ---- the readings of a row
  -- the opening's table of the machine is that of the call
  open_table_lem : (label : ℕ) → open_table im label ≡ row_lines (sound b) label (known b label)
  open_table_lem label = λ i. row_lines (chain_is i) label (known_is label i)

  -- an absent row is refused
  absent_refused : (label : ℕ) → row_of label b.rows ≡ none → judge (row_lines (sound b) label (known b label)) ≡ none → ⊥
  absent_refused label d p =
      let w = (passes (row_lines (sound b) label (known b label)) p).1.1.0 in
      let z : true ≡ false = sym (ap (λ (o : Option Labelled). not (is_some o)) d) ∙ w in
      let n : ◌≡◌ {A = ℕ} 0 1 = cc in
      omega arith

  -- a reading: of a row that is there, by its own lines; else what the opening refuses
  row_as : (label : ℕ) (lines : List ℕ → List Line) (late : List ℕ → Told) (o : Told)
      → ((r : Labelled) → row_of label b.rows ≡ some r → o ≡ unless (judge (lines r.bits)) refused (late r.bits))
      → ((n : ℕ) → judge (open_table im label) ≡ some n → o ≡ refused n)
      → tells im o ≡ through afresh_image (unless (judge (row_table b label (lines (row b label)))) (refuses b) (tells b (late (row b label))))
  row_as label lines late o there absent = go (row_of label b.rows) refl
    where
      by : Option ℕ → Step (List ℕ)
      by v = through afresh_image (unless v (refuses b) (tells b (late (row b label))))

      known_row : (r : Labelled) → row_of label b.rows ≡ some r → judge (row_lines (sound b) label (known b label)) ≡ none
      known_row r d = sym (ap judge (open_table_lem label)) ∙ (W.written_gives shelf_kind shelf_fits shelf_named b.rows b.base g.rows label r d).opens

      missing : row_of label b.rows ≡ none → (v : Option ℕ) → judge (row_lines (sound b) label (known b label)) ≡ v
          → tells im o ≡ by (judge (row_table b label (lines (row b label))))
      missing d none p = absurd (absent_refused label d p)
      missing d (some n) p =
          ap (tells im) (absent n (ap judge (open_table_lem label) ∙ p))
          ∙ ap by
          (sym (judge_append (row_lines (sound b) label (known b label)) (lines (row b label)) ∙ ap (λ (v : Option ℕ). or_else v (judge (lines (row b label)))) p))

      go : (r : Option Labelled) → row_of label b.rows ≡ r → tells im o ≡ by (judge (row_table b label (lines (row b label))))
      go (some r) d =
          let e : r.bits ≡ row b label = sym (ap bits_in d) in
          ap (tells im) (there r d ∙ ap (λ (t : List ℕ). unless (judge (lines t)) refused (late t)) e)
          ∙ told_judged afresh_image b (judge (lines (row b label))) (late (row b label))
          ∙ ap by (sym (after_lines (row_lines (sound b) label (known b label)) (lines (row b label)) (known_row r d)))
      go none d = missing d (judge (row_lines (sound b) label (known b label))) refl

module _ (a : StripState) (h : StripGood a) (b : ShelfState) (g : ShelfGood b) where
  abbrev r : StripRecord
  r = afresh_strip a

  -- ---- clear
  pub clear_step : (y : Step (List ℕ)) → ShelfActed clear r (afresh_image b) y → y ≡ through afresh_image (shelf_move a b clear)
  clear_step y e =
      let refuse : ℕ → ImageOutcome = (λ n. image_outcome (refused n) (afresh_image b)) in
      e ∙ ap₂ (λ (n : ℕ) (s : List ℕ). by_image (unless (judge (clear_table n)) refuse (image_outcome (value unit_bytes) s)))
      (image_is b g) (W.written_none shelf_kind shelf_fits (afresh_image b))
      ∙ judged_as by_image afresh_image b refuse (image_outcome (value unit_bytes) (written shelf_kind [] (afresh_image b))) _ (judge (clear_table b.bytes))
      (λ n. refl) refl

  pub clear_good : ShelfGood (shelf_move a b clear).next
  clear_good =
      judged_good ShelfGood b (judge (clear_table b.bytes)) _ g (λ p.
      record { rows = W.good_cleared shelf_kind shelf_fits b.rows b.base g.rows; size = image_is b g })

  -- ---- freeze
  -- the table of the machine
  abbrev freeze_lines : ℕ → List Line
  freeze_lines label =
      strip_lines (handle_in a) a.words untaken ++ place_lines (sound b) label (known b label) b.bytes (shelf_end b + size_of shelf_kind (length a.strip))

  -- is that of the call
  freeze_table_lem : (label : ℕ) → freeze_table r.handle (length r.words) (afresh_image b) label ≡ freeze_lines label
  freeze_table_lem label = λ i.
      strip_lines (handle_in a) (words_are a h i) untaken
      ++ place_lines (chain_is b g i) label (known_is b g label i) (image_is b g i) (end_is b g i + size_of (kind_is b g i) (length a.strip))

  -- F with S appended
  abbrev more : ℕ → List ℕ → List Labelled
  more label t = b.rows ++ (record { label = label; bits = t } ∷ [])

  -- where it passes
  frozen_as : (label : ℕ) → judge (freeze_lines label) ≡ none
      → W.Good shelf_kind (more label a.strip) b.base
      × (freeze_outcome r.handle r.words (afresh_image b) label
      ≡ image_outcome (value (shelf_end b / unit_bytes)) (written shelf_kind (more label a.strip) b.base))
  frozen_as label p =
      let f = W.freeze_written shelf_kind shelf_fits shelf_named r.handle r.words b.rows b.base label g.rows (ap judge (freeze_table_lem label) ∙ p)
      in (
        subst (λ (t : List ℕ). W.Good shelf_kind (more label t) b.base) (strip_is a h) f.0,
        f.1 ∙ ap₂ (λ (n : ℕ) (t : List ℕ). image_outcome (value (n / unit_bytes)) (written shelf_kind (more label t) b.base))
            (W.length_image shelf_kind shelf_fits b.rows) (strip_is a h),
      )

  pub freeze_step : (label : ℕ) (y : Step (List ℕ)) → ShelfActed (freeze label) r (afresh_image b) y → y ≡ through afresh_image (shelf_move a b (freeze label))
  freeze_step label y e = e ∙ go (judge (freeze_lines label)) refl
    where
      go : (o : Option ℕ) → judge (freeze_lines label) ≡ o
          → by_image (freeze_outcome r.handle r.words (afresh_image b) label)
          ≡ through afresh_image (unless o (refuses b) (accepted (with_rows b (more label a.strip) b.base) (shelf_end b / unit_bytes) 0))
      go none p = ap by_image (frozen_as label p).1
      go (some n) p =
          ap (λ (o : Option ℕ).
          by_image (unless o (λ k. image_outcome (refused k) (afresh_image b))
          (image_outcome (value (chain_end (kind_of (afresh_image b)) (afresh_image b) (records_of (afresh_image b)) / unit_bytes))
          (frozen (afresh_image b) label (strip_of r.words (length a.strip))))))
          (ap judge (freeze_table_lem label) ∙ p)

  pub freeze_good : (label : ℕ) → ShelfGood (shelf_move a b (freeze label)).next
  freeze_good label =
      judged_good ShelfGood b (judge (freeze_lines label)) _ g (λ p. record { rows = (frozen_as label p).0; size = g.size })

  -- ---- inspect
  pub inspect_step : (y : Step (List ℕ)) → ShelfActed inspect r (afresh_image b) y → y ≡ through afresh_image (shelf_move a b inspect)
  inspect_step y e =
      e ∙ ap (tells (afresh_image b)) (written_inspected shelf_kind shelf_fits shelf_named b.rows b.base g.rows)
      ∙ ap (λ (t : Bool). through afresh_image (unless (judge (inspect_lines t true)) (refuses b) (accepted b (length b.rows) 0))) (sym (sound_is b g))

  -- ---- row count
  pub row_rank_step : (label v i : ℕ) (y : Step (List ℕ)) → ShelfActed (row_rank label v i) r (afresh_image b) y
      → y ≡ through afresh_image (shelf_move a b (row_rank label v i))
  row_rank_step label v i y e =
      e.same ∙ row_as b g label (λ t. value_line v ∷ within_line (length t) i ∷ []) (λ t. value (strip.rank t v i)) e.outcome
      (λ q d. (W.written_gives shelf_kind shelf_fits shelf_named b.rows b.base g.rows label q d).count v i e.outcome e.holds)
      (λ n p. e.holds.early n (table_refused (afresh_image b) label n (value_line v ∷ within_line (row_length (afresh_image b) label) i ∷ []) p))

  -- ---- row find
  pub row_select_step : (label v k : ℕ) (y : Step (List ℕ)) → ShelfActed (row_select label v k) r (afresh_image b) y
      → y ≡ through afresh_image (shelf_move a b (row_select label v k))
  row_select_step label v k y e =
      e.same ∙ row_as b g label (λ t. value_line v ∷ absent_line (length t) k ∷ []) (λ t. found (strip.select t v k)) e.outcome
      (λ q d. (W.written_gives shelf_kind shelf_fits shelf_named b.rows b.base g.rows label q d).find v k e.outcome e.holds
      ∙ sym (absent_found (value_line v ∷ []) q.bits v k))
      (λ n p. e.holds.early n (table_refused (afresh_image b) label n (value_line v ∷ absent_line (row_length (afresh_image b) label) k ∷ []) p))

  -- ---- row look
  pub row_get_step : (label i : ℕ) (y : Step (List ℕ)) → ShelfActed (row_get label i) r (afresh_image b) y
      → y ≡ through afresh_image (shelf_move a b (row_get label i))
  row_get_step label i y e =
      e ∙ row_as b g label (λ t. below_line (length t) i ∷ []) (λ t. value (cell t i)) _
      (λ q d. (W.written_gives shelf_kind shelf_fits shelf_named b.rows b.base g.rows label q d).look i)
      (λ n p.
      ap (λ (v : Option ℕ). unless v refused
      (value (cell (row_bits (kind_of (afresh_image b)) (row_part (afresh_image b) label) (row_length (afresh_image b) label)) i)))
      (table_refused (afresh_image b) label n (below_line (row_length (afresh_image b) label) i ∷ []) p))

  -- ---- every call
  pub shelf_step : (k : ShelfCall) (y : Step (List ℕ)) → ShelfActed k r (afresh_image b) y → y ≡ through afresh_image (shelf_move a b k)
  shelf_step clear y e = clear_step y e
  shelf_step (freeze label) y e = freeze_step label y e
  shelf_step inspect y e = inspect_step y e
  shelf_step (row_rank label v i) y e = row_rank_step label v i y e
  shelf_step (row_select label v k) y e = row_select_step label v k y e
  shelf_step (row_get label i) y e = row_get_step label i y e

  -- a call that changes nothing
  reads_good : (o : Option ℕ) (t : Told) → ShelfGood (unless o (refuses b) (tells b t)).next
  reads_good o t = tells_good ShelfGood b o t g

  pub shelf_good_next : (k : ShelfCall) → ShelfGood (shelf_move a b k).next
  shelf_good_next clear = clear_good
  shelf_good_next (freeze label) = freeze_good label
  shelf_good_next inspect = reads_good (judge (inspect_lines (sound b) true)) (value (length b.rows))
  shelf_good_next (row_rank label v i) =
      reads_good (judge (row_table b label (value_line v ∷ within_line (length (row b label)) i ∷ []))) (value (strip.rank (row b label) v i))
  shelf_good_next (row_select label v k) =
      reads_good (judge (row_table b label (value_line v ∷ absent_line (length (row b label)) k ∷ []))) (found (strip.select (row b label) v k))
  shelf_good_next (row_get label i) =
      reads_good (judge (row_table b label (below_line (length (row b label)) i ∷ []))) (value (cell (row b label) i))

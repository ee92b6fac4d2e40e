-- The states that a machine reaches, and what the unit has of them. Assumes nothing.
use mathlib.Core.Path.{◌≡◌, refl, sym, ap, ◌∙◌}
use mathlib.Core.Bool.{Bool, true, ◌&&◌}
use mathlib.Core.List.{List, [], ◌++◌}
use mathlib.Core.Option.{Option, none}
use Prim.Native.Nat.{ℕ, ◌≤◌}
use lib.Dec.{eqb, leb}
use native.Mathlib.Omega.{arith}
use lib.ListN.{length, drop}
use borrow.Author.Tests.{eqb-true, eq-eqb, leb-true, le-leb}
use Rattle.words.specs.Bits.{same}
use Rattle.words.specs.Strip.{cell, strip_of, total_of}
use Rattle.words.specs.Refusals.{judge, unless, value, refused}
use Rattle.words.specs.Handles.{handle_of, allowed, good, strip_lines}
use Rattle.words.specs.declared.handle.Handle.{Handle}
use Rattle.words.proofs.BoolLaws.{and_intro, and_first, and_second, not_not}
use Rattle.words.proofs.SameLaws.{same_refl}
use Rattle.words.proofs.StripLaws.{total_le}
use Rattle.words.proofs.CheckLaws.{passes, Checked, checked}
use Rattle.counters.specs.Tree.{blocks_of, counter_count}
use Rattle.counters.specs.Record.{Fits, packed_words, built_counters}
use Rattle.counters.specs.Promises.{created, uncreated, outcome}
use Rattle.counters.specs.Calls.{checks, create_outcome, fitting}
use Rattle.counters.proofs.AfreshLaws.{words_length, counters_length, strip_packed, built_fits}
use Rattle.image.specs.Layout.{unit_bytes, most_bytes}
use Rattle.image.specs.Chain.{header_of, good_size}
use Rattle.image.specs.Shelf.{written}
use Rattle.image.specs.Calls.{clear_table, clear_outcome, image_outcome}
use Rattle.image.proofs.KindLaws.{KindFits, KindNamed, kind1_fits, kind1_named}
use Rattle.image.proofs.ShelfLaws as W
use Rattle.machine.specs.Machine.{StripState, ShelfState, State, handle_in, sound, shelf_kind}
use Rattle.machine.specs.Unit.{afresh_image}
use Rattle.machine.specs.Demand.{start}

-- ---- what holds of the image's kind
pub shelf_fits : KindFits shelf_kind
shelf_fits = kind1_fits

pub shelf_named : KindNamed shelf_kind
shelf_named = kind1_named

-- ---- what holds of every state after the opening
-- the checks pass on the strip half's own numbers, and S is of bits
pub record StripGood (a : StripState) : Type 0 where
  pub passes : judge (checks (handle_in a) a.words a.counters) ≡ none
  pub bits : (p : ℕ) → cell a.strip p ≤ 1

-- the rows of F are good and fit over B, which has the lent length
pub record ShelfGood (b : ShelfState) : Type 0 where
  pub rows : W.Good shelf_kind b.rows b.base
  pub size : length b.base ≡ b.bytes

pub record Good (s : State) : Type 0 where
  pub strip : StripGood s.strip
  pub shelf : ShelfGood s.shelf

-- the checks pass for every strip up to the capacity
pub passes_strip : (h : Handle) (s : List ℕ) (words counters : ℕ) → judge (checks h words counters) ≡ none → length s ≤ h.capacity
    → judge (checks (handle_of h.capacity s) words counters) ≡ none
passes_strip h s words counters p l =
    let counted : Bool = eqb counters (counter_count (blocks_of h.capacity)) in
    let w = passes (strip_lines h words counted) p in
    let a : allowed h.capacity ≡ true =
    and_first (allowed h.capacity) (leb h.length h.capacity && leb h.total h.length) (not_not (good h) w.0) in
    let g : good (handle_of h.capacity s) ≡ true =
    and_intro a (and_intro (le-leb (length s) h.capacity l) (le-leb (total_of s) (length s) (total_le s))) in
    simp (g, w.1.0, w.1.1.0)

-- ---- words and counters laid afresh from S
module _ (a : StripState) (g : StripGood a) where
  abbrev words : List ℕ
  words = packed_words a.capacity a.strip

  abbrev counters : List ℕ
  counters = built_counters a.capacity a.strip

  -- what the checks leave
  pub sized : Checked (handle_in a) a.words (eqb a.counters (counter_count (blocks_of a.capacity)))
  sized = checked (handle_in a) a.words (eqb a.counters (counter_count (blocks_of a.capacity))) g.passes

  -- they have the lent lengths
  pub words_are : length words ≡ a.words
  words_are = words_length a.capacity a.strip ∙ sym sized.count

  pub counters_are : length counters ≡ a.counters
  counters_are = counters_length a.capacity a.strip ∙ sym (eqb-true _ _ sized.counters)

  -- S is read back
  pub strip_is : strip_of words (length a.strip) ≡ a.strip
  strip_is = strip_packed a.capacity a.strip sized.step sized.long g.bits

  -- the record fits
  pub fits : Fits (handle_in a) words counters
  fits = built_fits a.capacity a.strip sized.step sized.long g.bits

  -- and passes the test of it
  pub fitting_is : fitting (handle_in a) words counters ≡ true
  unfolding fitting
  fitting_is =
      ap (λ (t : List ℕ).
      same words (packed_words a.capacity t) && (same counters (built_counters a.capacity t) && eqb (total_of a.strip) (total_of t))) strip_is
      ∙ and_intro (same_refl words) (and_intro (same_refl counters) (eq-eqb (total_of a.strip) (total_of a.strip) refl))

-- ---- F written out over B
module _ (b : ShelfState) (g : ShelfGood b) where
  -- the image has the lent length
  pub image_is : length (afresh_image b) ≡ b.bytes
  image_is = W.written_length shelf_kind shelf_fits shelf_named b.rows b.base g.rows ∙ g.size

  -- which is a good one
  pub sound_is : sound b ≡ true
  sound_is =
      and_intro (le-leb unit_bytes b.bytes (omega (arith, g.size, g.rows.least))) (le-leb b.bytes most_bytes (omega (arith, g.size, g.rows.most)))

-- ---- the opened machine
-- it is good where lay's table passes, and clear's
pub opened_good : (c : ℕ) (ws cs im : List ℕ) → judge (checks (handle_of c []) (length ws) (length cs)) ≡ none → judge (clear_table (length im)) ≡ none
    → Good (start c ws cs im)
opened_good c ws cs im laid cleared =
    let sized : good_size (length im) ≡ true = not_not (good_size (length im)) (passes (clear_table (length im)) cleared).0 in
    let least : unit_bytes ≤ length im = leb-true _ _ (and_first (leb unit_bytes (length im)) (leb (length im) most_bytes) sized) in
    let most : length im ≤ most_bytes = leb-true _ _ (and_second (leb unit_bytes (length im)) (leb (length im) most_bytes) sized) in
    record {
      strip = record { passes = laid; bits = (λ q. omega arith) };
      shelf = record { rows = W.good_none shelf_kind shelf_fits im least most; size = refl };
    }

-- an accepted lay leaves the words and counters of an empty strip
pub created_is : (c : ℕ) (ws cs : List ℕ) → judge (checks (handle_of c []) (length ws) (length cs)) ≡ none
    → create_outcome c ws cs ≡ outcome (created (handle_of c []) (counter_count (blocks_of c))) (packed_words c []) (built_counters c [])
created_is c ws cs laid =
    ap (λ (v : Option ℕ).
    unless v (λ n. outcome (uncreated n) ws cs) (outcome (created (handle_of c []) (counter_count (blocks_of c))) (packed_words c []) (built_counters c []))) laid

-- an accepted clear leaves no row, over the bytes lent
pub cleared_is : (im : List ℕ) → judge (clear_table (length im)) ≡ none → clear_outcome im ≡ image_outcome (value unit_bytes) (written shelf_kind [] im)
cleared_is im cleared =
    ap (λ (v : Option ℕ). unless v (λ n. image_outcome (refused n) im) (image_outcome (value unit_bytes) (header_of shelf_kind 0 ++ drop unit_bytes im))) cleared
    ∙ ap (image_outcome (value unit_bytes)) (W.written_none shelf_kind shelf_fits im)

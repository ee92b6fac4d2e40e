-- The proved table, by computation: P9 and P10 of every full strip, by the laws of a turn. Assumes nothing.
use mathlib.Core.Path.{◌≡◌, refl, sym, ap, subst, ◌∙◌}
use mathlib.Core.Bool.{true}
use mathlib.Core.List.{List, [], ◌++◌, append-nil}
use Prim.Native.Nat.{ℕ, ◌-◌, ◌≤◌, ◌<◌}
use native.Mathlib.Omega.{arith}
use lib.Dec.{lit<, lit≤}
use lib.ListN.{length, drop_of_length-le}
use Rattle.words.specs.Bits.{sum_to, digits, list_of, same}
use Rattle.words.specs.Strip as strip
use Rattle.words.specs.Handles.{allowed, words_of}
use Rattle.counters.specs.Tree.{blocks_of, nodes, height, child_bits, child_ones, summary, key, counter, total, counter_count, change_count, levels}
use Rattle.counters.specs.Record.{packed_words, built_counters}
use Rattle.image.specs.Bytes.{le}
use Rattle.image.specs.Kinds.{kind_among, is_kind}
use Rattle.image.specs.Layout.{entry_of, entries_from, record_of}
use Rattle.image.specs.Chain.{kind_of, sound_header, sound_record, among, chain_from, chain_of, place_of, chain_end, link_of}
use Rattle.image.specs.Calls.{all_right}
use Rattle.image.specs.Shelf.{records_from, image_of, sizes_of, row_of}
use Rattle.machine.specs.Machine.{ShelfState, freeze, accepted, refuses, with_rows, shelf_move, opened}
use Rattle.machine.specs.Unit.{afresh_image}
use Rattle.machine.specs.Examples.{holding, ByAdds, FullTurn, A, S, bare, frozen_over, bytes, ProvedTable}
use Rattle.machine.proofs.AcceptedLaws.{Sized, bits_of, adds_next, turn_answer, turn_number}

-- a strip of bits within an allowed capacity is reached, where m is the number of counters
reached : (c m : ℕ) (t : List ℕ) → allowed c ≡ true → m ≡ counter_count (blocks_of c) → ((p : ℕ) → strip.cell t p ≤ 1) → length t ≤ c
    → ByAdds (holding c m t)
reached c m t good count bits long lent =
    adds_next (holding c m []) (opened c (words_of c) m lent).shelf t (record { capacity = good; words = refl; counters = count }) bits (omega arith)

-- a turn where capacity c is full
full_turn : (c m i d : ℕ) → allowed c ≡ true → m ≡ counter_count (blocks_of c) → i < c → change_count (blocks_of c) i ≡ d → FullTurn c m i d
full_turn c m i d good count below number t long bits =
    let sized : Sized (holding c m t) = record { capacity = good; words = refl; counters = count } in (
      turn_answer (holding c m t) i (1 - strip.cell t i) d sized (omega arith) (omega arith) refl number,
      turn_number (holding c m t) i d sized (omega arith) (omega arith) (bits i) number,
    )

-- strip 01010 frozen over the bytes lent: its step reads their number alone
abbrev over : List ℕ → ℕ → ShelfState
over lent n = record { rows = []; base = lent; bytes = n }

row_step : (lent : List ℕ) → length lent ≡ 560 → shelf_move S (bare lent) (freeze 3) ≡ accepted (frozen_over lent) 1 0
unfolding sizes_of row_of sum_to
row_step lent e =
    subst (λ (n : ℕ). shelf_move S (over lent n) (freeze 3) ≡ accepted (with_rows (over lent n) (frozen_over lent).rows lent) 1 0) (sym e) refl

row_short : (lent : List ℕ) → length lent ≡ 559 → shelf_move S (bare lent) (freeze 3) ≡ refuses (bare lent) 13
unfolding sizes_of row_of sum_to
row_short lent e = subst (λ (n : ℕ). shelf_move S (over lent n) (freeze 3) ≡ refuses (over lent n) 13) (sym e) refl

-- and its record ends with them
row_bytes : (lent : List ℕ) → length lent ≡ 560 → afresh_image (frozen_over lent) ≡ bytes
unfolding image_of records_from record_of entries_from entry_of le sum_to digits list_of
row_bytes lent e = ap (λ (l : List ℕ). bytes ++ l) (drop_of_length-le lent {i = 560} (omega arith)) ∙ append-nil bytes

-- the table
pub proved_table : ProvedTable
unfolding sum_to nodes height total child_bits child_ones summary key counter change_count levels built_counters packed_words digits list_of same le
    entry_of entries_from record_of kind_among is_kind kind_of sound_header sound_record among chain_from chain_of place_of chain_end link_of all_right strip.least
proved_table =
    record {
      A-reached = reached 512 72 A.strip refl refl (bits_of A.strip refl) (lit≤ tt);
      P1 = ((refl, refl), (refl, refl));
      P2 = (refl, refl);
      P3 = ((refl, refl), (refl, refl));
      P4 = ((refl, refl), refl);
      P5 = ((refl, refl), refl);
      P6 = ((refl, refl), refl);
      P7 = refl;
      P8 = (refl, turn_number A 3 15 (record { capacity = refl; words = refl; counters = refl }) (lit≤ tt) (lit< tt) (lit≤ tt) refl);
      P9 = full_turn 32768 72 32767 1 refl refl (lit< tt) refl;
      P10 = full_turn 33280 216 32768 29 refl refl (lit< tt) refl;
      P11 = ((refl, refl), (refl, refl), (refl, refl), (refl, refl), (refl, refl));
      S-reached = reached 512 72 S.strip refl refl (bits_of S.strip refl) (lit≤ tt);
      P12 = (λ lent e. (row_step lent e, row_bytes lent e));
      P12-short = row_short;
      P12-call = (refl, refl);
      P12-chain = refl;
      P12-inspect = (refl, refl, refl);
    }

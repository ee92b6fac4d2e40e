-- The part of a row: its bits, what a right row's part holds, its index, and what the reading calls give. Assumes nothing.
use mathlib.Core.Path.{◌≡◌, sym, ap, ap₂, ◌∙◌, subst}
use mathlib.Core.Bool.{true}
use mathlib.Core.Logic.{◌⊎◌, inl, inr}
use mathlib.Core.List.{List}
use mathlib.Core.Option.{some, none}
use Prim.Native.Nat.{ℕ, ◌+◌, ◌-◌, ◌*◌, ◌/◌, ◌%◌, ◌≤◌, ◌<◌}
use native.Mathlib.Nat.{min-eq_left, le_refl, mod-lt, div-add-mod, div-lt_iff_lt-mul, mul_comm}
use native.Mathlib.Omega.{arith}
use lib.Dec.{leb, eqb}
use borrow.Author.Tests.{leb-true, eqb-true}
use lib.ListN.{length, get_or}
use Rattle.words.specs.Bits.{bit, bit_at, ones}
use Rattle.words.specs.Strip.{cell, holds, rank, rank_of, of_value, select, select_of}
use Rattle.words.specs.Words.{place_in}
use Rattle.words.specs.Refusals.{Line, judge, Told, value, refused, found}
use Rattle.words.proofs.BoolLaws.{and_first, and_second}
use Rattle.words.proofs.Sums.{lt_or, sum_zero, sum_split, ones_le, sum_mono, part_ones, length_list_of, get_or_list_of}
use Rattle.words.proofs.BitLaws.{bit_le}
use Rattle.words.proofs.SearchLaws.{select_exists, select_place, select_below, select_longer, rank_part, part_select, value_rank, value_found, value_absent, value_le}
use Rattle.words.proofs.StripLaws.{total_ones}
use Rattle.counters.specs.Promises.{Promise, AtMost, Below}
use Rattle.counters.proofs.PromiseLaws.{promise_passed}
use Rattle.image.specs.Bytes.{num, bit_from}
use Rattle.image.specs.Kinds.{Kind}
use Rattle.image.specs.Layout.{head_bytes, most_row, superblock_blocks, superblocks_of, entries_bytes, pad_bytes, bits_start, size_of, entry_of, record_of}
use Rattle.image.specs.Chain.{length_at, ones_at, good_fields}
use Rattle.image.specs.Rows.{row_bits, Right}
use Rattle.image.specs.Calls.{good_part}
use Rattle.image.specs.Reading.{entry_number, ones_told, Halved, PadZero}
use Rattle.image.proofs.KindLaws.{KindFits, EntryTells, blocks_all, superblocks_cover, superblock_begins}
use Rattle.image.proofs.ChainLaws.{fields_facts}
use Rattle.image.proofs.WriteLaws.{list_of_past, list_of_all, record_total, record_pad, record_entry, record_bit}
use Rattle.image.proofs.NumberLaws.{bytes_bit}

-- ---- the bits of a row
module _ (K : Kind) (part : List ℕ) (n : ℕ) where
  -- as many as the row is long
  pub row_length_lem : length (row_bits K part n) ≡ n
  row_length_lem = length_list_of (bit_from part (bits_start K n)) n

  -- those of the part
  pub row_cell : (p : ℕ) → p < n → cell (row_bits K part n) p ≡ bit_from part (bits_start K n) p
  row_cell p l = get_or_list_of (bit_from part (bits_start K n)) n p l

  -- zero past the length
  pub row_past : (p : ℕ) → n ≤ p → cell (row_bits K part n) p ≡ 0
  row_past p l = list_of_past (bit_from part (bits_start K n)) n p l

  -- each is 0 or 1
  pub row_le : (p : ℕ) → cell (row_bits K part n) p ≤ 1
  row_le = list_of_all (λ x. x ≤ 1) (bit_from part (bits_start K n)) n (λ p. bit_le (get_or part (bits_start K n + p / 8) 0) (p % 8)) (omega arith)

-- ---- a row by its index
-- the bits of a part from byte `start` on are f, of which n bits lie in `blocks` blocks of 512 bits; `told m` is the ones before block m
pub record Indexed (part : List ℕ) (start blocks n : ℕ) (f told : ℕ → ℕ) : Type 0 where
  pub cover : n ≤ 512 * blocks
  pub small : (p : ℕ) → f p ≤ 1
  pub before : (m : ℕ) → m < blocks → told m ≡ ones f (512 * m)
  pub bits : (p : ℕ) → p < 512 * blocks → bit_from part start p ≡ f p

-- of a right row: the number of its ones, its entries, its bits, and its index
module _ (K : Kind) (part : List ℕ) (n : ℕ) (short : n ≤ most_row) (right : Right K part n) where
  -- its bits
  abbrev t : List ℕ
  t = row_bits K part n

  long : length t ≡ n
  long = row_length_lem K part n

  -- a number in it
  right_num : (at k : ℕ) → num part at k ≡ num (record_of K (num part 0 4) (num part 4 4) t) at k
  right_num at k = ap (λ (l : List ℕ). num l at k) right

  pub right_total : ones_at part 0 ≡ ones (cell t) n
  right_total =
      right_num 12 4
      ∙ record_total K (num part 0 4) (num part 4 4) t (row_le K part n) (omega (arith, long))
      ∙ total_ones t (row_le K part n)
      ∙ ap (ones (cell t)) long

  -- the bytes that pad its entries
  pub right_pad : PadZero K part n
  right_pad i h =
      ap₂ (λ (x : List ℕ) (m : ℕ). get_or x (head_bytes + entries_bytes K m + i) 0) right (sym long)
      ∙ record_pad K (num part 0 4) (num part 4 4) t i (omega (arith, ap (pad_bytes K) long))

  module _ (F : KindFits K) where
    -- the bits, padding too
    pub right_bits : (p : ℕ) → p < K.superblock_bits * superblocks_of K n → bit_from part (bits_start K n) p ≡ cell t p
    right_bits p l =
        ap₂ (λ (x : List ℕ) (m : ℕ). bit_from x (bits_start K m) p) right (sym long)
        ∙ record_bit K (num part 0 4) (num part 4 4) t (row_le K part n) F p (omega (arith, ap (λ (m : ℕ). K.superblock_bits * superblocks_of K m) long))

    module _ {told : ℕ → ℕ → ℕ} (T : EntryTells K told) where
      -- entry e
      pub right_entry : (e : ℕ) → e < superblocks_of K n → entry_number K part e ≡ entry_of K (cell t) e
      right_entry e l =
          right_num (head_bytes + K.entry_bytes * e) K.entry_bytes
          ∙ record_entry K (num part 0 4) (num part 4 4) t (row_le K part n) F T e (omega (arith, long)) (omega (arith, ap (superblocks_of K) long))

      -- the ones before block m, by the entry of its superblock
      right_before : (m : ℕ) → m < superblock_blocks K * superblocks_of K n → ones_told K told part m ≡ ones (cell t) (512 * m)
      unfolding entry_of
      right_before m l =
          let c : ℕ = superblock_blocks K in
          let e : ℕ = m / c in
          let b : ℕ = K.superblock_bits * e in
          let inside : e < superblocks_of K n = (div-lt_iff_lt-mul F.least).1 (subst (λ (x : ℕ). m < x) (mul_comm c (superblocks_of K n)) l) in
          let place : b + 512 * (m % c) ≡ 512 * m = omega (arith, blocks_all K F e, div-add-mod m c) in
          ap (λ (v : ℕ). told v (m % c)) (right_entry e inside)
          ∙ T.tells (λ p. cell t (b + p)) (ones (cell t) b) (m % c) (λ p. row_le K part n (b + p))
          (omega (arith, ones_le (cell t) b (row_le K part n), superblock_begins K F n e inside)) (mod-lt m F.least)
          ∙ sym (sum_split (cell t) b (512 * (m % c)))
          ∙ ap (ones (cell t)) place

      pub right_indexed : Indexed part (bits_start K n) (superblock_blocks K * superblocks_of K n) n (cell t) (ones_told K told part)
      right_indexed =
          let whole : 512 * (superblock_blocks K * superblocks_of K n) ≡ K.superblock_bits * superblocks_of K n = blocks_all K F (superblocks_of K n) in
          record {
            cover = omega (arith, superblocks_cover K F n, whole);
            small = row_le K part n;
            before = right_before;
            bits = λ p l. right_bits p (omega (arith, whole));
          }

-- the bits from k bytes past `start` on are those from bit 8 k on
pub bits_from : (s : List ℕ) (start at k m p : ℕ) → at ≡ start + k → 8 * k ≡ m → bit_from s at p ≡ bit_from s start (m + p)
bits_from s start at k m p h e =
    let i : at + p / 8 ≡ start + (m + p) / 8 = omega arith in
    let j : p % 8 ≡ (m + p) % 8 = omega arith in
    ap₂ (λ (x y : ℕ). bit (get_or s x 0) y) i j

-- words that are the numbers of eight bytes each have the bits of these bytes
pub words_bit : (s block : List ℕ) (at : ℕ) → ((i : ℕ) → get_or s i 0 < 256) → ((d : ℕ) → d < 8 → get_or block d 0 ≡ num s (at + 8 * d) 8)
    → (p : ℕ) → p < 512 → bit_at block p ≡ bit_from s at p
words_bit s block at b h p l =
    let i : at + 8 * (p / 64) + p % 64 / 8 ≡ at + p / 8 = omega arith in
    let j : p % 64 % 8 ≡ p % 8 = omega arith in
    ap (λ (x : ℕ). bit x (p % 64)) (h (p / 64) (omega arith))
    ∙ bytes_bit (λ k. get_or s (at + 8 * (p / 64) + k) 0) 8 (p % 64) (λ k q. b (at + 8 * (p / 64) + k)) (omega arith)
    ∙ ap₂ (λ (x y : ℕ). bit (get_or s x 0) y) i j

-- the bits of a row, zero past its length
abbrev pub bits_of : Kind → List ℕ → ℕ → ℕ → ℕ
bits_of K part n = cell (row_bits K part n)

-- ---- block m of a row by its index, whatever its layout
module _ (part : List ℕ) (start blocks n : ℕ) (f told : ℕ → ℕ) (x : Indexed part start blocks n f told) (m : ℕ) where
  -- the number of v before it, as the index tells
  told_value : (v i : ℕ) → v ≤ 1 → i < blocks → of_value v (512 * i) (told i) ≡ rank_of f v (512 * i)
  told_value v i h l = ap (of_value v (512 * i)) (x.before i l) ∙ value_rank f v (512 * i) x.small h

  -- the search comes to a block with at most k of v before it
  pub told_le : (v k count : ℕ) → v ≤ 1 → m < blocks → Halved (λ i. of_value v (512 * i) (told i)) count k m (m + 1) → of_value v (512 * m) (told m) ≤ k
  told_le v k count small inside h = go h.low
    where
      go : (m ≡ 0) ⊎ (of_value v (512 * m) (told m) ≤ k) → of_value v (512 * m) (told m) ≤ k
      go (inl e) = omega (arith, told_value v m small inside, ap (λ (y : ℕ). rank_of f v (512 * y)) e, sum_zero (holds f v))
      go (inr l) = l

  -- and more than k before its end, where the row has more than k of v
  pub told_above : (v k : ℕ) → v ≤ 1 → m < (n + 511) / 512 → Halved (λ i. of_value v (512 * i) (told i)) ((n + 511) / 512) k m (m + 1) → k < rank_of f v n
      → k < rank_of f v (512 * m + 512)
  told_above v k small inside h few = go (lt_or (m + 1) ((n + 511) / 512)) h.high
    where
      e : 512 * (m + 1) ≡ 512 * m + 512
      e = omega arith

      go : (m + 1 < (n + 511) / 512) ⊎ ((n + 511) / 512 ≤ m + 1) → ((n + 511) / 512 ≤ m + 1) ⊎ (k < of_value v (512 * (m + 1)) (told (m + 1)))
          → k < rank_of f v (512 * m + 512)
      go (inr l) q = let le : n ≤ 512 * m + 512 = omega arith in omega (arith, sum_mono (holds f v) le)
      go (inl l) (inl q) = absurd (omega arith)
      go (inl l) (inr q) = omega (arith, told_value v (m + 1) small (omega (arith, x.cover)), ap (rank_of f v) e)

  -- its bits as eight words
  module _ (block : List ℕ) (at : ℕ) (inside : m < blocks) (there : at ≡ start + 64 * m) (bits : (p : ℕ) → p < 512 → bit_at block p ≡ bit_from part at p) where
    -- they are the row's
    words_cell : (p : ℕ) → p < 512 → bit_at block p ≡ f (512 * m + p)
    words_cell p l = bits p l ∙ bits_from part start at (64 * m) (512 * m) p there (omega arith) ∙ x.bits (512 * m + p) (omega arith)

    -- the ones before a position in it
    pub ones_there : (k : ℕ) → k ≤ 512 → told m + ones (bit_at block) k ≡ ones f (512 * m + k)
    ones_there k l =
        ap (λ (y : ℕ). y + ones (bit_at block) k) (x.before m inside)
        ∙ sym (part_ones f (bit_at block) (512 * m) 512 k words_cell l)

    -- the position of the k-th v
    pub place_there : (v k p : ℕ) → v ≤ 1 → of_value v (512 * m) (told m) ≤ k → k < rank_of f v (512 * m + 512) → k < rank_of f v n
        → p ≡ place_in 512 (select_of (bit_at block) 512 v (k - of_value v (512 * m) (told m)))
        → (p < 512) × (512 * m + p < n) × (512 * m + p ≡ place_in n (select_of f n v k))
    place_there v k p small low high few e =
        let top : ℕ = 512 * blocks in
        let said : of_value v (512 * m) (told m) ≡ rank_of f v (512 * m) = told_value v m small inside in
        let more : rank_of f v (512 * m + 512) ≡ rank_of f v (512 * m) + rank_of (bit_at block) v 512 =
        rank_part f (bit_at block) (512 * m) 512 v 512 words_cell (le_refl 512) in
        let there = part_select f (bit_at block) (512 * m) 512 top v k (k - of_value v (512 * m) (told m)) p words_cell
        (omega arith) (omega arith) (omega arith) e in
        let w = select_exists f n v k few in
        let q : 512 * m + p ≡ w.0 = there.1 ∙ ap (place_in top) (select_longer f n top v k x.cover few ∙ w.1) in
        (there.0, omega (arith, (select_place f n v k w.0 w.1).below), q ∙ sym (ap (place_in n) w.1))

-- ---- what the check of a part leaves
-- the length held is the record's
pub good_length : (K : Kind) (part : List ℕ) (n : ℕ) → good_part K part n ≡ true → n ≡ length_at part 0
unfolding good_part
good_length K part n h =
    eqb-true n (length_at part 0)
    (and_second (eqb (length part) (size_of K (length_at part 0))) _ (and_second (good_fields part 0) _ (and_second (leb head_bytes (length part)) _ h)))

-- and the part has the size of its record
pub good_part_lem : (K : Kind) (part : List ℕ) (n : ℕ) → good_part K part n ≡ true → (head_bytes ≤ length part) × (length part ≡ size_of K n) × (n ≤ most_row)
unfolding good_part
good_part_lem K part n h =
    let e = good_length K part n h in
    let rest = and_second (leb head_bytes (length part)) _ h in
    let sized = and_second (good_fields part 0) _ rest in (
      leb-true head_bytes (length part) (and_first (leb head_bytes (length part)) _ h),
      eqb-true (length part) (size_of K (length_at part 0)) (and_first (eqb (length part) (size_of K (length_at part 0))) _ sized) ∙ ap (size_of K) (sym e),
      omega (arith, (fields_facts part 0 (and_first (good_fields part 0) _ rest)).2),
    )

-- what a part that passed its check is known for
pub record PartGood (K : Kind) (part : List ℕ) (n : ℕ) : Type 0 where
  pub good : good_part K part n ≡ true
  pub room : head_bytes ≤ length part
  pub size : length part ≡ size_of K n
  pub short : n ≤ most_row

pub part_is : (K : Kind) (part : List ℕ) (n : ℕ) → good_part K part n ≡ true → PartGood K part n
part_is K part n g = let k = good_part_lem K part n g in record { good = g; room = k.0; size = k.1; short = k.2 }

-- ---- count, where a call's table passes: x is what the entry and the bits say
module _ (K : Kind) (t : List Line) (part : List ℕ) (n v i x : ℕ) (pass : judge t ≡ none) (small : v ≤ 1) (within : i ≤ n)
    (counted : Right K part n → x ≡ ones (bits_of K part n) i) where
  -- count(v, i) of the row's bits
  row_rank_lem : rank (row_bits K part n) v i ≡ rank_of (bits_of K part n) v i
  row_rank_lem = ap (rank_of (bits_of K part n) v) (min-eq_left (subst (λ (m : ℕ). i ≤ m) (sym (row_length_lem K part n)) within))

  -- at most i ones before position i: the number of v
  pub rank_done : (r : ℕ) → x ≤ i → r ≡ of_value v i x
      → Promise Told (judge t) refused (value (rank (row_bits K part n) v i)) (Right K part n) (AtMost 15 i) (value r)
  rank_done r le e =
      promise_passed t refused (value (rank (row_bits K part n) v i)) (Right K part n) (AtMost 15 i) (value r) pass
      (λ right. ap value (e ∙ ap (of_value v i) (counted right) ∙ value_rank (bits_of K part n) v i (row_le K part n) small ∙ sym row_rank_lem))
      (AtMost.is r (omega (arith, e, value_le v i x le)))

  -- more than i: no right row
  pub rank_wrong : i < x → Promise Told (judge t) refused (value (rank (row_bits K part n) v i)) (Right K part n) (AtMost 15 i) (refused 15)
  rank_wrong l =
      promise_passed t refused (value (rank (row_bits K part n) v i)) (Right K part n) (AtMost 15 i) (refused 15) pass
      (λ right. absurd (omega (arith, counted right, ones_le (bits_of K part n) i (row_le K part n))))
      AtMost.unfit

-- ---- find, where a call's table passes: x is the number of ones that the record says
module _ (K : Kind) (t : List Line) (part : List ℕ) (n v k x : ℕ) (pass : judge t ≡ none) (small : v ≤ 1) (short : n ≤ most_row) (said : x ≡ ones_at part 0) where
  -- of a right row, that of its bits
  total_is : Right K part n → x ≡ ones (bits_of K part n) n
  total_is right = said ∙ right_total K part n short right

  -- find(v, k) of the row's bits
  row_select_lem : select (row_bits K part n) v k ≡ select_of (bits_of K part n) n v k
  row_select_lem = ap (λ (m : ℕ). select_of (bits_of K part n) m v k) (row_length_lem K part n)

  -- more ones than bits: no right row
  pub select_over : n < x → Promise Told (judge t) refused (found (select (row_bits K part n) v k)) (Right K part n) (Below 15 n) (refused 15)
  select_over l =
      promise_passed t refused (found (select (row_bits K part n) v k)) (Right K part n) (Below 15 n) (refused 15) pass
      (λ right. absurd (omega (arith, total_is right, ones_le (bits_of K part n) n (row_le K part n))))
      Below.unfit

  -- k not below the number of v: no such stroke
  pub select_absent : of_value v n x ≤ k → Promise Told (judge t) refused (found (select (row_bits K part n) v k)) (Right K part n) (Below 15 n) (refused 6)
  select_absent l =
      promise_passed t refused (found (select (row_bits K part n) v k)) (Right K part n) (Below 15 n) (refused 6) pass
      (λ right. sym (ap found (row_select_lem ∙ value_absent (bits_of K part n) n v k x (row_le K part n) small (total_is right) l)))
      Below.absent

  -- the number of v that the record says is above k: a right row has the k-th v
  module _ (more : k < of_value v n x) where
    there : Right K part n → (p : ℕ) × (select_of (bits_of K part n) n v k ≡ some p) × (p < n)
    there right = value_found (bits_of K part n) n v k x (row_le K part n) small (total_is right) more

    few : Right K part n → k < rank_of (bits_of K part n) v n
    few right = let w = there right in select_below (bits_of K part n) n v k w.0 w.1

    -- the position that the entries lead to is the answer
    pub select_done : (p : ℕ) → p < n → (Right K part n → k < rank_of (bits_of K part n) v n → p ≡ place_in n (select_of (bits_of K part n) n v k))
        → Promise Told (judge t) refused (found (select (row_bits K part n) v k)) (Right K part n) (Below 15 n) (value p)
    select_done p l place =
        promise_passed t refused (found (select (row_bits K part n) v k)) (Right K part n) (Below 15 n) (value p) pass
        (λ right.
        let w = there right in
        ap value (place right (few right) ∙ ap (place_in n) w.1) ∙ sym (ap found (row_select_lem ∙ w.1)))
        (Below.is p l)

    -- none: no right row
    pub select_past : (Right K part n → rank_of (bits_of K part n) v n ≤ k)
        → Promise Told (judge t) refused (found (select (row_bits K part n) v k)) (Right K part n) (Below 15 n) (refused 15)
    select_past empty =
        promise_passed t refused (found (select (row_bits K part n) v k)) (Right K part n) (Below 15 n) (refused 15) pass
        (λ right. absurd (omega (arith, few right, empty right)))
        Below.unfit

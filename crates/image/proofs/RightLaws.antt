-- A right row, one by one: its ones, its entries with what pads them, and its padding; and the inspection of a row. Assumes nothing.
use mathlib.Core.Path.{◌≡◌, refl, sym, ap, ap₂, ◌∙◌, subst}
use mathlib.Core.Bool.{Bool, true, false, not, false≢true}
use mathlib.Core.Logic.{◌⊎◌, inl, inr, ⊎_elim}
use mathlib.Core.List.{List, ◌∷◌, ◌++◌, append_assoc}
use Prim.Native.Nat.{ℕ, zero, suc, ◌+◌, ◌-◌, ◌*◌, ◌/◌, ◌%◌, ◌^◌, ◌≤◌, ◌<◌}
use native.Mathlib.Nat.{le_refl, lt_of_lt_of_le, mul-zero, mul-suc, mul-le-mul_left}
use native.Mathlib.Omega.{arith}
use lib.Dec.{eqb}
use lib.Pow.{pow_mono, shr_lt}
use lib.ListN.{length, get_or, drop, length-drop}
use lib.Seq.{ext_get_or, get_or-drop, drop-cons}
use borrow.Author.Tests.{eqb-true, eqb-false, eq-eqb, not-true, not-false}
use Rattle.words.specs.Bits.{bit, bit_at, ones, same}
use Rattle.words.specs.Strip.{cell, rank}
use Rattle.words.proofs.Sums.{lt_or, sum_zero, sum_split, ones_le, sum_none, part_ones}
use Rattle.words.proofs.BitLaws.{zero_bit, bit_shr, bit_high}
use Rattle.words.proofs.ScanLaws.{some_one}
use Rattle.words.proofs.DigitLaws.{digits_ext}
use Rattle.image.specs.Bytes.{num, le, bit_from}
use Rattle.image.specs.Kinds.{Kind}
use Rattle.image.specs.Layout.{head_bytes, most_row, superblock_blocks, superblock_bytes, superblocks_of, entries_bytes, pad_bytes, bits_start, entry_of, entries_from, zeros, bytes_of, record_of}
use Rattle.image.specs.Chain.{length_at, ones_at}
use Rattle.image.specs.Rows.{row_bits, Right, right_part}
use Rattle.image.specs.Calls.{good_part}
use Rattle.image.specs.Writing.{BlockCounts, superblock_cells}
use Rattle.image.specs.Reading.{entry_number, PadZero, PaddingZero}
use Rattle.words.proofs.SameLaws.{same_eq, same_refl}
use Rattle.words.proofs.StripLaws.{total_ones}
use Rattle.image.proofs.KindLaws.{KindFits, EntryTells, times_more, bytes_all, superblocks_cover, pad_ends}
use Rattle.image.proofs.ChainLaws.{decides}
use Rattle.image.proofs.CountLaws.{counts_ext, counts_all}
use Rattle.image.proofs.PutLaws.{drop_num}
use Rattle.image.proofs.WriteLaws.{length_bytes, bytes_at, byte_digits, ones_past, entry_placed}
use Rattle.image.proofs.PartLaws.{row_length_lem, row_cell, row_past, row_le, good_part_lem, good_length, right_total, right_entry, right_pad, right_bits, bits_from}

-- its number of ones, every entry, zeros that pad its entries, and zeros past its length
pub record RightFacts (K : Kind) (part : List ℕ) (n : ℕ) : Type 0 where
  pub total : ones_at part 0 ≡ rank (row_bits K part n) 1 (length (row_bits K part n))
  pub entries : (e : ℕ) → e < superblocks_of K n → entry_number K part e ≡ entry_of K (cell (row_bits K part n)) e
  pub pad : PadZero K part n
  pub padding : PaddingZero K part n

-- a right row's number of ones
pub right_ones : (K : Kind) (part : List ℕ) (n : ℕ) → n ≤ most_row → Right K part n → ones_at part 0 ≡ rank (row_bits K part n) 1 (length (row_bits K part n))
right_ones K part n short right =
    let t : List ℕ = row_bits K part n in
    right_total K part n short right ∙ ap (ones (cell t)) (sym (row_length_lem K part n)) ∙ sym (total_ones t (row_le K part n))

-- it has them all
pub right_facts : (K : Kind) → KindFits K → {told : ℕ → ℕ → ℕ} → EntryTells K told → (part : List ℕ) (n : ℕ) → n ≤ most_row → Right K part n
    → RightFacts K part n
right_facts K F T part n short right =
    record {
      total = right_ones K part n short right;
      entries = right_entry K part n short right F T;
      pad = right_pad K part n short right;
      padding = λ p h l. right_bits K part n short right F p l ∙ row_past K part n p h;
    }

-- zeros past its length: its bits are those of the part to the end of its superblocks
padded_bits : (K : Kind) (part : List ℕ) (n : ℕ) → PaddingZero K part n → (p : ℕ) → p < K.superblock_bits * superblocks_of K n
    → bit_from part (bits_start K n) p ≡ cell (row_bits K part n) p
padded_bits K part n zeros p l =
    ⊎_elim (λ q. sym (row_cell K part n p q)) (λ q. zeros p q l ∙ sym (row_past K part n p q)) (lt_or p n)

-- ---- and they make it right
-- entries that are right, one after another
entries_drop : (K : Kind) (part : List ℕ) (f : ℕ → ℕ) (e k : ℕ) → ((i : ℕ) → get_or part i 0 < 256) → head_bytes + K.entry_bytes * (e + k) ≤ length part
    → ((i : ℕ) → i < e + k → entry_number K part i ≡ entry_of K f i)
    → drop (head_bytes + K.entry_bytes * e) part ≡ entries_from K f e k ++ drop (head_bytes + K.entry_bytes * (e + k)) part
unfolding entries_from
entries_drop K part f e zero small h is = let z : e ≡ e + 0 = omega arith in ap (λ (x : ℕ). drop (head_bytes + K.entry_bytes * x) part) z
entries_drop K part f e (suc k) small h is =
    let eb : ℕ = K.entry_bytes in
    let i : head_bytes + eb * e + eb ≡ head_bytes + eb * suc e = omega (arith, mul-suc eb e) in
    let j : suc e + k ≡ e + suc k = omega arith in
    let w : e + 1 ≤ e + suc k = omega arith in
    let own : List ℕ = le eb (entry_of K f e) in
    drop_num part (head_bytes + eb * e) eb (entry_of K f e) small (omega (arith, h, mul-le-mul_left eb w, times_more eb e)) (is e (omega arith))
    ∙ ap (λ (l : List ℕ). own ++ l)
    (ap (λ (x : ℕ). drop x part) i
    ∙ entries_drop K part f (suc e) k small (subst (λ (x : ℕ). head_bytes + eb * x ≤ length part) (sym j) h) (λ x l. is x (omega arith))
    ∙ ap (λ (x : ℕ). entries_from K f (suc e) k ++ drop (head_bytes + eb * x) part) j)
    ∙ sym (append_assoc own (entries_from K f (suc e) k) (drop (head_bytes + eb * (e + suc k)) part))

-- zeros
zeros_drop : (part : List ℕ) (a m : ℕ) → a + m ≤ length part → ((i : ℕ) → i < m → get_or part (a + i) 0 ≡ 0) → drop a part ≡ zeros m ++ drop (a + m) part
zeros_drop part a zero h is = let z : a ≡ a + 0 = omega arith in ap (λ (x : ℕ). drop x part) z
zeros_drop part a (suc m) h is =
    let i : suc a + m ≡ a + suc m = omega arith in
    let j : a ≡ a + 0 = omega arith in
    drop-cons part a 0 (omega arith)
    ∙ ap₂ (λ (x : ℕ) (l : List ℕ). x ∷ l) (ap (λ (x : ℕ). get_or part x 0) j ∙ is 0 (omega arith))
    (zeros_drop part (suc a) m (omega arith) (λ k l. let e : suc a + k ≡ a + suc k = omega arith in ap (λ (x : ℕ). get_or part x 0) e ∙ is (suc k) (omega arith))
    ∙ ap (λ (x : ℕ). zeros m ++ drop x part) i)

-- bytes whose bits are f
bytes_drop : (part : List ℕ) (start m : ℕ) (f : ℕ → ℕ) → ((i : ℕ) → get_or part i 0 < 256) → length part ≡ start + m
    → ((p : ℕ) → p < 8 * m → bit_from part start p ≡ f p) → drop start part ≡ bytes_of f m
bytes_drop part start m f small long is =
    ext_get_or 0 (drop start part) (bytes_of f m) (length-drop start part ∙ omega (arith, length_bytes f m))
    (λ i l.
    let k : i < m = omega (arith, length-drop start part) in
    let x : ℕ = get_or part (start + i) 0 in
    get_or-drop start part i 0
    ∙ sym (byte_digits x (small (start + i)))
    ∙ digits_ext 2 (bit x) (λ j. f (8 * i + j)) 8 (λ j q.
    let a : start + (8 * i + j) / 8 ≡ start + i = omega arith in
    let b : (8 * i + j) % 8 ≡ j = omega arith in
    sym (ap₂ (λ (y z : ℕ). bit (get_or part y 0) z) a b) ∙ is (8 * i + j) (omega arith))
    ∙ sym (bytes_at f m i k))

-- so a part that is one record of length n is right where its ones, entries, pad and padding are
pub facts_right : (K : Kind) → KindFits K → (part : List ℕ) (n : ℕ) → good_part K part n ≡ true → ((i : ℕ) → get_or part i 0 < 256) → RightFacts K part n
    → Right K part n
unfolding record_of good_part
facts_right K F part n good small f =
    let g = good_part_lem K part n good in
    let t : List ℕ = row_bits K part n in
    let long : length t ≡ n = row_length_lem K part n in
    let E : ℕ = superblocks_of K n in
    let sb : ℕ = superblock_bytes K in
    let z : 0 + E ≡ E = omega arith in
    let y : head_bytes ≡ head_bytes + K.entry_bytes * 0 = omega (arith, mul-zero K.entry_bytes) in
    let size : length_at part 0 ≡ length t = sym (good_length K part n good) ∙ sym long in
    let bits : drop (bits_start K n) part ≡ bytes_of (cell t) (sb * E) =
    bytes_drop part (bits_start K n) (sb * E) (cell t) small g.1 (λ p l. padded_bits K part n f.padding p (omega (arith, bytes_all K F E))) in
    let padded : drop (head_bytes + entries_bytes K n) part ≡ zeros (pad_bytes K n) ++ bytes_of (cell t) (sb * E) =
    zeros_drop part (head_bytes + entries_bytes K n) (pad_bytes K n) (omega (arith, g.1, pad_ends K n)) f.pad
    ∙ ap (λ (l : List ℕ). zeros (pad_bytes K n) ++ l) (ap (λ (x : ℕ). drop x part) (pad_ends K n) ∙ bits) in
    let entries : drop head_bytes part ≡ entries_from K (cell t) 0 E ++ (zeros (pad_bytes K n) ++ bytes_of (cell t) (sb * E)) =
    ap (λ (x : ℕ). drop x part) y
    ∙ entries_drop K part (cell t) 0 E small (subst (λ (x : ℕ). head_bytes + K.entry_bytes * x ≤ length part) (sym z) (omega (arith, g.1, pad_ends K n)))
    (λ i l. f.entries i (subst (λ (x : ℕ). i < x) z l))
    ∙ ap (λ (l : List ℕ). entries_from K (cell t) 0 E ++ l) (ap (λ (x : ℕ). drop (head_bytes + K.entry_bytes * x) part) z ∙ padded) in
    drop_num part 0 4 (num part 0 4) small (omega (arith, g.0)) refl
    ∙ ap (λ (l : List ℕ). le 4 (num part 0 4) ++ l)
    (drop_num part 4 4 (num part 4 4) small (omega (arith, g.0)) refl
    ∙ ap (λ (l : List ℕ). le 4 (num part 4 4) ++ l)
    (drop_num part 8 4 (length t) small (omega (arith, g.0)) size
    ∙ ap (λ (l : List ℕ). le 4 (length t) ++ l)
    (drop_num part 12 4 (rank t 1 (length t)) small (omega (arith, g.0)) f.total
    ∙ ap (λ (l : List ℕ). le 4 (rank t 1 (length t)) ++ l)
    (entries
    ∙ ap (λ (m : ℕ). entries_from K (cell t) 0 (superblocks_of K m) ++ (zeros (pad_bytes K m) ++ bytes_of (cell t) (sb * superblocks_of K m))) (sym long)))))

-- ---- the test of a right row
-- it is true where the row is right, and only there
pub right_test : (K : Kind) (part : List ℕ) (n : ℕ) → Right K part n → right_part K part n ≡ true
right_test K part n e = sym (ap (same part) e) ∙ same_refl part

pub test_right : (K : Kind) (part : List ℕ) (n : ℕ) → right_part K part n ≡ true → Right K part n
test_right K part n h = same_eq part _ h

-- of a part that is one record of length n
module _ (K : Kind) (F : KindFits K) {told : ℕ → ℕ → ℕ} (T : EntryTells K told) (part : List ℕ) (n : ℕ) (good : good_part K part n ≡ true)
    (small : (i : ℕ) → get_or part i 0 < 256) where
  -- a flag that tells the facts is the test
  pub tells_right : (t : Bool) → (t ≡ true → RightFacts K part n) → (RightFacts K part n → t ≡ true) → t ≡ right_part K part n
  tells_right t p q =
      decides t (right_part K part n) p q (λ e. right_facts K F T part n (good_part_lem K part n good).2 (test_right K part n e))
      (λ f. right_test K part n (facts_right K F part n good small f))

  -- one fact that fails
  pub no_right : (RightFacts K part n → ⊥) → false ≡ right_part K part n
  no_right h = tells_right false (λ e. absurd (false≢true e)) (λ f. absurd (h f))

-- ---- the inspection of a row
-- word w without its first i bits
module _ (s : List ℕ) (start w i x : ℕ) (bits : (q : ℕ) → q < 64 → bit x q ≡ bit_from s (start + 8 * w) q) where
  -- its bits
  shifted : (q : ℕ) → 64 * w + i ≤ q → q < 64 * (w + 1) → bit (x / 2 ^ i) (q - (64 * w + i)) ≡ bit_from s start q
  shifted q l h =
      let k : i + (q - (64 * w + i)) ≡ q - 64 * w = omega arith in
      let j : 64 * w + (q - 64 * w) ≡ q = omega arith in
      bit_shr x i (q - (64 * w + i))
      ∙ ap (bit x) k
      ∙ bits (q - 64 * w) (omega arith)
      ∙ bits_from s start (start + 8 * w) (8 * w) (64 * w) (q - 64 * w) refl (omega arith)
      ∙ ap (bit_from s start) j

  -- no one is left: they are zero
  pub shifted_none : x / 2 ^ i ≡ 0 → (q : ℕ) → 64 * w + i ≤ q → q < 64 * (w + 1) → bit_from s start q ≡ 0
  shifted_none z q l h = sym (shifted q l h) ∙ ap (λ (y : ℕ). bit y (q - (64 * w + i))) z ∙ zero_bit (q - (64 * w + i))

  -- one is left: they are not
  pub shifted_some : x < 2 ^ 64 → (x / 2 ^ i ≡ 0 → ⊥) → ((q : ℕ) → 64 * w + i ≤ q → q < 64 * (w + 1) → bit_from s start q ≡ 0) → ⊥
  shifted_some lt left zeros =
      let y : ℕ = x / 2 ^ i in
      let none : ones (bit y) 64 ≡ 0 = sum_none (bit y) 64 (λ k l. go k (lt_or (i + k) 64)) in
      let most : 64 ≤ 64 + i = omega arith in
      omega (arith, none, some_one y (shr_lt 64 i (lt_of_lt_of_le lt (pow_mono most))) left)
    where
      go : (k : ℕ) → (i + k < 64) ⊎ (64 ≤ i + k) → bit (x / 2 ^ i) k ≡ 0
      go k (inl l) =
          let e : 64 * w + i + k - (64 * w + i) ≡ k = omega arith in
          ap (bit (x / 2 ^ i)) (sym e) ∙ shifted (64 * w + i + k) (omega arith) (omega arith) ∙ zeros (64 * w + i + k) (omega arith) (omega arith)
      go k (inr l) = bit_shr x i k ∙ bit_high x 64 (i + k) lt l

-- the ones up to the end of block j, from those before it
pub block_more : (s block : List ℕ) (at j sum q : ℕ) → ((p : ℕ) → p < 512 → bit_at block p ≡ bit_from s (at + 64 * j) p) → sum ≡ ones (bit_from s at) (512 * j)
    → q ≡ ones (bit_at block) 512 → sum + q ≡ ones (bit_from s at) (512 * (j + 1))
block_more s block at j sum q bits before its =
    let e : 512 * j + 512 ≡ 512 * (j + 1) = omega arith in
    ap₂ (λ (x y : ℕ). x + y) before its
    ∙ sym (part_ones (bit_from s at) (bit_at block) (512 * j) 512 512
    (λ p l. bits p l ∙ bits_from s at (at + 64 * j) (64 * j) (512 * j) p refl (omega arith)) (le_refl 512))
    ∙ ap (ones (bit_from s at)) e

-- pad and padding are zero, the entries before superblock e are right, and `sum` is the ones before it
pub record SuperblocksRead (K : Kind) (part : List ℕ) (n e sum : ℕ) : Type 0 where
  pub within : e ≤ superblocks_of K n
  pub pad : PadZero K part n
  pub padding : PaddingZero K part n
  pub entries : (i : ℕ) → i < e → entry_number K part i ≡ entry_of K (cell (row_bits K part n)) i
  pub count : sum ≡ ones (cell (row_bits K part n)) (K.superblock_bits * e)

-- no entry is inspected yet
pub read_none : (K : Kind) (part : List ℕ) (n : ℕ) → PadZero K part n → PaddingZero K part n → SuperblocksRead K part n 0 0
read_none K part n padded zeros =
    record {
      within = omega arith;
      pad = padded;
      padding = zeros;
      entries = (λ i l. absurd (omega arith));
      count = sym (sum_zero (cell (row_bits K part n))) ∙ ap (ones (cell (row_bits K part n))) (sym (mul-zero K.superblock_bits));
    }

-- the same, and the ones of superblock e up to the end of each of its blocks are counted
pub record SuperblockCounted (K : Kind) (part : List ℕ) (n e sum : ℕ) (counts : List ℕ) : Type 0 where
  pub read : SuperblocksRead K part n e sum
  pub inside : e < superblocks_of K n
  pub counted : BlockCounts K (superblock_cells K (row_bits K part n) e) counts

-- those of the part's bits from its place on are those of the row
pub read_counted : (K : Kind) → KindFits K → (part : List ℕ) (n e sum : ℕ) (counts : List ℕ) (at : ℕ) → SuperblocksRead K part n e sum → e < superblocks_of K n
    → at ≡ bits_start K n + superblock_bytes K * e → BlockCounts K (bit_from part at) counts → SuperblockCounted K part n e sum counts
read_counted K F part n e sum counts at x inside there c =
    record {
      read = x;
      inside = inside;
      counted =
          counts_ext K F (bit_from part at) (superblock_cells K (row_bits K part n) e) counts c
          (λ p q. bits_from part (bits_start K n) at (superblock_bytes K * e) (K.superblock_bits * e) p there (bytes_all K F e)
          ∙ padded_bits K part n x.padding (K.superblock_bits * e + p)
          (omega (arith, mul-le-mul_left K.superblock_bits inside, mul-suc K.superblock_bits e)));
    }

module _ (K : Kind) (F : KindFits K) (part : List ℕ) (n e sum : ℕ) (counts : List ℕ) (x : SuperblockCounted K part n e sum counts) where
  -- the row's bits
  abbrev f : ℕ → ℕ
  f = cell (row_bits K part n)

  -- the test of the entry that stands there against the one of the superblock
  module _ (t : Bool) (v : ℕ) (made : v ≡ K.entry (superblock_cells K (row_bits K part n) e) sum) (tested : t ≡ eqb (entry_number K part e) v) where
    own_entry : v ≡ entry_of K f e
    own_entry = made ∙ entry_placed K f e sum x.read.count

    -- it is right
    pub read_more : (last : ℕ) → last + 1 ≡ superblock_blocks K → not t ≡ false → SuperblocksRead K part n (e + 1) (sum + get_or counts last 0)
    read_more last all h =
        let bb : ℕ = K.superblock_bits in
        let i : bb * e + bb ≡ bb * (e + 1) = sym (times_more bb e) in
        let is : entry_number K part e ≡ entry_of K f e = eqb-true _ _ (sym tested ∙ not-false t h) ∙ own_entry in
        record {
          within = omega (arith, x.inside);
          pad = x.read.pad;
          padding = x.read.padding;
          entries = λ j l. ⊎_elim (x.read.entries j)
              (λ q. let s : e ≡ j = omega arith in subst (λ (k : ℕ). entry_number K part k ≡ entry_of K f k) s is) (lt_or j e);
          count = omega (
            arith,
            x.read.count,
            counts_all K F (superblock_cells K (row_bits K part n) e) counts x.counted last all,
            sum_split f (bb * e) bb,
            ap (ones f) i,
          );
        }

    -- it is not: no right row
    pub read_wrong : not t ≡ true → RightFacts K part n → ⊥
    read_wrong h r = eqb-false _ _ (sym tested ∙ not-true t h) (r.entries e x.inside ∙ sym own_entry)

-- at most as many ones as bits
pub read_le : (K : Kind) (part : List ℕ) (n e sum : ℕ) → SuperblocksRead K part n e sum → sum ≤ K.superblock_bits * e
read_le K part n e sum x = omega (arith, x.count, ones_le (cell (row_bits K part n)) (K.superblock_bits * e) (row_le K part n))

-- all superblocks are inspected: the number of ones is left
pub read_done : (K : Kind) → KindFits K → {told : ℕ → ℕ → ℕ} → EntryTells K told → (part : List ℕ) (n e sum total : ℕ) → good_part K part n ≡ true
    → ((i : ℕ) → get_or part i 0 < 256) → SuperblocksRead K part n e sum → superblocks_of K n ≤ e → total ≡ ones_at part 0 → eqb total sum ≡ right_part K part n
read_done K F T part n e sum total good small x all said =
    let t : List ℕ = row_bits K part n in
    let most : n ≤ K.superblock_bits * e = omega (arith, superblocks_cover K F n, mul-le-mul_left K.superblock_bits all) in
    let is : sum ≡ rank t 1 (length t) =
    x.count ∙ ones_past t (K.superblock_bits * e) (omega (arith, row_length_lem K part n, most)) ∙ sym (total_ones t (row_le K part n)) in
    tells_right K F T part n good small (eqb total sum)
    (λ h. record { total = sym said ∙ eqb-true total sum h ∙ is; entries = (λ i l. x.entries i (omega arith)); pad = x.pad; padding = x.padding })
    (λ r. eq-eqb total sum (said ∙ r.total ∙ sym is))

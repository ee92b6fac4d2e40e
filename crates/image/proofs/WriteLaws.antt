-- Bits as bytes, the record of a strip, and its stores. Assumes nothing.
use mathlib.Core.Path.{◌≡◌, refl, sym, ap, ap₂, ◌∙◌, subst}
use mathlib.Core.Logic.{⊎_elim}
use mathlib.Core.List.{List, [], ◌∷◌, ◌++◌, append_assoc, append-nil}
use Prim.Native.Nat.{ℕ, zero, suc, ◌+◌, ◌-◌, ◌*◌, ◌/◌, ◌%◌, ◌^◌, ◌≤◌, ◌<◌}
use native.Mathlib.Nat.{one-mul, mod-lt, mod-eq_of_lt, zero-lt-suc, pow-zero, pow-succ', mul-zero, mul-suc, mul-le-mul_left}
use native.Mathlib.Omega.{arith}
use lib.Bits.{bit_and, and_mask}
use lib.Dec.{lit<}
use lib.Pow.{pow_pos}
use lib.ListN.{length, set, take, drop, replicate, get_or, length-append, length-replicate, get_or-replicate, get_or-append, get_or-eq_default}
use lib.Seq.{sets, length-sets, ext_get_or, drop-drop, drop-append_seam, get_or-drop}
use Rattle.words.specs.Bits.{bit, bit_at, ones, digits, list_of}
use Rattle.words.specs.Strip.{cell, strip_of, rank}
use Rattle.words.proofs.Sums.{lt_or, sum_zero, sum_split, sum_ext, ones_le, length_list_of, get_or_list_of, sum_const, sum_none}
use Rattle.words.proofs.BitLaws.{zero_bit, bit_shr, bit_mod, bit_high}
use Rattle.words.proofs.WordLaws.{word_bit, block_bit}
use Rattle.words.proofs.DigitLaws.{field, digits_ext, digits_at, digits_of}
use Rattle.words.proofs.StripLaws.{total_ones, strip_cell}
use Rattle.image.specs.declared.write.Target.{Target}
use Rattle.image.specs.Bytes.{num, le, bit_from}
use Rattle.image.specs.Kinds.{Kind}
use Rattle.image.specs.Layout.{unit_bytes, head_bytes, most_row, superblock_blocks, superblock_bytes, superblocks_of, entries_bytes, pad_bytes, bits_start, size_of, entry_of, entries_from, zeros, bytes_of, record_of}
use Rattle.image.specs.Rows.{row_bits, Right}
use Rattle.image.specs.Chain.{header_of}
use Rattle.image.specs.Writing.{word_cells, block_cells, BitsPut, CountedPut, SuperblockPut, RowPut}
use Rattle.image.proofs.KindLaws.{KindFits, EntryTells, times_more, bytes_all, superblocks_cover, superblock_begins, pad_ends}
use Rattle.image.proofs.CountLaws.{counts_all, Counting, counting_none, counting_more}
use Rattle.image.proofs.PutLaws.{length_le, le_small, num_of, sets_join, sets_comm, sets_front}

-- ---- lists by their elements
-- equal elements, equal lists
pub list_of_ext : (f g : ℕ → ℕ) (n : ℕ) → ((i : ℕ) → i < n → f i ≡ g i) → list_of f n ≡ list_of g n
unfolding list_of
list_of_ext f g zero h = refl
list_of_ext f g (suc n) h =
    ap₂ (λ (x : ℕ) (l : List ℕ). x ∷ l) (h 0 (omega arith)) (list_of_ext (λ i. f (suc i)) (λ i. g (suc i)) n (λ i l. h (suc i) (omega arith)))

-- the first m elements, then those after them
pub list_of_append : (f : ℕ → ℕ) (m n : ℕ) → list_of f (m + n) ≡ list_of f m ++ list_of (λ i. f (m + i)) n
unfolding list_of
list_of_append f zero n =
    let e : zero + n ≡ n = omega arith in
    ap (list_of f) e ∙ list_of_ext f (λ i. f (zero + i)) n (λ i l. ap f (omega arith))
list_of_append f (suc m) n =
    let e : suc m + n ≡ suc (m + n) = omega arith in
    ap (list_of f) e
    ∙ ap (λ (l : List ℕ). f 0 ∷ l)
    (list_of_append (λ i. f (suc i)) m n
    ∙ ap (λ (l : List ℕ). list_of (λ i. f (suc i)) m ++ l) (list_of_ext (λ i. f (suc (m + i))) (λ i. f (suc m + i)) n (λ i l. ap f (omega arith))))

-- past the end there is 0
pub list_of_past : (f : ℕ → ℕ) (n i : ℕ) → n ≤ i → get_or (list_of f n) i 0 ≡ 0
list_of_past f n i h = get_or-eq_default (list_of f n) 0 {n = i} (omega (arith, length_list_of f n))

-- what holds of all f and of 0 holds at every place
pub list_of_all : (P : ℕ → Type 0) (f : ℕ → ℕ) (n : ℕ) → ((i : ℕ) → P (f i)) → P 0 → (i : ℕ) → P (get_or (list_of f n) i 0)
list_of_all P f n h z i =
    ⊎_elim (λ l. subst P (sym (get_or_list_of f n i l)) (h i)) (λ l. subst P (sym (list_of_past f n i l)) z) (lt_or i n)

-- ---- a byte of bits
-- digits are below the power of their base
pub digits_lt : (b : ℕ) (g : ℕ → ℕ) (n : ℕ) → ((i : ℕ) → i < n → g i < b) → digits b g n < b ^ n
unfolding digits
digits_lt b g zero h = omega (arith, pow-zero b)
digits_lt b g (suc n) h =
    let d : ℕ = digits b (λ j. g (suc j)) n in
    let ih : suc d ≤ b ^ n = digits_lt b (λ j. g (suc j)) n (λ i l. h (suc i) (omega arith)) in
    let k : b * suc d ≤ b * b ^ n = mul-le-mul_left b ih in
    omega (arith, k, h 0 (omega arith), mul-suc b d, pow-succ' b n)

-- bit q of a number by its bits
pub digits_bit : (g : ℕ → ℕ) (n q : ℕ) → ((i : ℕ) → g i ≤ 1) → q < n → bit (digits 2 g n) q ≡ g q
digits_bit g n q h l =
    ap (λ (e : ℕ). digits 2 g n / 2 ^ e % 2) (sym (one-mul q)) ∙ digits_at 1 g n q (λ i k. omega (arith, h i)) l

-- a byte is the byte of its bits
pub byte_digits : (x : ℕ) → x < 256 → digits 2 (bit x) 8 ≡ x
byte_digits x h =
    digits_ext 2 (bit x) (field 1 x) 8 (λ i l. ap (λ (e : ℕ). x / 2 ^ e % 2) (sym (one-mul i))) ∙ sym (digits_of 1 8 x h)

-- ---- bytes of bits
-- their number
pub length_bytes : (f : ℕ → ℕ) (n : ℕ) → length (bytes_of f n) ≡ n
length_bytes f n = length_list_of (λ b. digits 2 (λ j. f (8 * b + j)) 8) n

-- byte i
pub bytes_at : (f : ℕ → ℕ) (n i : ℕ) → i < n → get_or (bytes_of f n) i 0 ≡ digits 2 (λ j. f (8 * i + j)) 8
bytes_at f n i h = get_or_list_of (λ b. digits 2 (λ j. f (8 * b + j)) 8) n i h

-- equal bits, equal bytes
pub bytes_ext : (f g : ℕ → ℕ) (n : ℕ) → ((p : ℕ) → p < 8 * n → f p ≡ g p) → bytes_of f n ≡ bytes_of g n
bytes_ext f g n h =
    list_of_ext (λ b. digits 2 (λ j. f (8 * b + j)) 8) (λ b. digits 2 (λ j. g (8 * b + j)) 8) n
    (λ b l. digits_ext 2 (λ j. f (8 * b + j)) (λ j. g (8 * b + j)) 8 (λ j k. h (8 * b + j) (omega arith)))

-- the first m bytes, then those from bit 8 m on
pub bytes_append : (f : ℕ → ℕ) (m n : ℕ) → bytes_of f (m + n) ≡ bytes_of f m ++ bytes_of (λ p. f (8 * m + p)) n
bytes_append f m n =
    list_of_append (λ b. digits 2 (λ j. f (8 * b + j)) 8) m n
    ∙ ap (λ (l : List ℕ). bytes_of f m ++ l)
    (list_of_ext (λ b. digits 2 (λ j. f (8 * (m + b) + j)) 8) (λ b. digits 2 (λ j. f (8 * m + (8 * b + j))) 8) n
    (λ b l. digits_ext 2 (λ j. f (8 * (m + b) + j)) (λ j. f (8 * m + (8 * b + j))) 8 (λ j k. ap f (omega arith))))

-- the bits of the bytes of bits
pub bytes_bit : (f : ℕ → ℕ) (n p : ℕ) → ((q : ℕ) → f q ≤ 1) → p < 8 * n → bit_from (bytes_of f n) 0 p ≡ f p
bytes_bit f n p h l =
    let e : 0 + p / 8 ≡ p / 8 = omega arith in
    let i : 8 * (p / 8) + p % 8 ≡ p = omega arith in
    ap (λ (k : ℕ). bit (get_or (bytes_of f n) k 0) (p % 8)) e
    ∙ ap (λ (x : ℕ). bit x (p % 8)) (bytes_at f n (p / 8) (omega arith))
    ∙ digits_bit (λ j. f (8 * (p / 8) + j)) 8 (p % 8) (λ j. h (8 * (p / 8) + j)) (omega arith)
    ∙ ap f i

-- each is a byte
pub bytes_small : (f : ℕ → ℕ) (n i : ℕ) → ((q : ℕ) → f q ≤ 1) → get_or (bytes_of f n) i 0 < 256
bytes_small f n i h =
    list_of_all (λ x. x < 256) (λ b. digits 2 (λ j. f (8 * b + j)) 8) n
    (λ b. digits_lt 2 (λ j. f (8 * b + j)) 8 (λ j k. omega (arith, h (8 * b + j)))) (lit< tt) i

-- the low bytes of a number are the bytes of its bits
pub le_bytes : (n x : ℕ) (f : ℕ → ℕ) → ((p : ℕ) → p < 8 * n → bit x p ≡ f p) → le n x ≡ bytes_of f n
unfolding le list_of
le_bytes zero x f h = refl
le_bytes (suc n) x f h =
    ap₂ (λ (y : ℕ) (l : List ℕ). y ∷ l)
    (sym (byte_digits (x % 256) (mod-lt x (zero-lt-suc 255)))
    ∙ digits_ext 2 (bit (x % 256)) (λ j. f (8 * 0 + j)) 8 (λ j l. bit_mod x 8 j l ∙ h j (omega arith) ∙ ap f (omega arith)))
    (le_bytes n (x / 256) (λ p. f (8 + p)) (λ p l. bit_shr x 8 p ∙ h (8 + p) (omega arith))
    ∙ list_of_ext (λ b. digits 2 (λ j. f (8 + (8 * b + j))) 8) (λ b. digits 2 (λ j. f (8 * suc b + j)) 8) n
    (λ b l. digits_ext 2 (λ j. f (8 + (8 * b + j))) (λ j. f (8 * suc b + j)) 8 (λ j k. ap f (omega arith))))

-- bytes beside bytes
append_small : (xs ys : List ℕ) → ((i : ℕ) → get_or xs i 0 < 256) → ((i : ℕ) → get_or ys i 0 < 256) → (i : ℕ) → get_or (xs ++ ys) i 0 < 256
append_small [] ys hx hy i = hy i
append_small (x ∷ xs) ys hx hy zero = hx 0
append_small (x ∷ xs) ys hx hy (suc i) = append_small xs ys (λ j. hx (suc j)) hy i

-- zeros are bytes
zeros_small : (n i : ℕ) → get_or (zeros n) i 0 < 256
zeros_small zero i = lit< tt
zeros_small (suc n) zero = lit< tt
zeros_small (suc n) (suc i) = zeros_small n i

-- ---- entries
module _ (K : Kind) (f : ℕ → ℕ) where
  -- the entry of superblock e, with the row's ones before it, is entry e of the row
  pub entry_placed : (e sum : ℕ) → sum ≡ ones f (K.superblock_bits * e) → K.entry (λ p. f (K.superblock_bits * e + p)) sum ≡ entry_of K f e
  unfolding entry_of
  entry_placed e sum h = ap (K.entry (λ p. f (K.superblock_bits * e + p))) h

  -- their bytes
  pub length_entries : (e n : ℕ) → length (entries_from K f e n) ≡ K.entry_bytes * n
  unfolding entries_from
  length_entries e zero = sym (mul-zero K.entry_bytes)
  length_entries e (suc n) =
      length-append (le K.entry_bytes (entry_of K f e)) (entries_from K f (suc e) n)
      ∙ omega (arith, length_le K.entry_bytes (entry_of K f e), length_entries (suc e) n, mul-suc K.entry_bytes n)

  -- the first m entries, then those after them
  pub entries_append : (e m n : ℕ) → entries_from K f e (m + n) ≡ entries_from K f e m ++ entries_from K f (e + m) n
  unfolding entries_from
  entries_append e zero n =
      let i : zero + n ≡ n = omega arith in
      let j : e ≡ e + zero = omega arith in
      ap (entries_from K f e) i ∙ ap (λ (k : ℕ). entries_from K f k n) j
  entries_append e (suc m) n =
      let i : suc m + n ≡ suc (m + n) = omega arith in
      let j : suc e + m ≡ e + suc m = omega arith in
      let own : List ℕ = le K.entry_bytes (entry_of K f e) in
      ap (entries_from K f e) i
      ∙ ap (λ (l : List ℕ). own ++ l) (entries_append (suc e) m n ∙ ap (λ (k : ℕ). entries_from K f (suc e) m ++ entries_from K f k n) j)
      ∙ sym (append_assoc own (entries_from K f (suc e) m) (entries_from K f (e + suc m) n))

  -- one entry
  entries_one : (e : ℕ) → entries_from K f e 1 ≡ le K.entry_bytes (entry_of K f e)
  unfolding entries_from
  entries_one e = append-nil (le K.entry_bytes (entry_of K f e))

  -- entries are bytes
  entries_small : (e n i : ℕ) → get_or (entries_from K f e n) i 0 < 256
  unfolding entries_from
  entries_small e zero i = lit< tt
  entries_small e (suc n) i =
      append_small (le K.entry_bytes (entry_of K f e)) (entries_from K f (suc e) n) (le_small K.entry_bytes (entry_of K f e)) (entries_small (suc e) n) i

  -- an entry fits its bytes
  entry_fits : {told : ℕ → ℕ → ℕ} → EntryTells K told → (e : ℕ) → ((p : ℕ) → f p ≤ 1) → K.superblock_bits * e ≤ most_row → entry_of K f e < 256 ^ K.entry_bytes
  unfolding entry_of
  entry_fits T e b h =
      T.fits (λ p. f (K.superblock_bits * e + p)) (ones f (K.superblock_bits * e)) (λ p. b (K.superblock_bits * e + p))
      (omega (arith, ones_le f (K.superblock_bits * e) b))

-- ---- the pieces of a list of bytes, from the front
-- what follows a piece
pub piece_after : (s xs ys : List ℕ) (at n m : ℕ) → length xs ≡ n → drop at s ≡ xs ++ ys → at + n ≡ m → drop m s ≡ ys
piece_after s xs ys at n m l e i =
    ap (λ (k : ℕ). drop k s) (sym i) ∙ sym (drop-drop n at s) ∙ ap (drop n) e ∙ ap (λ (k : ℕ). drop k (xs ++ ys)) (sym l) ∙ drop-append_seam xs ys

-- a byte of a piece
pub piece_at : (s xs ys : List ℕ) (at i : ℕ) → drop at s ≡ xs ++ ys → i < length xs → get_or s (at + i) 0 ≡ get_or xs i 0
piece_at s xs ys at i e h = sym (get_or-drop at s i 0) ∙ ap (λ (l : List ℕ). get_or l i 0) e ∙ get_or-append xs ys 0 i h

-- a number
pub piece_num : (s ys : List ℕ) (at n v : ℕ) → drop at s ≡ le n v ++ ys → num s at n ≡ v % 256 ^ n
piece_num s ys at n v e = num_of s at n v (λ i l. piece_at s (le n v) ys at i e (omega (arith, length_le n v)))

-- that fits in its bytes
pub piece_small : (s ys : List ℕ) (at n v : ℕ) → v < 256 ^ n → drop at s ≡ le n v ++ ys → num s at n ≡ v
piece_small s ys at n v h e = piece_num s ys at n v e ∙ mod-eq_of_lt h

-- an entry among entries
pub piece_entry : (K : Kind) (s ys : List ℕ) (at : ℕ) (f : ℕ → ℕ) (n e : ℕ) → drop at s ≡ entries_from K f 0 n ++ ys → e < n
    → num s (at + K.entry_bytes * e) K.entry_bytes ≡ entry_of K f e % 256 ^ K.entry_bytes
piece_entry K s ys at f n e h l =
    let m : ℕ = n - (e + 1) in
    let i : e + (1 + m) ≡ n = omega arith in
    let z : 0 + e ≡ e = omega arith in
    let eb : ℕ = K.entry_bytes in
    let xs : List ℕ = entries_from K f 0 e in
    let y : List ℕ = le eb (entry_of K f e) in
    let zs : List ℕ = entries_from K f (e + 1) m in
    let tail : entries_from K f (0 + e) (1 + m) ≡ y ++ zs =
    ap (λ (k : ℕ). entries_from K f k (1 + m)) z ∙ entries_append K f e 1 m ∙ ap (λ (q : List ℕ). q ++ zs) (entries_one K f e) in
    let all : entries_from K f 0 n ≡ xs ++ (y ++ zs) = ap (entries_from K f 0) (sym i) ∙ entries_append K f 0 e (1 + m) ∙ ap (λ (q : List ℕ). xs ++ q) tail in
    let d : drop at s ≡ xs ++ (y ++ (zs ++ ys)) = h ∙ ap (λ (q : List ℕ). q ++ ys) all ∙ simp append_assoc in
    piece_num s (zs ++ ys) (at + eb * e) eb (entry_of K f e)
    (piece_after s xs (y ++ (zs ++ ys)) at (eb * e) (at + eb * e) (length_entries K f 0 e) d refl)

-- a bit among bytes of bits
pub piece_bit : (s ys : List ℕ) (at : ℕ) (f : ℕ → ℕ) (n p : ℕ) → ((q : ℕ) → f q ≤ 1) → drop at s ≡ bytes_of f n ++ ys → p < 8 * n → bit_from s at p ≡ f p
piece_bit s ys at f n p h e l =
    let z : p / 8 ≡ 0 + p / 8 = omega arith in
    ap (λ (x : ℕ). bit x (p % 8))
    (piece_at s (bytes_of f n) ys at (p / 8) e (omega (arith, length_bytes f n)) ∙ ap (λ (k : ℕ). get_or (bytes_of f n) k 0) z)
    ∙ bytes_bit f n p h l

-- ---- the ones of a strip
-- the ones of a list of bits, counted past its end
pub ones_past : (t : List ℕ) (m : ℕ) → length t ≤ m → ones (cell t) m ≡ ones (cell t) (length t)
ones_past t m h =
    let n : ℕ = length t in
    let e : n + (m - n) ≡ m = omega arith in
    let z : ones (λ p. cell t (n + p)) (m - n) ≡ (m - n) * 0 =
    sum_const (λ p. cell t (n + p)) 0 (m - n) (λ p l. get_or-eq_default t 0 {n = n + p} (omega arith)) in
    omega (arith, ap (ones (cell t)) e, sum_split (cell t) n (m - n), z)

-- ---- a record
module _ (K : Kind) (x l : ℕ) (t : List ℕ) where
  -- it, its entries, the zeros that pad them, its bits and its ones
  abbrev r : List ℕ
  r = record_of K x l t

  abbrev es : List ℕ
  es = entries_from K (cell t) 0 (superblocks_of K (length t))

  abbrev fs : List ℕ
  fs = zeros (pad_bytes K (length t))

  abbrev bs : List ℕ
  bs = bytes_of (cell t) (superblock_bytes K * superblocks_of K (length t))

  abbrev total : ℕ
  total = rank t 1 (length t)

  -- what stands from a byte on
  from_0 : drop 0 r ≡ le 4 x ++ (le 4 l ++ (le 4 (length t) ++ (le 4 total ++ (es ++ (fs ++ bs)))))
  unfolding record_of
  from_0 = refl

  from_4 : drop 4 r ≡ le 4 l ++ (le 4 (length t) ++ (le 4 total ++ (es ++ (fs ++ bs))))
  from_4 = piece_after r (le 4 x) (le 4 l ++ (le 4 (length t) ++ (le 4 total ++ (es ++ (fs ++ bs))))) 0 4 4 (length_le 4 x) from_0 refl

  -- with another next index in front
  pub record_front : (y : ℕ) → record_of K y l t ≡ le 4 y ++ drop 4 r
  unfolding record_of
  record_front y = ap (λ (z : List ℕ). le 4 y ++ z) (sym from_4)

  from_8 : drop 8 r ≡ le 4 (length t) ++ (le 4 total ++ (es ++ (fs ++ bs)))
  from_8 = piece_after r (le 4 l) (le 4 (length t) ++ (le 4 total ++ (es ++ (fs ++ bs)))) 4 4 8 (length_le 4 l) from_4 refl

  -- with another next index and label in front
  pub record_heads : (y m : ℕ) → record_of K y m t ≡ le 4 y ++ (le 4 m ++ drop 8 r)
  unfolding record_of
  record_heads y m = ap (λ (z : List ℕ). le 4 y ++ (le 4 m ++ z)) (sym from_8)

  from_12 : drop 12 r ≡ le 4 total ++ (es ++ (fs ++ bs))
  from_12 = piece_after r (le 4 (length t)) (le 4 total ++ (es ++ (fs ++ bs))) 8 4 12 (length_le 4 (length t)) from_8 refl

  from_entries : drop head_bytes r ≡ es ++ (fs ++ bs)
  from_entries = piece_after r (le 4 total) (es ++ (fs ++ bs)) 12 4 head_bytes (length_le 4 total) from_12 refl

  from_pad : drop (head_bytes + entries_bytes K (length t)) r ≡ fs ++ bs
  from_pad =
      piece_after r es (fs ++ bs) head_bytes (entries_bytes K (length t)) (head_bytes + entries_bytes K (length t))
      (length_entries K (cell t) 0 (superblocks_of K (length t))) from_entries refl

  from_bits : drop (bits_start K (length t)) r ≡ bs ++ []
  from_bits =
      piece_after r fs bs (head_bytes + entries_bytes K (length t)) (pad_bytes K (length t)) (bits_start K (length t))
      (length-replicate {A = ℕ} (pad_bytes K (length t)) 0) from_pad (pad_ends K (length t))
      ∙ sym (append-nil bs)

  -- its size
  pub record_length : length r ≡ size_of K (length t)
  unfolding record_of
  record_length =
      length-append (le 4 x) (le 4 l ++ (le 4 (length t) ++ (le 4 total ++ (es ++ (fs ++ bs)))))
      ∙ omega (
        arith,
        length_le 4 x,
        length-append (le 4 l) (le 4 (length t) ++ (le 4 total ++ (es ++ (fs ++ bs)))),
        length_le 4 l,
        length-append (le 4 (length t)) (le 4 total ++ (es ++ (fs ++ bs))),
        length_le 4 (length t),
        length-append (le 4 total) (es ++ (fs ++ bs)),
        length_le 4 total,
        length-append es (fs ++ bs),
        length_entries K (cell t) 0 (superblocks_of K (length t)),
        length-append fs bs,
        length-replicate {A = ℕ} (pad_bytes K (length t)) 0,
        pad_ends K (length t),
        length_bytes (cell t) (superblock_bytes K * superblocks_of K (length t)),
      )

  -- its four numbers
  pub record_next : num r 0 4 ≡ x % 2 ^ 32
  record_next = piece_num r (le 4 l ++ (le 4 (length t) ++ (le 4 total ++ (es ++ (fs ++ bs))))) 0 4 x from_0

  pub record_label : num r 4 4 ≡ l % 2 ^ 32
  record_label = piece_num r (le 4 (length t) ++ (le 4 total ++ (es ++ (fs ++ bs)))) 4 4 l from_4

  pub record_size : num r 8 4 ≡ length t % 2 ^ 32
  record_size = piece_num r (le 4 total ++ (es ++ (fs ++ bs))) 8 4 (length t) from_8

  pub record_ones : num r 12 4 ≡ rank t 1 (length t) % 2 ^ 32
  record_ones = piece_num r (es ++ (fs ++ bs)) 12 4 total from_12

  -- the third, of a row that is not too long
  pub record_long : length t ≤ most_row → num r 8 4 ≡ length t
  record_long h = record_size ∙ mod-eq_of_lt (omega arith)

  -- the bytes that pad its entries
  pub record_pad : (i : ℕ) → i < pad_bytes K (length t) → get_or r (head_bytes + entries_bytes K (length t) + i) 0 ≡ 0
  record_pad i h =
      piece_at r fs bs (head_bytes + entries_bytes K (length t)) i from_pad (omega (arith, length-replicate {A = ℕ} (pad_bytes K (length t)) 0))
      ∙ get_or-replicate {A = ℕ} (pad_bytes K (length t)) i 0 0 h

  -- those of a list of bits
  module _ (bits : (p : ℕ) → cell t p ≤ 1) where
    -- the fourth, likewise
    pub record_total : length t ≤ most_row → num r 12 4 ≡ rank t 1 (length t)
    record_total h = record_ones ∙ mod-eq_of_lt (omega (arith, total_ones t bits, ones_le (cell t) (length t) bits))

    -- it is a list of bytes
    pub record_small : (i : ℕ) → get_or r i 0 < 256
    unfolding record_of
    record_small =
        append_small (le 4 x) _ (le_small 4 x)
        (append_small (le 4 l) _ (le_small 4 l)
        (append_small (le 4 (length t)) _ (le_small 4 (length t))
        (append_small (le 4 total) _ (le_small 4 total)
        (append_small es (fs ++ bs) (entries_small K (cell t) 0 (superblocks_of K (length t)))
        (append_small fs bs (zeros_small (pad_bytes K (length t)))
        (λ i. bytes_small (cell t) (superblock_bytes K * superblocks_of K (length t)) i bits))))))

    -- of a kind that has what is asked
    module _ (F : KindFits K) where
      -- entry e
      pub record_entry : {told : ℕ → ℕ → ℕ} → EntryTells K told → (e : ℕ) → length t ≤ most_row → e < superblocks_of K (length t)
          → num r (head_bytes + K.entry_bytes * e) K.entry_bytes ≡ entry_of K (cell t) e
      record_entry T e h k =
          piece_entry K r (fs ++ bs) head_bytes (cell t) (superblocks_of K (length t)) e from_entries k
          ∙ mod-eq_of_lt (entry_fits K (cell t) T e bits (omega (arith, superblock_begins K F (length t) e k)))

      -- the bit at position p, padding too
      pub record_bit : (p : ℕ) → p < K.superblock_bits * superblocks_of K (length t) → bit_from r (bits_start K (length t)) p ≡ cell t p
      record_bit p h =
          piece_bit r [] (bits_start K (length t)) (cell t) (superblock_bytes K * superblocks_of K (length t)) p bits from_bits
          (omega (arith, bytes_all K F (superblocks_of K (length t))))

      -- the row's bits are those written
      pub record_bits : row_bits K r (length t) ≡ t
      record_bits =
          ext_get_or 0 (row_bits K r (length t)) t (length_list_of (bit_from r (bits_start K (length t))) (length t))
          (λ p h.
          let q : p < length t = omega (arith, length_list_of (bit_from r (bits_start K (length t))) (length t)) in
          get_or_list_of (bit_from r (bits_start K (length t))) (length t) p q ∙ record_bit p (omega (arith, superblocks_cover K F (length t))))

      -- a record that is written is right
      pub record_right : x < 2 ^ 32 → l < 2 ^ 32 → Right K r (length t)
      record_right hx hl =
          sym (ap₂ (λ (y z : ℕ). record_of K y z (row_bits K r (length t))) (record_next ∙ mod-eq_of_lt hx) (record_label ∙ mod-eq_of_lt hl)
          ∙ ap (record_of K x l) record_bits)

-- ---- a word of a strip
-- past its length a strip has no ones
strip_past : (ws : List ℕ) (n p : ℕ) → n ≤ p → cell (strip_of ws n) p ≡ 0
strip_past ws n p h = list_of_past (bit_at ws) n p h

module _ (ws : List ℕ) (n w p : ℕ) where
  -- past the length
  pub word_none : n ≤ 64 * w → bit 0 p ≡ cell (strip_of ws n) (64 * w + p)
  word_none h = zero_bit p ∙ sym (strip_past ws n (64 * w + p) (omega arith))

  -- before it
  pub word_all : 64 * w + 64 ≤ n → p < 64 → bit (get_or ws w 0) p ≡ cell (strip_of ws n) (64 * w + p)
  word_all h l = sym (strip_cell ws n (64 * w + p) (omega arith) ∙ word_bit ws w p l)

  -- at it
  pub word_some : (m : ℕ) → 64 * w + m ≡ n → p < 64 → bit (bit_and (get_or ws w 0) (2 ^ m - 1)) p ≡ cell (strip_of ws n) (64 * w + p)
  word_some m e l =
      let x : ℕ = get_or ws w 0 in
      ap (λ (y : ℕ). bit y p) (and_mask x m)
      ∙ ⊎_elim
      (λ q. bit_mod x m p q ∙ sym (strip_cell ws n (64 * w + p) (omega arith) ∙ word_bit ws w p l))
      (λ q. bit_high (x % 2 ^ m) m p (mod-lt x (pow_pos m)) q ∙ sym (strip_past ws n (64 * w + p) (omega arith)))
      (lt_or p m)

-- ---- bits stored as bytes
module _ (g : ℕ → ℕ) (at : ℕ) (s : List ℕ) where
  -- nothing is stored yet
  pub bits_none : BitsPut g 0 at s s 0
  unfolding list_of
  bits_none = record { same = refl; count = sym (sum_zero g) }

  -- k bytes more
  pub bits_more : (t u : List ℕ) (m k n r q : ℕ) → BitsPut g m at s t r → BitsPut (λ p. g (8 * m + p)) k (at + m) t u q → m + k ≡ n
      → BitsPut g n at s u (r + q)
  bits_more t u m k n r q x y e =
      let i : 8 * m + 8 * k ≡ 8 * n = omega arith in
      record {
        same =
            y.same
            ∙ ap (λ (l : List ℕ). sets l (at + m) (bytes_of (λ p. g (8 * m + p)) k)) x.same
            ∙ sets_join (bytes_of g m) (bytes_of (λ p. g (8 * m + p)) k) s at (at + m) (omega (arith, length_bytes g m))
            ∙ ap (sets s at) (sym (bytes_append g m k) ∙ ap (bytes_of g) e);
        count = omega (arith, x.count, y.count, sum_split g (8 * m) (8 * k), ap (ones g) i);
      }

  -- one word
  pub bits_word : (t : List ℕ) (x q : ℕ) → t ≡ sets s at (le 8 x) → ((p : ℕ) → p < 64 → bit x p ≡ g p) → q ≡ ones (bit x) 64 → BitsPut g 8 at s t q
  bits_word t x q e h c =
      record { same = e ∙ ap (sets s at) (le_bytes 8 x g h); count = c ∙ sum_ext (bit x) g 64 h }

  -- equal bits
  pub bits_ext : (f : ℕ → ℕ) (t : List ℕ) (m r : ℕ) → BitsPut f m at s t r → ((p : ℕ) → p < 8 * m → f p ≡ g p) → BitsPut g m at s t r
  bits_ext f t m r x h =
      record { same = x.same ∙ ap (sets s at) (bytes_ext f g m h); count = x.count ∙ sum_ext f g (8 * m) h }

  -- the length stays
  pub bits_length : (t : List ℕ) (m r : ℕ) → BitsPut g m at s t r → length t ≡ length s
  bits_length t m r x = ap length x.same ∙ length-sets s at (bytes_of g m)

  -- of bits, there are no more ones than bits
  pub bits_le : (t : List ℕ) (m r : ℕ) → BitsPut g m at s t r → ((p : ℕ) → g p ≤ 1) → r ≤ 8 * m
  bits_le t m r x h = omega (arith, x.count, ones_le g (8 * m) h)

-- a block before the length
pub block_whole : (ws : List ℕ) (n w at : ℕ) (s t block : List ℕ) (r : ℕ) → 64 * w + 512 ≤ n
    → ((j : ℕ) → j < 8 → get_or block j 0 ≡ get_or ws (w + j) 0) → BitsPut (bit_at block) 64 at s t r → BitsPut (word_cells (strip_of ws n) w) 64 at s t r
block_whole ws n w at s t block r h words x =
    bits_ext (word_cells (strip_of ws n) w) at s (bit_at block) t 64 r x
    (λ p l.
    let e : 64 * (w + p / 64) + p % 64 ≡ 64 * w + p = omega arith in
    ap (λ (v : ℕ). bit v (p % 64)) (words (p / 64) (omega arith))
    ∙ word_all ws n (w + p / 64) (p % 64) (omega arith) (omega arith)
    ∙ ap (cell (strip_of ws n)) e)

-- a block past it
pub block_past : (ws : List ℕ) (n w at : ℕ) (s t : List ℕ) → n ≤ 64 * w → BitsPut (λ p. 0) 64 at s t 0 → BitsPut (word_cells (strip_of ws n) w) 64 at s t 0
block_past ws n w at s t h x =
    bits_ext (word_cells (strip_of ws n) w) at s (λ p. 0) t 64 0 x (λ p l. sym (strip_past ws n (64 * w + p) (omega arith)))

-- a bit of a block before the length
pub block_cell : (ws : List ℕ) (n b : ℕ) (block : List ℕ) (p : ℕ) → block ≡ take 8 (drop (8 * b) ws) → 512 * b + 512 ≤ n → p < 512
    → bit_at block p ≡ block_cells (strip_of ws n) b p
block_cell ws n b block p e h l =
    ap (λ (x : List ℕ). bit_at x p) e ∙ block_bit ws b 8 p refl l ∙ sym (strip_cell ws n (512 * b + p) (omega arith))

-- a bit of a block past it
pub block_cell_past : (ws : List ℕ) (n b p : ℕ) → n ≤ 512 * b → 0 ≡ block_cells (strip_of ws n) b p
block_cell_past ws n b p h = sym (strip_past ws n (512 * b + p) (omega arith))

-- zeros are the bytes of no ones
zero_bytes : (m : ℕ) → replicate m 0 ≡ bytes_of (λ p. 0) m
unfolding list_of digits
zero_bytes zero = refl
zero_bytes (suc m) = ap (λ (l : List ℕ). 0 ∷ l) (zero_bytes m)

-- zeros stored
pub zeros_put : (at m : ℕ) (s t : List ℕ) → t ≡ sets s at (replicate m 0) → BitsPut (λ p. 0) m at s t 0
zeros_put at m s t e =
    record { same = e ∙ ap (sets s at) (zero_bytes m); count = sym (sum_none (λ p. 0) (8 * m) (λ p l. refl)) }

-- one word more
pub word_more : (g : ℕ → ℕ) (at : ℕ) (s t u : List ℕ) (j x r q : ℕ) → BitsPut g (8 * j) at s t r → u ≡ sets t (at + 8 * j) (le 8 x)
    → ((p : ℕ) → p < 64 → bit x p ≡ g (64 * j + p)) → q ≡ ones (bit x) 64 → BitsPut g (8 * (j + 1)) at s u (r + q)
word_more g at s t u j x r q w e same c =
    let place : (p : ℕ) → 64 * j + p ≡ 8 * (8 * j) + p = λ p. omega arith in
    bits_more g at s t u (8 * j) 8 (8 * (j + 1)) r q w
    (bits_word (λ p. g (8 * (8 * j) + p)) (at + 8 * j) t u x q e (λ p l. same p l ∙ ap g (place p)) c) (omega arith)

-- ---- a superblock stored and counted block by block
pub record Blocks (K : Kind) (g : ℕ → ℕ) (at : ℕ) (s t counts : List ℕ) (sum j : ℕ) : Type 0 where
  pub put : BitsPut g (64 * j) at s t sum
  pub counting : Counting K g counts sum j

module _ (K : Kind) (g : ℕ → ℕ) (at : ℕ) (s : List ℕ) where
  -- nothing is stored yet
  pub blocks_none : (counts : List ℕ) → length counts ≡ superblock_blocks K → Blocks K g at s s counts 0 0
  blocks_none counts h = record { put = bits_none g at s; counting = counting_none K g counts h }

  -- one block more
  pub blocks_more : (t u counts : List ℕ) (sum j q : ℕ) → Blocks K g at s t counts sum j → j < superblock_blocks K
      → BitsPut (λ p. g (8 * (64 * j) + p)) 64 (at + 64 * j) t u q → Blocks K g at s u (set counts j (sum + q)) (sum + q) (j + 1)
  blocks_more t u counts sum j q x h b =
      let put : BitsPut g (64 * (j + 1)) at s u (sum + q) = bits_more g at s t u (64 * j) 64 (64 * (j + 1)) sum q x.put b (omega arith) in
      let whole : 8 * (64 * (j + 1)) ≡ 512 * (j + 1) = omega arith in
      record { put = put; counting = counting_more K g counts sum j (sum + q) x.counting h (put.count ∙ ap (ones g) whole) }

-- ---- a superblock stored: its bits, then its entry
pub superblock_stored : (K : Kind) → KindFits K → (g : ℕ → ℕ) (to : Target) (s t u counts : List ℕ) (v last : ℕ) → to.entry + K.entry_bytes ≤ to.bits
    → CountedPut K g to.bits s t counts → v ≡ K.entry g to.before → u ≡ sets t to.entry (le K.entry_bytes v) → last + 1 ≡ superblock_blocks K
    → SuperblockPut K g to s u (to.before + get_or counts last 0)
superblock_stored K F g to s t u counts v last far put is h e =
    let E : List ℕ = le K.entry_bytes (K.entry g to.before) in
    record {
      same =
          h
          ∙ ap₂ (λ (l : List ℕ) (x : ℕ). sets l to.entry (le K.entry_bytes x)) put.same is
          ∙ sets_comm E (bytes_of g (superblock_bytes K)) s to.entry to.bits (omega (arith, length_le K.entry_bytes (K.entry g to.before)));
      count = ap (λ (x : ℕ). to.before + x) (counts_all K F g counts put.counted last e);
    }

-- ---- superblocks stored one after another
module _ (K : Kind) (f : ℕ → ℕ) (a b : ℕ) (s : List ℕ) where
  -- nothing is stored yet
  pub row_none : RowPut K f 0 a b s s 0
  unfolding entries_from list_of
  row_none =
      let z : superblock_bytes K * 0 ≡ 0 = mul-zero (superblock_bytes K) in
      let y : K.superblock_bits * 0 ≡ 0 = mul-zero K.superblock_bits in
      record { same = ap (λ (n : ℕ). sets s b (bytes_of f n)) (sym z); count = sym (sum_zero f) ∙ ap (ones f) (sym y) }

  -- where superblock e goes, after the entries and the bits of those before it
  abbrev target_of : ℕ → ℕ → Target
  target_of e sum = record { entry = a + K.entry_bytes * e; bits = b + superblock_bytes K * e; before = sum }

  -- one superblock more
  pub row_more : KindFits K → (e : ℕ) (t u : List ℕ) (sum r : ℕ) → RowPut K f e a b s t sum
      → SuperblockPut K (λ p. f (K.superblock_bits * e + p)) (target_of e sum) t u r → a + K.entry_bytes * (e + 1) ≤ b → RowPut K f (e + 1) a b s u r
  row_more F e t u sum r x y far =
      let bb : ℕ = K.superblock_bits in
      let eb : ℕ = K.entry_bytes in
      let sb : ℕ = superblock_bytes K in
      let g : ℕ → ℕ = λ p. f (bb * e + p) in
      let E : List ℕ = le eb (entry_of K f e) in
      let B : List ℕ = bytes_of g sb in
      let ES : List ℕ = entries_from K f 0 e in
      let BS : List ℕ = bytes_of f (sb * e) in
      let entry : K.entry g sum ≡ entry_of K f e = entry_placed K f e sum x.count in
      let z : 0 + e ≡ e = omega arith in
      let entries : ES ++ E ≡ entries_from K f 0 (e + 1) =
      sym (entries_append K f 0 e 1 ∙ ap (λ (l : List ℕ). ES ++ l) (ap (λ (k : ℕ). entries_from K f k 1) z ∙ entries_one K f e)) in
      let i : sb * e + sb ≡ sb * (e + 1) = sym (times_more sb e) in
      let j : bb * e + bb ≡ bb * (e + 1) = sym (times_more bb e) in
      let k : eb * e + eb ≡ eb * (e + 1) = sym (times_more eb e) in
      let bytes : BS ++ B ≡ bytes_of f (sb * (e + 1)) =
      ap (λ (l : List ℕ). BS ++ l) (bytes_ext g (λ p. f (8 * (sb * e) + p)) sb (λ p l. ap (λ (q : ℕ). f (q + p)) (sym (bytes_all K F e))))
      ∙ sym (bytes_append f (sb * e) sb)
      ∙ ap (bytes_of f) i in
      record {
        same =
            y.same
            ∙ ap₂ (λ (v : ℕ) (l : List ℕ). sets (sets l (a + eb * e) (le eb v)) (b + sb * e) B) entry x.same
            ∙ ap (λ (l : List ℕ). sets l (b + sb * e) B) (sets_comm E BS (sets s a ES) (a + eb * e) b (omega (arith, length_le eb (entry_of K f e), k)))
            ∙ sets_join BS B (sets (sets s a ES) (a + eb * e) E) b (b + sb * e) (omega (arith, length_bytes f (sb * e)))
            ∙ ap₂ (λ (l m : List ℕ). sets l b m)
            (sets_join ES E s a (a + eb * e) (omega (arith, length_entries K f 0 e)) ∙ ap (sets s a) entries) bytes;
        count = omega (arith, x.count, y.count, sum_split f (bb * e) bb, ap (ones f) j);
      }

  -- the length stays
  pub row_length_lem : (k : ℕ) (t : List ℕ) (r : ℕ) → RowPut K f k a b s t r → length t ≡ length s
  row_length_lem k t r x =
      ap length x.same ∙ length-sets (sets s a (entries_from K f 0 k)) b (bytes_of f (superblock_bytes K * k)) ∙ length-sets s a (entries_from K f 0 k)

  -- of bits, there are no more ones than bits
  pub row_le : (k : ℕ) (t : List ℕ) (r : ℕ) → RowPut K f k a b s t r → ((p : ℕ) → f p ≤ 1) → r ≤ K.superblock_bits * k
  row_le k t r x h = omega (arith, x.count, ones_le f (K.superblock_bits * k) h)

-- ---- a record stored: its superblocks first, then the zeros that pad its entries, then its four numbers
-- four numbers side by side
put_four : (s A B C D : List ℕ) (at : ℕ) → length A ≡ 4 → length B ≡ 4 → length C ≡ 4
    → sets (sets (sets (sets s at A) (at + 4) B) (at + 8) C) (at + 12) D ≡ sets s at (A ++ (B ++ (C ++ D)))
put_four s A B C D at a b c =
    sets_join C D (sets (sets s at A) (at + 4) B) (at + 8) (at + 12) (omega arith)
    ∙ sets_join B (C ++ D) (sets s at A) (at + 4) (at + 8) (omega arith)
    ∙ sets_join A (B ++ (C ++ D)) s at (at + 4) (omega arith)

-- entries, then zeros between them and the bits
between : (s es fs bs : List ℕ) (a b c : ℕ) → b ≡ a + length es → c ≡ b + length fs → sets (sets (sets s a es) c bs) b fs ≡ sets s a (es ++ (fs ++ bs))
between s es fs bs a b c eb ec =
    sets_comm fs bs (sets s a es) b c (omega arith)
    ∙ ap (λ (l : List ℕ). sets l c bs) (sets_join es fs s a b eb)
    ∙ sets_join (es ++ fs) bs s a c (omega (arith, length-append es fs))
    ∙ ap (sets s a) (append_assoc es fs bs)

-- the whole record
pub record_stored : (K : Kind) → KindFits K → (t : List ℕ) (n label total at b : ℕ) (s s1 s2 s3 s4 s5 s6 : List ℕ) → length t ≡ n → ((p : ℕ) → cell t p ≤ 1)
    → b ≡ at + bits_start K n → RowPut K (cell t) (superblocks_of K n) (at + head_bytes) b s s1 total
    → s2 ≡ sets s1 (at + head_bytes + entries_bytes K n) (zeros (pad_bytes K n)) → s3 ≡ sets s2 at (le 4 0)
    → s4 ≡ sets s3 (at + 4) (le 4 label) → s5 ≡ sets s4 (at + 8) (le 4 n)
    → s6 ≡ sets s5 (at + 12) (le 4 total) → s6 ≡ sets s at (record_of K 0 label t)
unfolding record_of
record_stored K F t n label total at b s s1 s2 s3 s4 s5 s6 long bits place row h2 h3 h4 h5 h6 =
    let k : ℕ = superblocks_of K n in
    let A : List ℕ = le 4 0 in
    let B : List ℕ = le 4 label in
    let C : List ℕ = le 4 n in
    let D : List ℕ = le 4 total in
    let ES : List ℕ = entries_from K (cell t) 0 k in
    let FS : List ℕ = zeros (pad_bytes K n) in
    let BS : List ℕ = bytes_of (cell t) (superblock_bytes K * k) in
    let X : List ℕ = ES ++ (FS ++ BS) in
    let H : List ℕ = A ++ (B ++ (C ++ D)) in
    let whole : s2 ≡ sets s (at + head_bytes) X =
    h2 ∙ ap (λ (l : List ℕ). sets l (at + head_bytes + entries_bytes K n) FS) row.same
    ∙ between s ES FS BS (at + head_bytes) (at + head_bytes + entries_bytes K n) b (omega (arith, length_entries K (cell t) 0 k))
    (omega (arith, length-replicate {A = ℕ} (pad_bytes K n) 0, pad_ends K n)) in
    let header : length H ≡ head_bytes =
    omega (
      arith,
      length-append A (B ++ (C ++ D)),
      length-append B (C ++ D),
      length-append C D,
      length_le 4 0,
      length_le 4 label,
      length_le 4 n,
      length_le 4 total,
    ) in
    let sum : total ≡ rank t 1 (length t) = row.count ∙ ones_past t (K.superblock_bits * k) (omega (arith, superblocks_cover K F n)) ∙ sym (total_ones t bits) in
    let flat : H ++ X ≡ A ++ (B ++ (C ++ (D ++ X))) = simp append_assoc in
    h6
    ∙ ap (λ (l : List ℕ). sets l (at + 12) D)
    (h5 ∙ ap (λ (l : List ℕ). sets l (at + 8) C) (h4 ∙ ap (λ (l : List ℕ). sets l (at + 4) B) (h3 ∙ ap (λ (l : List ℕ). sets l at A) whole)))
    ∙ put_four (sets s (at + head_bytes) X) A B C D at (length_le 4 0) (length_le 4 label) (length_le 4 n)
    ∙ sets_comm H X s at (at + head_bytes) (omega (arith, header))
    ∙ sets_join H X s at (at + head_bytes) (omega (arith, header))
    ∙ ap (sets s at) flat
    ∙ ap₂ (λ (m c : ℕ). sets s at (A ++ (B ++ (le 4 m ++ (le 4 c ++ (entries_from K (cell t) 0 (superblocks_of K m)
    ++ (zeros (pad_bytes K m) ++ bytes_of (cell t) (superblock_bytes K * superblocks_of K m))))))))
    (sym long) sum

-- ---- the header of an image
-- it has one unit
pub length_header : (K : Kind) (first : ℕ) → length (header_of K first) ≡ unit_bytes
length_header K first =
    omega (
      arith,
      length-append (le 4 first) (le 4 K.number ++ le 8 0),
      length-append (le 4 K.number) (le 8 0),
      length_le 4 first,
      length_le 4 K.number,
      length_le 8 0,
    )

-- its three numbers stored, and the rest as it was
pub header_stored : (K : Kind) (s t u v : List ℕ) (x : ℕ) → unit_bytes ≤ length s → t ≡ sets s 0 (le 4 x) → u ≡ sets t 4 (le 4 K.number)
    → v ≡ sets u 8 (le 8 0)
    → v ≡ header_of K x ++ drop unit_bytes s
header_stored K s t u v x h et eu ev =
    let A : List ℕ = le 4 x in
    let B : List ℕ = le 4 K.number in
    let C : List ℕ = le 8 0 in
    let long : length (A ++ (B ++ C)) ≡ unit_bytes = length_header K x in
    ev ∙ ap (λ (l : List ℕ). sets l 8 C) (eu ∙ ap (λ (l : List ℕ). sets l 4 B) et)
    ∙ sets_join B C (sets s 0 A) 4 8 (omega (arith, length_le 4 K.number))
    ∙ sets_join A (B ++ C) s 0 4 (omega (arith, length_le 4 x))
    ∙ sets_front (A ++ (B ++ C)) s (omega (arith, long))
    ∙ ap (λ (k : ℕ). (A ++ (B ++ C)) ++ drop k s) long

-- The entry of kind 1: from its numbers, what it tells, and its fields read from its two halves. Assumes nothing.
use mathlib.Core.Path.{◌≡◌, sym, ap, ap₂, ◌∙◌, subst}
use mathlib.Core.List.{List}
use Prim.Native.Nat.{ℕ, zero, suc, ◌+◌, ◌-◌, ◌*◌, ◌/◌, ◌%◌, ◌^◌, ◌≤◌, ◌<◌}
use native.Mathlib.Nat.{mod-lt, mod-eq_of_lt, mul-zero, mul-mod_left, div-one, div-eq_of_lt, add-mul-div_left, add-mul-mod_self_left}
use native.Mathlib.Numerals.{add-one}
use native.Mathlib.Omega.{arith}
use lib.Arith as A
use lib.Dec.{lit<}
use lib.ListN.{get_or}
use lib.Pow as P
use lib.Pow.{shl_exact, shl-shr, shr-shr, shr_lt, mod-mod-pow, pow_pos}
use lib.Seq.{sets}
use Rattle.words.specs.Bits.{ones, digits}
use Rattle.words.proofs.Sums.{sum_zero, ones_le}
use Rattle.words.proofs.DigitLaws.{digits_ext, digits_at}
use Rattle.image.specs.Bytes.{num, le}
use Rattle.image.specs.Kinds.{kind1}
use Rattle.image.specs.Layout.{most_row, superblock_blocks, superblocks_of, bits_start}
use Rattle.image.specs.Rows.{Right}
use Rattle.image.specs.Entry.{superblock_field, block_field, entry_told, entry_ones, EntryFits, entry_from, HalvesOf}
use Rattle.image.specs.Writing.{BlockCounts}
use Rattle.image.proofs.KindLaws.{EntryTells, kind1_fits}
use Rattle.image.proofs.NumberLaws.{num_halves}
use Rattle.image.proofs.PutLaws.{put_join}
use Rattle.image.proofs.WriteLaws.{digits_lt}
use Rattle.image.proofs.PartLaws.{Indexed, bits_of, right_indexed}

-- ---- an entry from its numbers
-- the ones of a superblock before one of its blocks fit their 12 bits
pub block_ones_lt : (g : ℕ → ℕ) (j : ℕ) → ((p : ℕ) → g p ≤ 1) → j < 7 → ones g (512 * (j + 1)) < 2 ^ 12
block_ones_lt g j b h = omega (arith, ones_le g (512 * (j + 1)) b)

-- with the ones before the superblock, the ones up to the end of each block fit the fields of an entry
pub counts_fit : (g : ℕ → ℕ) (c : List ℕ) (sum : ℕ) → BlockCounts kind1 g c → ((p : ℕ) → g p ≤ 1) → sum < 2 ^ 44 → EntryFits sum c
counts_fit g c sum h b l =
    record { first = l; long = h.long; others = λ j k. omega (arith, h.ends j (omega arith), block_ones_lt g j b k) }

-- and make the superblock's entry
pub entry_made : (g : ℕ → ℕ) (c : List ℕ) (sum : ℕ) → BlockCounts kind1 g c → entry_from sum c ≡ kind1.entry g sum
entry_made g c sum h =
    ap (λ (d : ℕ). sum + 2 ^ 44 * d) (digits_ext (2 ^ 12) (λ j. get_or c j 0) (λ j. ones g (512 * (j + 1))) 7 (λ j l. h.ends j (omega arith)))

-- seven digits
digits_seven : (b : ℕ) (g : ℕ → ℕ) → digits b g 7 ≡ g 0 + b * (g 1 + b * (g 2 + b * (g 3 + b * (g 4 + b * (g 5 + b * g 6)))))
unfolding digits
digits_seven b g =
    let e : g 6 + b * 0 ≡ g 6 = omega (arith, mul-zero b) in
    ap (λ (x : ℕ). g 0 + b * (g 1 + b * (g 2 + b * (g 3 + b * (g 4 + b * (g 5 + b * x)))))) e

-- the numbers of an entry fit their fields, one by one
pub fields_lt : (sum : ℕ) (c : List ℕ) → EntryFits sum c
    → (sum < 2 ^ 44) × (get_or c 0 0 < 2 ^ 12) × (get_or c 1 0 < 2 ^ 12) × (get_or c 2 0 < 2 ^ 12) × (get_or c 3 0 < 2 ^ 12) × (get_or c 4 0 < 2 ^ 12)
    × (get_or c 5 0 < 2 ^ 12) × (get_or c 6 0 < 2 ^ 12)
fields_lt sum c h =
    let s = h.others in
    (h.first, s 0 (lit< tt), s 1 (lit< tt), s 2 (lit< tt), s 3 (lit< tt), s 4 (lit< tt), s 5 (lit< tt), s 6 (lit< tt))

-- the entry with them in two words: all shifts are exact but that of the second count to bit 56, which leaves its low 8 bits
pub halves_made : (sum : ℕ) (c : List ℕ) → EntryFits sum c
    → HalvesOf (entry_from sum c) (sum + (get_or c 0 0 * 2 ^ 44) % 2 ^ 64 + (get_or c 1 0 * 2 ^ 56) % 2 ^ 64)
    (get_or c 1 0 / 2 ^ 8 + (get_or c 2 0 * 2 ^ 4) % 2 ^ 64 + (get_or c 3 0 * 2 ^ 16) % 2 ^ 64 + (get_or c 4 0 * 2 ^ 28) % 2 ^ 64
    + (get_or c 5 0 * 2 ^ 40) % 2 ^ 64 + (get_or c 6 0 * 2 ^ 52) % 2 ^ 64)
halves_made sum c h =
    record {
      whole =
          rw (
            exact 0 44 (lit< tt) (omega arith),
            split (get_or c 1 0),
            exact 2 4 (lit< tt) (omega arith),
            exact 3 16 (lit< tt) (omega arith),
            exact 4 28 (lit< tt) (omega arith),
            exact 5 40 (lit< tt) (omega arith),
            exact 6 52 (lit< tt) (omega arith),
            digits_seven (2 ^ 12) (λ j. get_or c j 0),
          ) (go sum (get_or c 0 0) (get_or c 1 0) (get_or c 2 0) (get_or c 3 0) (get_or c 4 0) (get_or c 5 0) (get_or c 6 0));
      small = omega (arith, fields_lt sum c h);
    }
  where
    exact : (j k : ℕ) → j < 7 → k ≤ 52 → (get_or c j 0 * 2 ^ k) % 2 ^ 64 ≡ get_or c j 0 * 2 ^ k
    exact j k l m = shl_exact 12 k 64 (h.others j l) (omega arith)

    split : (x : ℕ) → (x * 2 ^ 56) % 2 ^ 64 ≡ x % 2 ^ 8 * 2 ^ 56
    split x = omega arith

    go : (a x0 x1 x2 x3 x4 x5 x6 : ℕ)
        → a + x0 * 2 ^ 44 + x1 % 2 ^ 8 * 2 ^ 56 + 2 ^ 64 * (x1 / 2 ^ 8 + x2 * 2 ^ 4 + x3 * 2 ^ 16 + x4 * 2 ^ 28 + x5 * 2 ^ 40 + x6 * 2 ^ 52)
        ≡ a + 2 ^ 44 * (x0 + 2 ^ 12 * (x1 + 2 ^ 12 * (x2 + 2 ^ 12 * (x3 + 2 ^ 12 * (x4 + 2 ^ 12 * (x5 + 2 ^ 12 * x6))))))
    go a x0 x1 x2 x3 x4 x5 x6 = omega arith

-- ---- what an entry tells
module _ (g : ℕ → ℕ) (before : ℕ) (small : before < 2 ^ 44) where
  -- the ones before its superblock
  entry_superblock : superblock_field (kind1.entry g before) ≡ before
  entry_superblock = add-mul-mod_self_left before (2 ^ 44) (digits (2 ^ 12) (λ j. ones g (512 * (j + 1))) 7) ∙ mod-eq_of_lt small

  module _ (b : (p : ℕ) → g p ≤ 1) where
    -- the ones of its superblock before block j
    entry_block : (j : ℕ) → j < 8 → block_field (kind1.entry g before) j ≡ ones g (512 * j)
    unfolding block_field
    entry_block zero h = sym (sum_zero g)
    entry_block (suc j) h =
        let d : ℕ = digits (2 ^ 12) (λ j. ones g (512 * (j + 1))) 7 in
        let v : ℕ = before + 2 ^ 44 * d in
        let up : v / 2 ^ 44 ≡ d = omega (arith, add-mul-div_left before d (pow_pos 44), div-eq_of_lt small) in
        ap (λ (x : ℕ). x % 2 ^ 12) (sym (shr-shr v 44 (12 * j)))
        ∙ ap (λ (x : ℕ). x / 2 ^ (12 * j) % 2 ^ 12) up
        ∙ digits_at 12 (λ j. ones g (512 * (j + 1))) 7 j (λ i l. block_ones_lt g i b l) (omega arith)
        ∙ ap (λ (i : ℕ). ones g (512 * i)) (add-one j)

    -- it has 128 bits
    entry_lt : kind1.entry g before < 2 ^ 128
    entry_lt =
        go before (digits (2 ^ 12) (λ j. ones g (512 * (j + 1))) 7) small
        (digits_lt (2 ^ 12) (λ j. ones g (512 * (j + 1))) 7 (λ i l. block_ones_lt g i b l))
      where
        go : (a d : ℕ) → a < 2 ^ 44 → d < 2 ^ 84 → a + 2 ^ 44 * d < 2 ^ 128
        go a d h k =
            let e : d * 2 ^ 44 + a ≡ a + 2 ^ 44 * d = omega arith in
            subst (λ (x : ℕ). x < 2 ^ 128) e (A.digits_lt {q = d} {m = 2 ^ 84} {r = a} {c = 2 ^ 44} k h)

-- what is asked of an entry
pub kind1_tells : EntryTells kind1 entry_told
kind1_tells =
    record {
      fits = λ g before b l. entry_lt g before (omega arith) b;
      tells = λ g before j b l h. ap₂ (λ (x y : ℕ). x + y) (entry_superblock g before (omega arith)) (entry_block g before (omega arith) b j h);
    }

-- so of a right row they tell the ones before each block
pub kind1_indexed : (part : List ℕ) (n : ℕ) → n ≤ most_row → Right kind1 part n
    → Indexed part (bits_start kind1 n) (superblock_blocks kind1 * superblocks_of kind1 n) n (bits_of kind1 part n) (entry_ones part)
unfolding entry_ones
kind1_indexed part n short right = right_indexed kind1 part n short right kind1_fits kind1_tells

-- ---- the fields from the two halves of an entry
-- 12 bits of a number from bit b on, of which only the low w are kept
kept : (x w b : ℕ) → b + 12 ≤ w → x % 2 ^ w / 2 ^ b % 2 ^ 12 ≡ x / 2 ^ b % 2 ^ 12
kept x w b l =
    let e : (w - b) + b ≡ w = omega arith in
    let d : (w - b - 12) + 12 ≡ w - b = omega arith in
    ap (λ (i : ℕ). x % 2 ^ i / 2 ^ b % 2 ^ 12) (sym e)
    ∙ ap (λ (y : ℕ). y % 2 ^ 12) (P.field x (w - b) b ∙ ap (λ (i : ℕ). x / 2 ^ b % 2 ^ i) (sym d))
    ∙ mod-mod-pow (x / 2 ^ b) (w - b - 12) 12

-- an entry past its lowest 44 bits
past : (low high : ℕ) → (low + 2 ^ 64 * high) / 2 ^ 44 ≡ low / 2 ^ 44 + 2 ^ 20 * high
past low high =
    let e : 2 ^ 64 * high ≡ 2 ^ 44 * (2 ^ 20 * high) = omega arith in
    ap (λ (x : ℕ). (low + x) / 2 ^ 44) e ∙ add-mul-div_left low (2 ^ 20 * high) (pow_pos 44)

-- 12 zeros, then the entry past its lowest 44 bits, in one word
word : (low high : ℕ) → low < 2 ^ 64
    → (low / 2 ^ 44 * 2 ^ 12) % 2 ^ 64 + (high * 2 ^ 32) % 2 ^ 64 ≡ ((low / 2 ^ 44 + 2 ^ 20 * high) * 2 ^ 12) % 2 ^ 64
word low high l = go (low / 2 ^ 44) high (shr_lt 20 44 l)
  where
    go : (a b : ℕ) → a < 2 ^ 20 → (a * 2 ^ 12) % 2 ^ 64 + (b * 2 ^ 32) % 2 ^ 64 ≡ ((a + 2 ^ 20 * b) * 2 ^ 12) % 2 ^ 64
    go a b q = omega arith

-- blocks 0 to 4 lie in it
pub field_low : (low high j : ℕ) → low < 2 ^ 64 → j < 5
    → ((low / 2 ^ 44 * 2 ^ 12) % 2 ^ 64 + (high * 2 ^ 32) % 2 ^ 64) / 2 ^ (12 * j) % 2 ^ 12 ≡ block_field (low + 2 ^ 64 * high) j
unfolding block_field
field_low low high j l h =
    ap (λ (x : ℕ). x / 2 ^ (12 * j) % 2 ^ 12) (word low high l)
    ∙ kept (w * 2 ^ 12) 64 (12 * j) (omega arith)
    ∙ go j
  where
    w : ℕ
    w = low / 2 ^ 44 + 2 ^ 20 * high

    go : (j : ℕ) → w * 2 ^ 12 / 2 ^ (12 * j) % 2 ^ 12 ≡ block_field (low + 2 ^ 64 * high) j
    go zero = ap (λ (x : ℕ). x % 2 ^ 12) (div-one (w * 2 ^ 12)) ∙ mul-mod_left w (2 ^ 12)
    go (suc j) =
        let v : ℕ = low + 2 ^ 64 * high in
        let e : 12 * suc j ≡ 12 + 12 * j = omega arith in
        ap (λ (x : ℕ). x % 2 ^ 12)
        (ap (λ (i : ℕ). w * 2 ^ 12 / 2 ^ i) e ∙ sym (shr-shr (w * 2 ^ 12) 12 (12 * j)) ∙ ap (λ (x : ℕ). x / 2 ^ (12 * j)) (shl-shr w 12 ∙ sym (past low high))
        ∙ shr-shr v 44 (12 * j))

-- blocks 3 to 7 in the high half
pub field_high : (low high j : ℕ) → low < 2 ^ 64 → 3 ≤ j → high / 2 ^ (12 * j - 32) % 2 ^ 12 ≡ block_field (low + 2 ^ 64 * high) j
unfolding block_field
field_high low high zero l h = absurd (omega arith)
field_high low high (suc j) l h =
    let e : 64 + (12 * suc j - 32) ≡ 44 + 12 * j = omega arith in
    let u : (low + 2 ^ 64 * high) / 2 ^ 64 ≡ high = omega arith in
    sym (ap (λ (x : ℕ). (low + 2 ^ 64 * high) / 2 ^ x % 2 ^ 12) (sym e)
    ∙ ap (λ (x : ℕ). x % 2 ^ 12) (sym (shr-shr (low + 2 ^ 64 * high) 64 (12 * suc j - 32)))
    ∙ ap (λ (x : ℕ). x / 2 ^ (12 * suc j - 32) % 2 ^ 12) u)

-- each has 12 bits
pub block_lt : (v j : ℕ) → block_field v j < 2 ^ 12
unfolding block_field
block_lt v zero = omega arith
block_lt v (suc j) = mod-lt (v / 2 ^ (44 + 12 * j)) (pow_pos 12)

-- the ones before block m, from the two halves: the low 44 bits, and the field
pub entry_ones_is : (s : List ℕ) (m low high r : ℕ) → low ≡ num s (16 + 16 * (m / 8)) 8 → high ≡ num s (16 + 16 * (m / 8) + 8) 8
    → r ≡ block_field (low + 2 ^ 64 * high) (m % 8) → low % 2 ^ 44 + r ≡ entry_ones s m
unfolding entry_ones
entry_ones_is s m low high r l h e =
    let w : 2 ^ 64 * high ≡ 2 ^ 44 * (2 ^ 20 * high) = omega arith in
    let u : low % 2 ^ 44 ≡ superblock_field (low + 2 ^ 64 * high) =
    sym (ap (λ (x : ℕ). (low + x) % 2 ^ 44) w ∙ add-mul-mod_self_left low (2 ^ 44) (2 ^ 20 * high)) in
    ap₂ (λ (x y : ℕ). x + y) u e ∙ ap (λ (x : ℕ). superblock_field x + block_field x (m % 8)) (num_halves s (16 + 16 * (m / 8)) low high l h)

-- their bound
pub entry_ones_lt : (s : List ℕ) (m : ℕ) → entry_ones s m < 2 ^ 44 + 2 ^ 12
unfolding entry_ones
entry_ones_lt s m = go (superblock_field v) (block_field v (m % 8)) (mod-lt v (pow_pos 44)) (block_lt v (m % 8))
  where
    v : ℕ
    v = num s (16 + 16 * (m / 8)) 16

    go : (x y : ℕ) → x < 2 ^ 44 → y < 2 ^ 12 → x + y < 2 ^ 44 + 2 ^ 12
    go x y h k = omega arith

-- ---- an entry of 16 bytes in two halves
-- stored one after the other
pub halves_stored : (s t u : List ℕ) (a v low high : ℕ) → HalvesOf v low high → t ≡ sets s a (le 8 low) → u ≡ sets t (a + 8) (le 8 high)
    → u ≡ sets s a (le 16 v)
halves_stored s t u a v low high h et eu =
    eu ∙ ap (λ (l : List ℕ). sets l (a + 8) (le 8 high)) et ∙ put_join s a 8 8 low high h.small ∙ ap (λ (x : ℕ). sets s a (le 16 x)) h.whole

-- read, they are those of v exactly where the entry is v
module _ (s : List ℕ) (at low high u w v : ℕ) (first : u ≡ num s at 8) (second : w ≡ num s (at + 8) 8) (is : HalvesOf v low high) where
  pub halves_same : u ≡ low → w ≡ high → num s at 16 ≡ v
  halves_same a b = sym (num_halves s at u w first second) ∙ ap₂ (λ (x y : ℕ). x + 2 ^ 64 * y) a b ∙ is.whole

  pub same_halves : u < 2 ^ 64 → num s at 16 ≡ v → (u ≡ low) × (w ≡ high)
  same_halves a e = go u w low high a is.small (num_halves s at u w first second ∙ e ∙ sym is.whole)
    where
      go : (x y i j : ℕ) → x < 2 ^ 64 → i < 2 ^ 64 → x + 2 ^ 64 * y ≡ i + 2 ^ 64 * j → (x ≡ i) × (y ≡ j)
      go x y i j l h k = (omega arith, omega arith)

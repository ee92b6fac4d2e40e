-- What is asked of a kind: of its sizes, of its number and of its entry. Where entries and bits lie in a record of any kind that has it, and the kind of an
-- image. Assumes nothing.
use mathlib.Core.Path.{◌≡◌, refl, sym, ap, ◌∙◌}
use mathlib.Core.Bool.{Bool, true, false, cond, ◌||◌}
use mathlib.Core.List.{List, [], ◌∷◌}
use Prim.Native.Nat.{ℕ, ◌+◌, ◌-◌, ◌*◌, ◌/◌, ◌^◌, ◌≤◌, ◌<◌}
use native.Mathlib.Nat.{mul-add, mul-one, mul-suc, mul_assoc, mul-le-mul_left, lt-mul-div-succ, mul-div-le}
use native.Mathlib.Omega.{arith}
use lib.Dec.{eqb, lit<}
use borrow.Author.Tests.{eq-eqb, ne_eqb, eqb-true, eqb-false}
use Rattle.words.specs.Bits.{ones}
use Rattle.words.specs.Handles.{block_bits}
use Rattle.image.specs.Bytes.{num}
use Rattle.image.specs.Kinds.{Kind, kind1, kinds, kind_among, is_kind}
use Rattle.image.specs.Layout.{unit_bytes, head_bytes, most_row, superblock_blocks, superblock_bytes, superblocks_of, entries_bytes, pad_bytes, bits_start, size_of}
use Rattle.image.specs.Chain.{kind_of}

-- a superblock is of whole blocks, one at least
pub record KindFits (K : Kind) : Type 0 where
  pub whole : block_bits * superblock_blocks K ≡ K.superblock_bits
  pub least : 0 < superblock_blocks K

-- a kind that there is: its number has four bytes, and names it
pub record KindNamed (K : Kind) : Type 0 where
  pub small : K.number < 2 ^ 32
  pub known : is_kind kinds K.number ≡ true
  pub named : kind_among kinds K.number ≡ K

-- an entry fits its bytes, and `told` reads from it the row's ones before each block of its superblock
pub record EntryTells (K : Kind) (told : ℕ → ℕ → ℕ) : Type 0 where
  pub fits : (g : ℕ → ℕ) (before : ℕ) → ((p : ℕ) → g p ≤ 1) → before ≤ most_row → K.entry g before < 256 ^ K.entry_bytes
  pub tells : (g : ℕ → ℕ) (before j : ℕ) → ((p : ℕ) → g p ≤ 1) → before ≤ most_row → j < superblock_blocks K
      → told (K.entry g before) j ≡ before + ones g (block_bits * j)

-- ---- sizes
-- b bits or bytes for each, and for one more
pub times_more : (b e : ℕ) → b * (e + 1) ≡ b * e + b
times_more b e = mul-add b e 1 ∙ ap (λ (x : ℕ). b * e + x) (mul-one b)

module _ (K : Kind) (n : ℕ) where
  -- an entry lies before the zeros that pad the entries
  entry_before_pad : (e : ℕ) → e < superblocks_of K n → K.entry_bytes * e + K.entry_bytes ≤ entries_bytes K n
  entry_before_pad e l = omega (arith, mul-le-mul_left K.entry_bytes l, mul-suc K.entry_bytes e)

  -- these end where the bits start
  pub pad_ends : head_bytes + entries_bytes K n + pad_bytes K n ≡ bits_start K n
  pad_ends = go (entries_bytes K n)
    where
      go : (x : ℕ) → head_bytes + x + (unit_bytes * ((x + (unit_bytes - 1)) / unit_bytes) - x) ≡ head_bytes + unit_bytes * ((x + (unit_bytes - 1)) / unit_bytes)
      go x = omega arith

  -- so an entry ends before the bits
  pub entry_inside : (e : ℕ) → e < superblocks_of K n → head_bytes + K.entry_bytes * e + K.entry_bytes ≤ bits_start K n
  entry_inside e l = omega (arith, entry_before_pad e l, pad_ends)

module _ (K : Kind) (F : KindFits K) where
  -- a superblock has bits
  bits_some : 0 < K.superblock_bits
  bits_some = omega (arith, F.whole, F.least)

  -- eight for each of its bytes
  bytes_bits : 8 * superblock_bytes K ≡ K.superblock_bits
  bytes_bits = omega (arith, F.whole)

  -- so many superblocks, likewise
  pub bytes_all : (e : ℕ) → 8 * (superblock_bytes K * e) ≡ K.superblock_bits * e
  bytes_all e = sym (mul_assoc 8 (superblock_bytes K) e) ∙ ap (λ (x : ℕ). x * e) bytes_bits

  -- and their blocks
  pub blocks_all : (e : ℕ) → block_bits * (superblock_blocks K * e) ≡ K.superblock_bits * e
  blocks_all e = sym (mul_assoc block_bits (superblock_blocks K) e) ∙ ap (λ (x : ℕ). x * e) F.whole

  module _ (n : ℕ) where
    -- the superblocks of n bits hold them
    pub superblocks_cover : n ≤ K.superblock_bits * superblocks_of K n
    superblocks_cover =
        let bb : ℕ = K.superblock_bits in
        omega (arith, lt-mul-div-succ (n + (bb - 1)) bits_some, times_more bb (superblocks_of K n))

    -- each begins before the last of the bits
    pub superblock_begins : (e : ℕ) → e < superblocks_of K n → K.superblock_bits * e < n
    superblock_begins e l =
        let bb : ℕ = K.superblock_bits in
        omega (arith, bits_some, mul-le-mul_left bb l, mul-suc bb e, mul-div-le (n + (bb - 1)) bb)

    -- the first k bytes of bits lie in the record
    pub bytes_inside : (k : ℕ) → 8 * k ≤ K.superblock_bits * superblocks_of K n → bits_start K n + k ≤ size_of K n
    bytes_inside k l = omega (arith, bytes_all (superblocks_of K n))

    -- a record is of whole units
    pub size_units : unit_bytes * (size_of K n / unit_bytes) ≡ size_of K n
    size_units =
        go (superblock_blocks K * superblocks_of K n) (superblock_bytes K * superblocks_of K n) ((entries_bytes K n + (unit_bytes - 1)) / unit_bytes)
        (omega (arith, blocks_all (superblocks_of K n), bytes_all (superblocks_of K n)))
      where
        go : (x y z : ℕ) → y ≡ 64 * x → unit_bytes * ((head_bytes + unit_bytes * z + y) / unit_bytes) ≡ head_bytes + unit_bytes * z + y
        go x y z e = omega arith

-- ---- the kinds that there are
-- kind 1 has what is asked
pub kind1_fits : KindFits kind1
kind1_fits = record { whole = refl; least = lit< tt }

pub kind1_named : KindNamed kind1
unfolding kind_among is_kind
kind1_named = record { small = lit< tt; known = refl; named = refl }

-- nothing is padded in it
pub kind1_unpadded : (n : ℕ) → pad_bytes kind1 n ≡ 0
kind1_unpadded n = omega arith

-- its record has 16 + 528 times E bytes
pub kind1_size : (n : ℕ) → size_of kind1 n ≡ 16 + 528 * superblocks_of kind1 n
kind1_size n = omega arith

-- what each of some kinds has
abbrev Each : (Kind → Type 0) → List Kind → Type 0
Each P [] = Unit {0}
Each P (K ∷ Ks) = P K × Each P Ks

-- and kind 1, the kind of any number among them has
among_each : (P : Kind → Type 0) (Ks : List Kind) → P kind1 → Each P Ks → (n : ℕ) → P (kind_among Ks n)
unfolding kind_among
among_each P [] one each n = one
among_each P (K ∷ Ks) one each n = go (eqb K.number n) (among_each P Ks one each.1 n)
  where
    go : (t : Bool) → P (kind_among Ks n) → P (cond t K (kind_among Ks n))
    go true later = each.0
    go false later = later

-- an image is of a kind that has what is asked
pub image_fits : (s : List ℕ) → KindFits (kind_of s)
unfolding kind_of
image_fits s = among_each KindFits kinds kind1_fits (kind1_fits, tt) (num s 4 4)

-- and that its own number names
pub image_named : (s : List ℕ) → KindNamed (kind_of s)
unfolding kind_of
image_named s = among_each KindNamed kinds kind1_named (kind1_named, tt) (num s 4 4)

-- images with the same number in the header are of one kind
pub same_kind : (s t : List ℕ) → num t 4 4 ≡ num s 4 4 → kind_of t ≡ kind_of s
unfolding kind_of
same_kind s t e = ap (kind_among kinds) e

-- with the number of a kind that there is, of that kind
pub named_kind : (K : Kind) → KindNamed K → (s : List ℕ) → num s 4 4 ≡ K.number → kind_of s ≡ K
unfolding kind_of
named_kind K N s e = ap (kind_among kinds) e ∙ N.named

-- ---- one kind, for the code, which has no other
-- every image is of kind 1
pub one_kind : (s : List ℕ) → kind_of s ≡ kind1
unfolding kind_of
one_kind s = among_each (λ (K : Kind). K ≡ kind1) kinds refl (refl, tt) (num s 4 4)

-- and a number is known where it is 1
pub one_number : (n : ℕ) → is_kind kinds n ≡ eqb n kind1.number
unfolding is_kind
one_number n = go (eqb n kind1.number) refl
  where
    go : (t : Bool) → eqb n kind1.number ≡ t → (eqb kind1.number n || false) ≡ t
    go true p = simp (eq-eqb kind1.number n (sym (eqb-true n kind1.number p)))
    go false p = simp (ne_eqb kind1.number n (λ e. eqb-false n kind1.number p (sym e)))

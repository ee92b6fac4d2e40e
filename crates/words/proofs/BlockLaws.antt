-- The ones of a block below a position, word by word; a block of a list of words. Assumes nothing.
use Rattle.std.proofs.Common.{◌≡◌, ℕ, zero, suc, ◌+◌, ◌-◌, ◌*◌, ◌^◌, ◌<◌, ◌≤◌, min, ◌⊎◌, List, [], get_or, take, drop, sym, ap, ◌∙◌, ap₂, inl, inr, arith, mul-suc, drop-drop}
use Rattle.std.specs.Simd.{first_chunks}
use lib.Bits.{bit_and}
use Rattle.words.specs.Bits.{bit, bit_at, ones}
use Rattle.words.proofs.Sums.{lt_or, sum_zero}
use Rattle.words.proofs.BitLaws.{masked_ones}
use Rattle.words.proofs.WordLaws.{word_ones}

-- of the positions below m, those of one more word
pub masked_word : (ws : List ℕ) (m j : ℕ)
    → ones (bit_at ws) (min (64 * j) m) + ones (bit (bit_and (get_or ws j 0) (2 ^ min 64 (m - 64 * j) - 1))) 64 ≡ ones (bit_at ws) (min (64 * (j + 1)) m)
masked_word ws m j = go (lt_or (64 * j) m)
  where
    i : ℕ
    i = min 64 (m - 64 * j)

    left : ones (bit (bit_and (get_or ws j 0) (2 ^ i - 1))) 64 ≡ ones (bit (get_or ws j 0)) i
    left = masked_ones (get_or ws j 0) i (omega arith)

    go : (64 * j < m) ⊎ (m ≤ 64 * j)
        → ones (bit_at ws) (min (64 * j) m) + ones (bit (bit_and (get_or ws j 0) (2 ^ i - 1))) 64 ≡ ones (bit_at ws) (min (64 * (j + 1)) m)
    go (inl l) =
        let a : min (64 * j) m ≡ 64 * j = omega arith in
        let e : 64 * j + i ≡ min (64 * (j + 1)) m = omega arith in
        ap₂ (λ (x y : ℕ). x + y) (ap (ones (bit_at ws)) a) left ∙ sym (word_ones ws j i (omega arith)) ∙ ap (ones (bit_at ws)) e
    go (inr l) =
        let z : i ≡ 0 = omega arith in
        let e : min (64 * j) m ≡ min (64 * (j + 1)) m = omega arith in
        omega (arith, left, ap (ones (bit (get_or ws j 0))) z, sum_zero (bit (get_or ws j 0)), ap (ones (bit_at ws)) e)

-- block b of a list cut into chunks
pub chunk_at : {X : Type 0} (n k b : ℕ) (xs : List X) → b < k → get_or (first_chunks n k xs) b [] ≡ take n (drop (n * b) xs)
chunk_at n zero b xs l = absurd (omega arith)
chunk_at n (suc k) zero xs l = let e : 0 ≡ n * 0 = omega arith in ap (λ (m : ℕ). take n (drop m xs)) e
chunk_at n (suc k) (suc b) xs l =
    let e : n + n * b ≡ n * suc b = omega (arith, mul-suc n b) in
    chunk_at n k b (drop n xs) (omega arith) ∙ ap (take n) (drop-drop (n * b) n xs ∙ ap (λ (m : ℕ). drop m xs) e)

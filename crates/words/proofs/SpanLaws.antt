-- The ones of a span of a strip, and of a list of words. Assumes nothing.
use Rattle.std.proofs.Common.{◌≡◌, ℕ, ◌+◌, ◌-◌, ◌≤◌, min, List, length, ap, ◌∙◌, add-sub_of_le, arith}
use Rattle.words.specs.Bits.{bit_at, ones}
use Rattle.words.specs.Strip.{cell, strip_of, rank_of, rank, span_ones}
use Rattle.words.proofs.Sums.{ones_le, sum_split}
use Rattle.words.proofs.WordLaws.{bit_at_le}
use Rattle.words.proofs.SearchLaws.{rank_ones}
use Rattle.words.proofs.StripLaws.{strip_length, strip_le, strip_rank}

-- its ones and those before it are the ones before its end
pub span_rank : (s : List ℕ) (a b : ℕ) → ((p : ℕ) → cell s p ≤ 1) → a ≤ b → b ≤ length s → rank s 1 a + span_ones s a b ≡ rank s 1 b
span_rank s a b bits la lb =
    let m : a + (b - a) ≡ b = add-sub_of_le la in
    let before : (i : ℕ) → i ≤ length s → rank s 1 i ≡ ones (cell s) i =
    (λ i l. let e : min i (length s) ≡ i = omega arith in ap (rank_of (cell s) 1) e ∙ rank_ones (cell s) i bits) in
    let split : ones (cell s) b ≡ ones (cell s) a + span_ones s a b = rw m at (sum_split (cell s) a (b - a)) in
    omega (arith, before a (omega arith), before b lb, split)

-- no more than its positions
pub span_le : (s : List ℕ) (a b : ℕ) → ((p : ℕ) → cell s p ≤ 1) → span_ones s a b ≤ b - a
span_le s a b bits = ones_le (λ p. cell s (a + p)) (b - a) (λ p. bits (a + p))

-- counted in words
pub span_words : (ws : List ℕ) (n a b : ℕ) → a ≤ b → b ≤ n → ones (bit_at ws) a + span_ones (strip_of ws n) a b ≡ ones (bit_at ws) b
span_words ws n a b la lb =
    let before : (i : ℕ) → i ≤ n → rank (strip_of ws n) 1 i ≡ ones (bit_at ws) i =
    (λ i l. strip_rank ws n 1 i l ∙ rank_ones (bit_at ws) i (bit_at_le ws)) in
    omega (arith, before a (omega arith), before b lb, span_rank (strip_of ws n) a b (strip_le ws n) la (omega (arith, strip_length ws n)))

-- a count of them is at most any bound on the span's end
pub span_counted : (ws : List ℕ) (a b e m : ℕ) → b ≤ m → ones (bit_at ws) a + e ≡ ones (bit_at ws) b → (e ≤ m) × (ones (bit_at ws) a + e ≡ ones (bit_at ws) b)
span_counted ws a b e m l h = (omega (arith, ones_le (bit_at ws) b (bit_at_le ws)), h)

-- Strips in order, cell by cell: a strip with more ones counts no fewer before any position, and has its k-th one no later. Assumes nothing.
use mathlib.Core.Path.{◌≡◌, refl}
use mathlib.Core.Option.{Option, some, none}
use Prim.Native.Nat.{ℕ, suc, ◌≤◌, ◌<◌}
use native.Mathlib.Omega.{arith}
use Rattle.words.specs.Strip.{holds, rank_of, select_of}
use Rattle.words.proofs.Sums.{sum_suc, sum_le}
use Rattle.words.proofs.WordLaws.{holds_one, holds_yes}
use Rattle.words.proofs.CheckLaws.{not_both}
use Rattle.words.proofs.SearchLaws.{KthAt, place_exists, select_at, select_place}

-- the bits f are no more than the bits g, position by position below n
pub record Under (f g : ℕ → ℕ) (n : ℕ) : Type 0 where
  pub le : (p : ℕ) → p < n → f p ≤ g p
  pub bits : (p : ℕ) → p < n → g p ≤ 1

-- so they count no more
pub rank_under : (f g : ℕ → ℕ) (n i : ℕ) → Under f g n → i ≤ n → rank_of f 1 i ≤ rank_of g 1 i
rank_under f g n i u h =
    sum_le (holds f 1) (holds g 1) i (λ p l.
    let q : p < n = omega arith in
    omega (arith, holds_one f p (omega (arith, u.le p q, u.bits p q)), holds_one g p (u.bits p q), u.le p q))

-- and where f has a k-th one, g has its k-th no later
pub select_under : (f g : ℕ → ℕ) (n k p : ℕ) → Under f g n → select_of f n 1 k ≡ some p → (q : ℕ) × (select_of g n 1 k ≡ some q) × (q ≤ p)
select_under f g n k p u e =
    let w : KthAt f n 1 k p = select_place f n 1 k p e in
    let l : p < n = w.below in
    let more = rank_under f g n (suc p) u (omega arith) in
    let x = place_exists g (suc p) 1 k (omega (arith, more, sum_suc (holds f 1) p, holds_yes f 1 p w.held, w.rank)) in
    let b : x.0 < suc p = x.1.below in
    (x.0, select_at g n 1 k x.0 (record { below = omega arith; held = x.1.held; rank = x.1.rank }), omega arith)

-- where g has none, f has none
pub none_under : (f g : ℕ → ℕ) (n k : ℕ) → Under f g n → select_of g n 1 k ≡ none → select_of f n 1 k ≡ none
none_under f g n k u e = go (select_of f n 1 k) refl
  where
    go : (r : Option ℕ) → select_of f n 1 k ≡ r → r ≡ none
    go none h = refl
    go (some p) h = not_both (select_under f g n k p u h).1 e

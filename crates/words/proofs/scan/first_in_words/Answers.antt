-- `words::scan::first_in_words` meets its contract: the lowest one of the first word that has one. Assumes nothing.
use Rattle.std.proofs.Common.{ℕ, ◌+◌, ◌*◌, refl, inl, inr, arith}
use Rattle.words.specs.Bits.{bit_at}
use Rattle.words.specs.Strip.{as_bit}
use Rattle.words.proofs.Sums.{lt_or}
use Rattle.words.proofs.ScanLaws.{marked_word, marked_first}
use Rattle.words.proofs.scan.first_in_words.Goals as goal

pub returns-in-Some : goal.returns-in-Some
returns-in-Some c =
    let ws = c.args.words.now in
    let v : ℕ = as_bit c.args.v in
    let j : ℕ = c.loop-j.j in
    let x : ℕ = c.matches.result in
    let low = c.in-Some in
    let o = marked_first (bit_at ws) v (64 * j) (64 * j) (64 * (j + 1)) x (marked_word ws j (j + 1) v x refl c.matches.ensures) low.i low.ensures.1 low.ensures.0 in (
      record {
        start = omega arith;
        within = omega (arith, low.ensures.1);
        clear = (λ p l u e. elim (lt_or p (64 * j)) [ inl q ↦ c.loop-j.invariant.2 p l q e | inr q ↦ o.clear p q u e ]);
        hit = (λ l. o.hit (omega (arith, low.ensures.1)));
      },
      omega (arith, low.ensures.1),
    )

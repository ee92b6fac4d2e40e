-- `words::scan::first_from` meets its contract: the word of i with its bits below i cleared, then the words after it. Assumes nothing.
use Rattle.std.proofs.Common.{◌≡◌, ℕ, ◌+◌, ◌*◌, ◌/◌, ◌%◌, ◌≤◌, sym, ap, refl, ◌∙◌, zero-le, arith, rules}
use Rattle.words.specs.Bits.{bit, bit_at}
use Rattle.words.specs.Strip.{as_bit}
use Rattle.words.proofs.ScanLaws.{Marked, marked_word, marked_first}
use Rattle.words.proofs.scan.first_from.Goals as goal
use Rattle.words.proofs.scan.first_from.Goals.{After-put_range-x, in-Some, in-None+in_ok-p-in-None}

-- the ones of x are the places of v in the word of i, from i on
marked : (c : After-put_range-x)
    → Marked (bit_at c.args.words.now) (as_bit c.args.v) (64 * (c.args.i / 64)) c.args.i (64 * (c.args.i / 64 + 1)) c.put_range-x.result
marked c =
    let s = c.args in
    let j : ℕ = s.i / 64 in
    let w = c.put_range-x.ensures in
    let m = marked_word s.words.now j (j + 1) (as_bit s.v) c.matches.result refl c.matches.ensures in
    let from : (p : ℕ) → bit c.put_range-x.result p ≡ 1 → s.i % 64 ≤ p = (λ p b. grind (arith, w.inside p zero-le)) in
    record {
      start = omega arith;
      end = omega arith;
      above = (λ p l b. omega (arith, from p b));
      below = (λ p l b. omega arith);
      held = (λ p l b. m.held p l (sym (w.over p (from p b)) ∙ b));
      every = (λ p l u b. w.over p (omega arith) ∙ m.every p (omega arith) u b);
    }

pub returns-then-p-n : goal.returns-then-p-n
returns-then-p-n c =
    let s = c.args in
    let f : ℕ → ℕ = bit_at s.words.now in
    let j : ℕ = s.i / 64 in
    elim c.match-lowest_one.branch [
      | in-Some w ↦
          let low = w.in-Some in
          let o = marked_first f (as_bit s.v) (64 * j) s.i (64 * (j + 1)) c.put_range-x.result (marked (goal.at.returns-then-p-n c).After-put_range-x) low.low
          low.ensures.1 low.ensures.0 in (
            record {
              start = omega (arith, o.start, w.p-is);
              within = omega arith;
              clear = (λ p l u. o.clear p l (omega (arith, w.p-is)));
              hit = (λ l. ap f w.p-is ∙ o.hit (omega (arith, low.ensures.1)));
            },
            c.if-p-n.true,
          )
      | in-None+in_ok-p-in-None w ↦ search rules
    ]

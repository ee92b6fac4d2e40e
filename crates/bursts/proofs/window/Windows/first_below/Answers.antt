-- `bursts::window::Windows::first_below` meets its contract: the starts of whole words, then those of the last word with a start. Assumes nothing.
use Rattle.std.proofs.Common.{ℕ, ◌-◌, ◌*◌, ◌/◌, ◌%◌, get_or, sym, arith}
use Rattle.words.proofs.WordLaws.{word_bit}
use Rattle.bursts.proofs.WindowLaws.{holds_le, below_found, last_start, last_none}
use Rattle.bursts.proofs.window.Windows.first_below.Goals as goal

pub returns-in-Break : goal.returns-in-Break
returns-in-Break c =
    let s = c.args.self in
    below_found s.words.now c.args.n s.w s.m (64 * ((c.args.n - s.w) / 64)) c.in-Break.start (omega arith) c.in-Break.ensures

pub bounded_start-requires : goal.bounded_start-requires
bounded_start-requires c =
    let s = c.args.self in
    (omega arith, omega (arith, holds_le s.words.now s.w (64 * ((c.args.n - s.w) / 64)) c.in-Continue.count c.in-Continue.ensures.holds), omega arith)

pub returns-in_err-d : goal.returns-in_err-d
returns-in_err-d c =
    let s = c.args.self in
    let ws = s.words.now in
    let n = c.args.n in
    let to : ℕ = (n - s.w) / 64 in
    rw c.from_residual.ensures
    (last_none ws n s.w s.m (64 * to) ((n - s.w) % 64) c.in-Continue.count (get_or ws to 0) c.entering_below-e.result (omega arith) (omega arith)
    c.in-Continue.ensures (λ q l. sym (word_bit ws to q l)) c.entering_below-e.ensures c.in_err-d.ensures)

pub returns : goal.returns
returns c =
    let s = c.args.self in
    let ws = s.words.now in
    let n = c.args.n in
    let to : ℕ = (n - s.w) / 64 in
    last_start ws n s.w s.m (64 * to) ((n - s.w) % 64) c.in-Continue.count (get_or ws to 0) c.entering_below-e.result (omega arith) (omega arith)
    c.in-Continue.ensures (λ q l. sym (word_bit ws to q l)) c.entering_below-e.ensures c.in_ok-d.d c.in_ok-d.ensures

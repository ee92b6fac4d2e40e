-- `bursts::window::Windows::start_in_word` meets its contract: the word's bound rules its starts out, or they are tried. Assumes nothing.
use Rattle.std.proofs.Common.{◌+◌, ◌*◌, get_or, sym, arith}
use Rattle.words.proofs.WordLaws.{word_bit}
use Rattle.bursts.proofs.WindowLaws.{holds_le, word_short, word_tried, word_none}
use Rattle.bursts.proofs.window.Windows.start_in_word.Goals as goal

pub returns-then-most-self : goal.returns-then-most-self
returns-then-most-self c =
    let s = c.args.self in
    let j = c.args.j in
    word_short s.words.now s.w s.m (64 * j) (64 * (j + 1)) (omega arith) c.args.most c.requires.3 c.if-most-self.true

pub first_start-requires : goal.first_start-requires
first_start-requires c =
    let s = c.args.self in
    (omega arith, omega (arith, holds_le s.words.now s.w (64 * c.args.j) c.args.c c.requires.2), omega arith)

pub returns-in_err-d : goal.returns-in_err-d
returns-in_err-d c =
    let s = c.args.self in
    let ws = s.words.now in
    let j = c.args.j in
    rw c.from_residual.ensures
    (word_none ws s.w s.m (64 * j) (64 * (j + 1)) (omega arith) c.args.c (get_or ws j 0) c.entering.result c.requires.2 (λ p l. sym (word_bit ws j p l))
    c.entering.ensures c.in_err-d.ensures)

pub returns : goal.returns
returns c =
    let s = c.args.self in
    let ws = s.words.now in
    let j = c.args.j in
    word_tried ws s.w s.m (64 * j) (64 * (j + 1)) (omega arith) c.args.c (get_or ws j 0) c.entering.result c.requires.2 (λ p l. sym (word_bit ws j p l))
    c.entering.ensures c.in_ok-d.d c.in_ok-d.ensures

-- `words::fill::put_positions` meets its contract: the first word, the words between and the last are three ranges that meet. Assumes nothing.
use Rattle.std.proofs.Common.{ℕ, ◌+◌, ◌-◌, ◌*◌, ◌/◌, ◌%◌, arith}
use Rattle.words.specs.Strip.{as_bit}
use Rattle.words.proofs.FillLaws.{put_ends, put_join}
use Rattle.words.proofs.fill.put_positions.Goals as goal

pub returns : goal.returns
returns c =
    let s = c.args in
    let ws = s.words.now in
    let v : ℕ = as_bit s.v in
    let first : ℕ = s.a / 64 in
    let last : ℕ = (s.e - 1) / 64 in
    let x = put_ends ws c.put_in_word-2.new.words (64 * first + s.a % 64) s.a (64 * first + 64) (64 * (first + 1)) v (omega arith) (omega arith)
    c.put_in_word-2.ensures in
    let z = put_ends c.fill_words.new.words c.put_in_word-3.new.words (64 * last + 0) (64 * last) (64 * last + ((s.e - 1) % 64 + 1)) s.e v (omega arith)
    (omega arith) c.put_in_word-3.ensures in
    put_join ws c.fill_words.new.words c.put_in_word-3.new.words s.a (64 * last) s.e v (omega arith) (omega arith)
    (put_join ws c.put_in_word-2.new.words c.fill_words.new.words s.a (64 * (first + 1)) (64 * last) v (omega arith) (omega arith) x
    c.fill_words.ensures) z

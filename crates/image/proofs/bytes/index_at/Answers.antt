-- `image::bytes::index_at` meets its contract. Assumes nothing.
use Rattle.std.proofs.Common.{◌≡◌, ◌+◌, ◌-◌, take, drop, ◌∙◌, rules, arith}
use Rattle.image.proofs.NumberLaws.{number_of_4, num_part}
use Rattle.image.proofs.bytes.index_at.Goals as goal

pub returns : goal.returns
returns c =
    let a = c.args in
    let part : c.unwrap.result ≡ take (a.at + 4 - a.at) (drop a.at a.s.now) = search (rules, c.unwrap.ensures) in
    (c.from_le_bytes.ensures ∙ number_of_4 c.unwrap.result ∙ num_part a.s.now c.unwrap.result a.at 4 _ part (omega arith), c.from_le_bytes.type_inv)

-- `image::bytes::u64_at` meets its contract. Assumes nothing.
use Rattle.std.proofs.Common.{◌≡◌, ℕ, ◌+◌, ◌-◌, take, drop, ap, ◌∙◌, get_or, rules, arith}
use Rattle.words.specs.Bits.{bit}
use Rattle.image.specs.Bytes.{num}
use Rattle.image.proofs.NumberLaws.{number_of_8, num_part, bytes_bit}
use Rattle.image.proofs.bytes.u64_at.Goals as goal
use Rattle.image.proofs.bytes.u64_at.Goals.{After-from_le_bytes}

-- the number
whole : (c : After-from_le_bytes) → c.from_le_bytes.result ≡ num c.args.s.now c.args.at 8
whole c =
    let a = c.args in
    let part : c.unwrap.result ≡ take (a.at + 8 - a.at) (drop a.at a.s.now) = search (rules, c.unwrap.ensures) in
    c.from_le_bytes.ensures ∙ number_of_8 c.unwrap.result ∙ num_part a.s.now c.unwrap.result a.at 8 _ part (omega arith)

pub returns : goal.returns
returns c =
    let a = c.args in
    let e = whole c in
    (e, λ p l. ap (λ (x : ℕ). bit x p) e ∙ bytes_bit (λ i. get_or a.s.now (a.at + i) 0) 8 p (λ i q. omega (arith, c.type_inv.s (a.at + i))) l)

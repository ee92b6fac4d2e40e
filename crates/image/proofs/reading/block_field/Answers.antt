-- `image::reading::block_field` meets its contract. Assumes nothing.
use mathlib.Core.Path.{◌≡◌, sym, subst}
use Prim.Native.Nat.{ℕ, ◌+◌, ◌*◌, ◌^◌, ◌<◌}
use native.Mathlib.Omega.{arith}
use Rattle.image.specs.Entry.{block_field}
use Rattle.image.proofs.EntryLaws.{block_lt, field_low, field_high}
use Rattle.image.proofs.reading.block_field.Goals as goal

-- a field, and its bound
field : (v j r : ℕ) → r ≡ block_field v j → (r ≡ block_field v j) × (r < 2 ^ 12)
field v j r e = (e, subst (λ (x : ℕ). x < 2 ^ 12) (sym e) (block_lt v j))

pub returns-then-j-lt5 : goal.returns-then-j-lt5
returns-then-j-lt5 c =
    let a = c.args in
    field (a.low + 2 ^ 64 * a.high) a.j _ (field_low a.low a.high a.j (omega arith) (omega arith))

pub returns : goal.returns
returns c =
    let a = c.args in
    field (a.low + 2 ^ 64 * a.high) a.j _ (field_high a.low a.high a.j (omega arith) (omega arith))

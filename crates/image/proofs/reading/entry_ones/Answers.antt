-- `image::reading::entry_ones` meets its contract. Assumes nothing.
use mathlib.Core.Path.{◌≡◌, sym, subst}
use Prim.Native.Nat.{ℕ, ◌+◌, ◌%◌, ◌^◌, ◌<◌}
use Rattle.image.specs.Entry.{entry_ones}
use Rattle.image.proofs.EntryLaws.{entry_ones_is, entry_ones_lt}
use Rattle.image.proofs.reading.entry_ones.Goals as goal

pub returns : goal.returns
returns c =
    let a = c.args in
    let low = c.u64_at-low in
    let high = c.u64_at-high in
    let e : low.result % 2 ^ 44 + c.block_field.result ≡ entry_ones a.part.now a.m =
    entry_ones_is a.part.now a.m low.result high.result c.block_field.result low.ensures.0 high.ensures.0
    c.block_field.ensures.0 in
    (e, subst (λ (x : ℕ). x < 2 ^ 44 + 2 ^ 12) (sym e) (entry_ones_lt a.part.now a.m))

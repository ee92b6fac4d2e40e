-- `image::fields::record_end` meets its contract: the one kind's size is that of the image's kind. Assumes nothing.
use mathlib.Core.Path.{sym, ap, ap₂, ◌∙◌}
use Prim.Native.Nat.{ℕ, ◌+◌}
use Rattle.image.specs.Layout.{size_of}
use Rattle.image.proofs.KindLaws.{one_kind}
use Rattle.image.proofs.fields.record_end.Goals as goal

pub returns : goal.returns
returns c =
    let a = c.args in
    ap (λ (n : ℕ). a.at + n) (c.record_size.ensures ∙ ap₂ size_of (sym (one_kind a.image.now)) c.length_at.ensures.0)

-- `image::write::write_superblock` meets its contract. Assumes nothing.
use mathlib.Core.Path.{refl}
use Prim.Native.Nat.{◌+◌, ◌*◌}
use native.Mathlib.Omega.{arith}
use lib.Dec.{lit<}
use Rattle.words.specs.Strip.{strip_of}
use Rattle.words.proofs.Sums.{ones_le}
use Rattle.words.proofs.StripLaws.{strip_le}
use Rattle.image.specs.Kinds.{kind1}
use Rattle.image.specs.Writing.{superblock_cells}
use Rattle.image.proofs.KindLaws.{kind1_fits}
use Rattle.image.proofs.EntryLaws.{counts_fit, entry_made, halves_stored}
use Rattle.image.proofs.WriteLaws.{superblock_stored}
use Rattle.image.proofs.write.write_superblock.Goals as goal

pub entry_halves-halves-requires : goal.entry_halves-halves-requires
entry_halves-halves-requires c =
    let a = c.args in
    let put = c.put_superblock-counts.ensures in
    counts_fit (superblock_cells kind1 (strip_of a.words.now a.n) a.e) _ _ put.counted (λ p. strip_le a.words.now a.n (4096 * a.e + p))
    (omega arith)

pub overflow_add-result : goal.overflow_add-result
overflow_add-result c =
    let a = c.args in
    omega (
      arith,
      c.put_superblock-counts.ensures.counted.ends 7 (lit< tt),
      ones_le (superblock_cells kind1 (strip_of a.words.now a.n) a.e) 4096 (λ p. strip_le a.words.now a.n (4096 * a.e + p)),
    )

pub returns : goal.returns
returns c =
    let a = c.args in
    let put = c.put_superblock-counts in
    superblock_stored kind1 kind1_fits (superblock_cells kind1 (strip_of a.words.now a.n) a.e) a.to a.image.now put.new.bytes
    c.put_word-2.new.s
    put.result _ 7 c.requires.0.0 put.ensures (entry_made _ _ _ put.ensures.counted)
    (halves_stored put.new.bytes c.put_word.new.s _ _ _ _ _ c.entry_halves-halves.ensures c.put_word.ensures c.put_word-2.ensures) refl

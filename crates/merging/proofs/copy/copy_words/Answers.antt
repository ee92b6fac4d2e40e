-- `merging::copy::copy_words` meets its contract. The invariant: what is still to be stored makes the whole. Assumes nothing.
use Rattle.std.proofs.Common.{arith}
use Rattle.merging.proofs.CopyLaws.{copying_word}
use Rattle.merging.proofs.copy.copy_words.Goals as goal

pub loop-i-preserved : goal.loop-i-preserved
loop-i-preserved c =
    copying_word c.loop-i.invariant c.loop-i-test.true (λ j. omega (arith, c.type_inv.b j)) c.u64_at.ensures.0 c.put_word.ensures

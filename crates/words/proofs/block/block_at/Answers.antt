-- `words::block::block_at` meets its contract: that chunk of the words. Assumes nothing.
use Rattle.std.proofs.Common.{ℕ, ◌/◌, List, [], length, get_or, ap, ◌∙◌, arith}
use Rattle.words.proofs.BlockLaws.{chunk_at}
use Rattle.words.proofs.block.block_at.Goals as goal

pub returns : goal.returns
returns c =
    let ws = c.args.words.now in
    ap (λ (bs : List (List ℕ)). get_or bs c.args.b []) c.as_chunks.ensures.front ∙ chunk_at 8 (length ws / 8) c.args.b ws (omega arith)

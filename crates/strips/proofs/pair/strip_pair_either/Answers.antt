-- `strips::pair::strip_pair_either` meets its contract. Assumes nothing.
use Rattle.std.proofs.Common.{ℕ, List}
use Rattle.words.specs.declared.handle.Handle.{Handle}
use Rattle.pairs.specs.Rules.{either}
use Rattle.pairs.specs.Calls.{pair_rank_told}
use Rattle.strips.proofs.ExportLaws.{paired}
use Rattle.strips.proofs.pair.strip_pair_either.Goals as goal

pub returns : goal.returns
returns c =
    paired (λ (h : Handle) (ws : List ℕ) (k : Handle) (vs : List ℕ). pair_rank_told either h ws k vs c.args.i) c.strip_over-first.ensures c.strip_over-second.ensures
    c.pair_rank.ensures c.coded.ensures

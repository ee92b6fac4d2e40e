-- `image::freezing::new_place` meets its contract. Assumes nothing.
use native.Mathlib.Omega.{arith}
use Rattle.image.specs.Calls.{records_of}
use Rattle.image.proofs.ChainLaws.{chain_facts}
use Rattle.image.proofs.WalkLaws.{scan_facts}
use Rattle.image.proofs.freezing.new_place.Goals as goal

pub overflow_add-scan : goal.overflow_add-scan
overflow_add-scan c =
    let s = c.args.image.now in
    let k = scan_facts s c.args.label _ _ c.scan_chain.ensures c.in_ok-scan.was in
    let f = chain_facts s (records_of s) k.chain in
    omega (arith, k.ended, f.ended.inside, f.header.most, c.requires)

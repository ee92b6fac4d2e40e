-- `counters::shape::height_of` meets its contract. Assumes nothing.
use Rattle.std.proofs.Common.{sym}
use Rattle.counters.proofs.TreeLaws.{height_one, height_two, height_three}
use Rattle.counters.proofs.shape.height_of.Goals as goal

pub returns-then-blocks-le-CHILDREN : goal.returns-then-blocks-le-CHILDREN
returns-then-blocks-le-CHILDREN c = sym (height_one c.args.blocks c.if-blocks-le-CHILDREN.true)

pub returns-then-blocks : goal.returns-then-blocks
returns-then-blocks c = sym (height_two c.args.blocks c.if-blocks-le-CHILDREN.false c.if-blocks.true)

pub returns : goal.returns
returns c = sym (height_three c.args.blocks c.if-blocks.false)

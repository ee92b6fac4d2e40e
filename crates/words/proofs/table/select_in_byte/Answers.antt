-- `words::table::select_in_byte` meets its contract: the source's table passes the test, which antt computes here on its own numbers. Assumes nothing.
use Rattle.std.proofs.Common.{refl}
use Rattle.words.proofs.TableLaws.{passes, passed}
use Rattle.words.proofs.table.select_in_byte.Goals as goal

pub entry-requires : goal.entry-requires
unfolding passes
entry-requires c = (passed _ refl refl, c.requires.0, c.requires.1)

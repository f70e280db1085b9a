-- What was read is handed on as it is.
use Rattle.std.proofs.Common.{refl}
use Rattle.o2_dir.proofs.WholeKept.{whole_told}
use Rattle.o2_dir.proofs.directory_whole.directory_of.Goals as goal

pub returns : goal.returns
returns c v d h = whole_told v d c.args.whole _ h c.from.ensures c.from-2.ensures c.from-3.ensures refl

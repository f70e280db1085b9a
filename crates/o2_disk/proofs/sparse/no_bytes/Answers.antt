use Rattle.std.proofs.Common.{refl}
use Rattle.o2_disk.specs.Image.{zero_sector}
use Rattle.o2_disk.proofs.sparse.no_bytes.Goals as goal

pub returns : goal.returns
unfolding zero_sector
returns c = refl

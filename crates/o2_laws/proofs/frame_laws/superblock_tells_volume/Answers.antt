use Rattle.o2_laws.proofs.Failing.{volume_of-over}
use Rattle.o2_laws.proofs.frame_laws.superblock_tells_volume.Goals as goal

pub returns : goal.returns
returns c = volume_of-over

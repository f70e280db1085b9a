-- The size is judged by what was read, and by what the system directory says of the inode.
use Rattle.o2_dir.proofs.AnyBlocks.{size_told_of}
use Rattle.o2_dir.proofs.FileSizes.{may_have_told}
use Rattle.o2_dir.proofs.file_size.has_sound_size.Goals as goal

pub returns-clause-sound : goal.returns-clause-sound
returns-clause-sound g c v shows read =
    let b = c.args.inode in
    let tells = size_told_of c.args.bytes.now (v.at b) _ read.holds c.read_dinode-dinode.ensures in
    c.in_ok-has_size_of_kind.ensures v shows.numbers b (record { holds = read.holds; are = read.are })
    (may_have_told v c.args.geo.now b _ _ shows.numbers tells (c.in_ok-may_be_file.ensures.sound v shows))

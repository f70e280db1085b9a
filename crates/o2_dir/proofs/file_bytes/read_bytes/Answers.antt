-- What was read once tells the bytes.
use Rattle.o2_view.proofs.Shown.{still_shows}
use Rattle.o2_extent.proofs.Views.{only_both}
use Rattle.o2_dir.proofs.file_bytes.read_bytes.Goals as goal

pub returns-clause-told : goal.returns-clause-told
returns-clause-told g c v shows =
    let after = still_shows c.look.ensures.reads shows in
    let tells = c.in_ok-reading.ensures.told v (record { shows = after; is = c.in_ok-block.ensures.bytes v shows }) in
    ((tells.read.sound, (tells.size, tt)), c.in_ok-part_of_file.ensures.bytes v (still_shows c.sound_inode_in.ensures.reads after) c.args.inode tells)

pub returns-clause-reads : goal.returns-clause-reads
returns-clause-reads g c = only_both (only_both c.look.ensures.reads c.sound_inode_in.ensures.reads) c.part_of_file.ensures.reads

-- The dinode is read, and then its list.
use Rattle.std.proofs.Common.{◌∙◌}
use Rattle.o2_view.proofs.Shown.{still_shows}
use Rattle.o2_extent.proofs.Views.{only_both}
use Rattle.o2_extent.proofs.inode.read_inode.Goals as goal

pub returns-clause-read : goal.returns-clause-read
returns-clause-read g c v shows = c.in_ok-reading.ensures.read v (record { shows = still_shows c.look.ensures.reads shows; is = c.as_slice.ensures ∙ c.in_ok-block.ensures.bytes v shows })

pub returns-clause-reads : goal.returns-clause-reads
returns-clause-reads g c = only_both c.look.ensures.reads c.read_own_list.ensures.reads

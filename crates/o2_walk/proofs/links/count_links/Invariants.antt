-- The entries of the directories so far were counted.
use Rattle.std.proofs.Common.{take}
use Rattle.std.specs.Prelude.{flat_map}
use Rattle.o2_model.specs.Volume.{Volume}
use Rattle.o2_tally.specs.Gathered.{IsCount}
use Rattle.o2_tree.specs.TreeRows.{IsDirectoryTable}
use Rattle.o2_walk.specs.TreeWalked.{named_by}
use Rattle.o2_walk.proofs.links.count_links.Given as goal

abbrev pub invariant-loop-directory : goal.invariant-loop-directory
invariant-loop-directory l = (v : Volume) → IsDirectoryTable v l.directories → IsCount (flat_map (λ d. named_by v d.inode) (take l.directory-index l.entered)) l.links

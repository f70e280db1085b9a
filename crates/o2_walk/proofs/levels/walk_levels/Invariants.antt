-- As many directories as this were looked through.
use Rattle.o2_model.specs.Tree.{at_root, walk_after}
use Rattle.o2_model.specs.Volume.{Volume}
use Rattle.o2_tables.specs.Rows.{IsInodeTable}
use Rattle.o2_tree.specs.TreeRows.{IsDirectoryTable}
use Rattle.o2_tree.specs.TreeWalks.{AreOwn}
use Rattle.o2_walk.specs.TreeWalked.{HasMet}
use Rattle.o2_walk.proofs.levels.walk_levels.Given as goal

abbrev pub invariant-loop-next : goal.invariant-loop-next
invariant-loop-next l =
    (v : Volume) → IsInodeTable v l.inodes → AreOwn v l.own → IsDirectoryTable v l.directories → HasMet (at_root v) l.fn.progress
    → HasMet (walk_after v l.next) l.progress

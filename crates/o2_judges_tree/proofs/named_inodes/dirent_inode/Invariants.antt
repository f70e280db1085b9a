-- The directories so far were judged.
use Rattle.std.proofs.Common.{◌≡◌, take}
use Rattle.std.specs.Prelude.{flat_map}
use Rattle.o2_model.specs.Volume.{Volume}
use Rattle.o2_tables.specs.Rows.{IsInodeTable}
use Rattle.o2_tree.specs.TreeRows.{IsDirectoryTable}
use Rattle.o2_tree.specs.TreeWalks.{AreOwn}
use Rattle.o2_judges_tree.specs.EntryFaults.{is_named_soundly, faults_in}
use Rattle.o2_judges_tree.proofs.named_inodes.dirent_inode.Given as goal

abbrev pub invariant-loop-directory : goal.invariant-loop-directory
invariant-loop-directory l =
    (v : Volume) → IsInodeTable v l.inodes → AreOwn v l.own → IsDirectoryTable v l.directories
    → l.blocks.items ≡ flat_map (λ d. faults_in v (is_named_soundly v) d.inode) (take l.directory-index l.entered)

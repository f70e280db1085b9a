-- Those of the entries so far were put.
use Rattle.std.proofs.Common.{◌≡◌, take}
use Rattle.o2_model.specs.Faults.{fails_at}
use Rattle.o2_model.specs.Volume.{Volume}
use Rattle.o2_tables.specs.Rows.{IsInodeTable}
use Rattle.o2_tree.specs.TreeWalks.{AreOwn}
use Rattle.o2_judges_inodes.specs.OrphanRows.{names_orphan}
use Rattle.o2_judges_inodes.proofs.orphans.without_orphan.Given as goal

abbrev pub invariant-loop-entry : goal.invariant-loop-entry
invariant-loop-entry l =
    (v : Volume) → IsInodeTable v l.inodes → AreOwn v l.own → l.found.items ≡ fails_at (λ e. e.block) (names_orphan v) (take l.entry-index l.orphans)

-- Those of the directories so far were put.
use Rattle.std.proofs.Common.{◌≡◌, take}
use Rattle.std.specs.Prelude.{flat_map}
use Rattle.o2_model.specs.Volume.{Volume}
use Rattle.o2_tree.specs.TreeRows.{IsDirectoryTable}
use Rattle.o2_check.specs.OrphanRows.{named_rows}
use Rattle.o2_check.proofs.orphans.orphan_entries.Given as goal

abbrev pub invariant-loop-b : goal.invariant-loop-b
invariant-loop-b l = (v : Volume) → IsDirectoryTable v l.directories → l.found.items ≡ flat_map (named_rows v) (take l.b-index l.orphan_directories)

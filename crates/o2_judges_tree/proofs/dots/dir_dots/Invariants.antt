-- The directories so far were judged.
use Rattle.std.proofs.Common.{◌≡◌, take}
use Rattle.std.specs.Prelude.{flat_map}
use Rattle.o2_model.specs.Volume.{Volume}
use Rattle.o2_tree.specs.TreeRows.{IsDirectoryTable}
use Rattle.o2_judges_tree.specs.EntryFaults.{dots_of}
use Rattle.o2_judges_tree.proofs.dots.dir_dots.Given as goal

abbrev pub invariant-loop-directory : goal.invariant-loop-directory
invariant-loop-directory l = (v : Volume) → IsDirectoryTable v l.directories → l.blocks.items ≡ flat_map (dots_of v) (take l.directory-index l.entered)

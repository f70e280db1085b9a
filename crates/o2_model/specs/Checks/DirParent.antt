-- DIR_PARENT, number 26, at the directory's block that has the later entry: the walk of the tree names no directory twice.
use Rattle.std.specs.Prelude.{ℕ, List}
use Rattle.o2_model.specs.Volume.{Volume}
use Rattle.o2_model.specs.Tree.{tree_walk}

abbrev pub dir_parent_faults : Volume → List ℕ
dir_parent_faults v = (tree_walk v).faults

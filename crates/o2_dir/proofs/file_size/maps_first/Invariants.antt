-- None of the records so far is about the first cluster.
use Rattle.std.proofs.Common.{◌≡◌, false, take}
use Rattle.std.specs.List.{list_any}
use Rattle.o2_model.specs.Contents.{maps_cluster}
use Rattle.o2_dir.proofs.file_size.maps_first.Given as goal

abbrev pub invariant-loop-leaf : goal.invariant-loop-leaf
invariant-loop-leaf l = list_any (maps_cluster 0) (take l.leaf-index l.leaves) ≡ false

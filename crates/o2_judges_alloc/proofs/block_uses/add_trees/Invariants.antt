-- The blocks of the trees so far were put.
use Rattle.std.proofs.Common.{◌≡◌, ◌++◌, flat_map, take}
use Rattle.o2_judges_alloc.specs.MetadataRows.{blocks_of_tree}
use Rattle.o2_judges_alloc.proofs.block_uses.add_trees.Given as goal

abbrev pub invariant-loop-tree : goal.invariant-loop-tree
invariant-loop-tree l = l.uses.items ≡ l.fn.uses.items ++ flat_map blocks_of_tree (take l.tree-index l.trees)

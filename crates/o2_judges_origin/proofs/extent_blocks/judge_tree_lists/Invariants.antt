-- Those of the trees so far were added.
use Rattle.std.proofs.Common.{take, flat_map}
use Rattle.o2_judges_origin.specs.OriginRows.{Adds, tree_list_faults}
use Rattle.o2_judges_origin.proofs.extent_blocks.judge_tree_lists.Given as goal

abbrev pub invariant-loop-tree : goal.invariant-loop-tree
invariant-loop-tree l = Adds l.placed l.fn.found.items l.found.items (λ v is_use. flat_map (tree_list_faults v is_use) (take l.tree-index l.trees))

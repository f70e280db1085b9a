-- Those of the trees so far were added.
use Rattle.std.proofs.Common.{take, flat_map}
use Rattle.o2_judges_origin.specs.OriginRows.{Adds, leaf_faults}
use Rattle.o2_judges_origin.proofs.refcount_blocks.judge_leaves.Given as goal

abbrev pub invariant-loop-tree : goal.invariant-loop-tree
invariant-loop-tree l = Adds l.placed l.fn.found.items l.found.items (λ v is_use. flat_map (leaf_faults v is_use) (take l.tree-index l.trees))

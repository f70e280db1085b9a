-- The blocks of the trees so far were put.
use Rattle.std.proofs.Common.{◌≡◌, flat_map, take}
use Rattle.o2_judges_refcount.specs.TreeRows.{count_faults}
use Rattle.o2_judges_refcount.proofs.record_counts.with_other_count.Given as goal

abbrev pub invariant-loop-tree : goal.invariant-loop-tree
invariant-loop-tree l = l.found.items ≡ flat_map (count_faults l.references) (take l.tree-index l.trees)

-- The roots of the trees so far were put.
use Rattle.std.proofs.Common.{◌≡◌, flat_map, take}
use Rattle.o2_judges_refcount.specs.CoverRows.{cover_faults}
use Rattle.o2_judges_refcount.proofs.root_covers.not_covering.Given as goal

abbrev pub invariant-loop-tree : goal.invariant-loop-tree
invariant-loop-tree l = l.found.items ≡ flat_map (cover_faults l.references l.missing) (take l.tree-index l.trees)

-- The runs so far are those of the first records.
use Rattle.std.proofs.Common.{◌≡◌, map, take}
use Rattle.o2_model.specs.Volume.{Volume}
use Rattle.o2_tables.specs.Rows.{run_of}
use Rattle.o2_indexes.proofs.rows.runs_of.Given as goal

abbrev pub invariant-loop-leaf : goal.invariant-loop-leaf
invariant-loop-leaf l = (v : Volume) → v.geo ≡ l.geo → l.runs.items ≡ map (run_of v) (take l.leaf-index l.leaves)

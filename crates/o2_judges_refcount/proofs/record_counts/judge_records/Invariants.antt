-- The blocks of the records so far were put.
use Rattle.std.proofs.Common.{◌≡◌, ◌++◌, flat_map, take}
use Rattle.o2_judges_refcount.specs.TreeRows.{record_faults}
use Rattle.o2_judges_refcount.proofs.record_counts.judge_records.Given as goal

abbrev pub invariant-loop-placed : goal.invariant-loop-placed
invariant-loop-placed l = l.found.items ≡ l.fn.found.items ++ flat_map (record_faults l.references l.root) (take l.placed-index l.records)

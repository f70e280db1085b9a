-- The clusters of the records so far.
use Rattle.std.proofs.Common.{◌≡◌, map, take}
use Rattle.o2_judges_refcount.specs.CoverRows.{run_of}
use Rattle.o2_judges_refcount.proofs.covers.runs_of_records.Given as goal

abbrev pub invariant-loop-placed : goal.invariant-loop-placed
invariant-loop-placed l = l.runs ≡ map run_of (take l.placed-index l.records)

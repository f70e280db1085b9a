-- Both runs lie within the volume.
use Rattle.std.proofs.Common.{ℕ, zero, suc, ◌<◌, ◌∷◌, [], get_or, arith}
use Rattle.o2_view.specs.declared.run.Run.{Run}
use Rattle.o2_extent.specs.Maps.{IsRun}
use Rattle.o2_extent.proofs.tests.lists_runs.Goals as goal

two_runs : (k : ℕ) (d : Run) → k < 2 → IsRun 40 (get_or (record { start = 3; clusters = 2 } ∷ record { start = 9; clusters = 1 } ∷ []) k d)
two_runs zero d h = record { some = omega arith; most = omega arith; within = omega arith }
two_runs (suc zero) d h = record { some = omega arith; most = omega arith; within = omega arith }
two_runs (suc (suc k)) d h = absurd (omega arith)

pub list_of_runs-list-requires-clause-sizes : goal.list_of_runs-list-requires-clause-sizes
list_of_runs-list-requires-clause-sizes g c = c.numbers.ensures.sizes

pub list_of_runs-list-requires-clause-within : goal.list_of_runs-list-requires-clause-within
list_of_runs-list-requires-clause-within g c = rw c.numbers.ensures.clusters two_runs

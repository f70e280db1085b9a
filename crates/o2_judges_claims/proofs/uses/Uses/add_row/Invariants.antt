-- The uses of the first runs were added.
use Rattle.std.proofs.Common.{◌++◌, List, flat_map, take}
use Rattle.o2_judges_claims.specs.declared.sharers.PlacedUse.{PlacedUse}
use Rattle.o2_judges_claims.specs.Uses.{AreUses, uses_in_run}
use Rattle.o2_judges_claims.proofs.uses.Uses.add_row.Given as goal

abbrev pub invariant-loop-run : goal.invariant-loop-run
invariant-loop-run l = (us : List PlacedUse) → AreUses us l.initial.self → AreUses (us ++ flat_map (uses_in_run l.by) (take l.run-index l.run-items)) l.self

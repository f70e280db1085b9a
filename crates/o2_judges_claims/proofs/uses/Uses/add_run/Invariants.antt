-- The uses of the first clusters were added.
use Rattle.std.proofs.Common.{◌++◌, List, map}
use Rattle.std.specs.List.{range_with_len}
use Rattle.o2_judges_claims.specs.declared.sharers.PlacedUse.{PlacedUse}
use Rattle.o2_judges_claims.specs.Uses.{AreUses, use_at}
use Rattle.o2_judges_claims.proofs.uses.Uses.add_run.Given as goal

abbrev pub invariant-loop-k : goal.invariant-loop-k
invariant-loop-k l = (us : List PlacedUse) → AreUses us l.initial.self → AreUses (us ++ map (use_at l.by l.run) (range_with_len 0 l.k)) l.self

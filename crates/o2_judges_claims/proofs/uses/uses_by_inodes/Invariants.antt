-- The uses of the first rows were added.
use Rattle.std.proofs.Common.{flat_map, take}
use Rattle.o2_judges_claims.specs.Uses.{AreUses, uses_in_row}
use Rattle.o2_judges_claims.proofs.uses.uses_by_inodes.Given as goal

abbrev pub invariant-loop-row : goal.invariant-loop-row
invariant-loop-row l = AreUses (flat_map uses_in_row (take l.row-index l.inodes)) l.uses

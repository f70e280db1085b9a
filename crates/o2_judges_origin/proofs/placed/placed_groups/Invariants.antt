-- The groups so far are placed.
use Rattle.std.proofs.Common.{map, take}
use Rattle.std.specs.BTreeMap.{get}
use Rattle.std.specs.Ordering.{nat_cmp}
use Rattle.o2_judges_origin.specs.Placed.{is_block_use, ArePlaced}
use Rattle.o2_judges_origin.proofs.placed.placed_groups.Given as goal

abbrev pub invariant-loop-row : goal.invariant-loop-row
invariant-loop-row l = ArePlaced (is_block_use l.bit_use) (map (λ r. r.group) (take l.row-index l.groups)) (get nat_cmp l.places)

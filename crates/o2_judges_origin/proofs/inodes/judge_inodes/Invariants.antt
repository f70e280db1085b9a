-- Those of the inodes so far were added.
use Rattle.std.proofs.Common.{take, flat_map}
use Rattle.o2_judges_origin.specs.OriginRows.{Adds, inode_row_faults}
use Rattle.o2_judges_origin.proofs.inodes.judge_inodes.Given as goal

abbrev pub invariant-loop-row : goal.invariant-loop-row
invariant-loop-row l = Adds l.placed l.fn.found.items l.found.items (λ v is_use. flat_map (inode_row_faults v is_use) (take l.row-index l.inodes))

-- The blocks so far are those of the first rows.
use Rattle.std.proofs.Common.{◌≡◌, take}
use Rattle.std.specs.Prelude.{flat_map}
use Rattle.o2_survey.specs.GroupRows.{inode_blocks_of}
use Rattle.o2_survey.proofs.inode_list.inode_blocks.Given as goal

abbrev pub invariant-loop-row : goal.invariant-loop-row
invariant-loop-row l = l.found.items ≡ flat_map inode_blocks_of (take l.row-index l.groups)

-- Orphans of direct writes by rows.
use Rattle.std.specs.Prelude.{ℕ, Bool, List, find, Option, option_map}
use Rattle.o2_ondisk.specs.Bits.{has_bits, dio_orphaned_inode_flag}
use Rattle.o2_tables.specs.declared.inodes.InodeRow.{InodeRow}

-- the row has `OCFS2_DIO_ORPHANED_FL`
abbrev pub is_marked : InodeRow → Bool
is_marked row = has_bits row.flags.0 dio_orphaned_inode_flag

-- the first inode that has it
abbrev pub first_marked : List InodeRow → Option ℕ
first_marked rows = option_map (λ r. r.block) (find is_marked rows)

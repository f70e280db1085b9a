-- The links of an inode by its row.
use Rattle.std.specs.Prelude.{Bool, ◌==◌, ◌%◌, ◌^◌}
use Rattle.o2_tables.specs.declared.inodes.InodeRow.{InodeRow}
use Rattle.o2_tables.specs.declared.tree.TreeTable.{TreeTable}
use Rattle.o2_tally.specs.Gathered.{count_of}

-- the links are as many as the entries that name it, modulo 2^32
abbrev pub has_links : TreeTable → InodeRow → Bool
has_links tree r = r.links == count_of tree.links r.block % 2 ^ 32

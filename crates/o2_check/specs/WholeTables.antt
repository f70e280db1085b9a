-- What the tables that a check reads tell of a volume.
use Rattle.std.specs.Prelude.{◌≡◌}
use Rattle.o2_model.specs.Volume.{Volume}
use Rattle.o2_model.specs.Groups.{inodes_of}
use Rattle.o2_model.specs.Checks.BackupSuper.{backup_super_faults}
use Rattle.o2_tables.specs.Rows.{IsInodeTable}
use Rattle.o2_tree.specs.TreeRows.{IsDirectoryTable, IsIndexTable}
use Rattle.o2_tree.specs.TreeWalks.{AreOwn}
use Rattle.o2_inodes.specs.InodeSurveys.{TellsInodes}
use Rattle.o2_refcount.specs.TreeReadings.{IsTreeSurvey}
use Rattle.o2_windows.specs.SlotRows.{IsWindowTable, IsTruncateLogTable}
use Rattle.o2_skeleton.specs.SkeletonTables.{IsSkeleton}
use Rattle.o2_check.specs.declared.tables.Tables.{Tables}

-- The tables are those of the volume.
pub record AreTables (v : Volume) (t : Tables) : Type 0 where
  pub skeleton : IsSkeleton v t.skeleton
  pub own : AreOwn v t.own
  pub judged : TellsInodes v (inodes_of v) t.inodes
  pub inodes : IsInodeTable v t.inodes.rows.items
  pub directories : IsDirectoryTable v t.inodes.directories.items
  pub indexes : IsIndexTable v t.inodes.indexes.items
  pub trees : IsTreeSurvey v t.trees
  pub windows : IsWindowTable v t.windows.items
  pub logs : IsTruncateLogTable v t.logs.items
  pub backups : t.backups.items ≡ backup_super_faults v

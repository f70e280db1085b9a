-- What the tables of windows and of truncate logs are.
use Rattle.std.specs.Prelude.{◌≡◌, ℕ, true, List, [], ◌∷◌, map, flat_map}
use Rattle.std.specs.List.{AllByRecursion}
use Rattle.std.specs.Option.{option_map_or}
use Rattle.o2_model.specs.declared.system_file.SlotFile.{SlotFile}
use Rattle.o2_model.specs.declared.system_file.SlotFile.TheVariants.{LocalAlloc, TruncateLog}
use Rattle.o2_model.specs.declared.system_file.SystemFile.TheVariants.{OfSlot}
use Rattle.o2_model.specs.Volume.{Volume}
use Rattle.o2_model.specs.SystemFiles.{system_inode, slots}
use Rattle.o2_model.specs.Windows.{window_clusters, is_sound_window}
use Rattle.o2_model.specs.TruncateLogs.{is_sound_truncate_header}
use Rattle.o2_slots.specs.Truncations.{truncated_runs}
use Rattle.o2_windows.specs.declared.window_rows.WindowRow.{WindowRow}
use Rattle.o2_windows.specs.declared.log_rows.TruncateLogRow.{TruncateLogRow}

-- ---- the slots of a file
-- the slot with the inode of its file, where it has one
abbrev pub inode_of_slot : Volume → SlotFile → ℕ → List (ℕ × ℕ)
inode_of_slot v file slot = option_map_or (λ b. (slot, b) ∷ []) (system_inode v (OfSlot file slot)) []

-- the slots that have such a file, rising, each with the file's inode
unfoldable pub inodes_of_slots : Volume → SlotFile → List (ℕ × ℕ)
inodes_of_slots v file = flat_map (inode_of_slot v file) (slots v)

-- ---- windows
-- The row tells whether the window holds where nothing is claimed, and then the clusters of its clear bits.
pub record IsWindowRow (v : Volume) (row : WindowRow) : Type 0 where
  pub alone : row.is_sound_alone ≡ is_sound_window v [] row.inode
  pub clusters : row.is_sound_alone ≡ true → row.clusters ≡ window_clusters v row.inode

-- The rows are those of the windows of these slots with these inodes, in order.
pub record AreWindowRows (v : Volume) (inodes : List (ℕ × ℕ)) (rows : List WindowRow) : Type 0 where
  pub listed : map (λ r. (r.slot, r.inode)) rows ≡ inodes
  pub each : AllByRecursion (IsWindowRow v) rows

-- The rows are those of all slots that have a window.
abbrev pub IsWindowTable : Volume → List WindowRow → Type 0
IsWindowTable v rows = AreWindowRows v (inodes_of_slots v LocalAlloc) rows

-- ---- truncate logs
-- The row tells whether the log's header is sound, and the clusters of its records in use.
pub record IsTruncateLogRow (v : Volume) (row : TruncateLogRow) : Type 0 where
  pub header : row.has_sound_header ≡ is_sound_truncate_header v row.inode
  pub records : row.records ≡ truncated_runs v row.inode

-- The rows are those of the truncate logs of these slots with these inodes, in order.
pub record AreTruncateLogRows (v : Volume) (inodes : List (ℕ × ℕ)) (rows : List TruncateLogRow) : Type 0 where
  pub listed : map (λ r. (r.slot, r.inode)) rows ≡ inodes
  pub each : AllByRecursion (IsTruncateLogRow v) rows

-- The rows are those of all slots that have a truncate log.
abbrev pub IsTruncateLogTable : Volume → List TruncateLogRow → Type 0
IsTruncateLogTable v rows = AreTruncateLogRows v (inodes_of_slots v TruncateLog) rows

-- The text of each query.
use Rattle.std.specs.Prelude.{ℕ, List, ◌++◌, map}
use Rattle.std.specs.List.{concat}
use Rattle.o2_model.specs.Volume.{Volume, dinode}
use Rattle.o2_model.specs.Inodes.{leaf_records}
use Rattle.o2_model.specs.Directories.{directory_entries}
use Rattle.o2_model.specs.Contents.{bytes_of}
use Rattle.o2_model.specs.RefcountTrees.{refcounts}
use Rattle.o2_model.specs.AfterReplay.{super_of_volume, journal_length}
use Rattle.o2_model.specs.SystemFiles.{slots}
use Rattle.o2_debug.specs.Lines.{entry_line, dinode_lines, extent_line, refcount_line}
use Rattle.o2_debug.specs.OwnFiles.{clusters_in_use, slot_nodes}
use Rattle.o2_debug.specs.VolumeLines.{volume_lines, journal_line, slot_lines}

-- ---- of a volume
-- of `stats`: its numbers and names, and a line for the journal of each slot
unfoldable pub stats_text : Volume → List ℕ
stats_text v = concat (volume_lines v.geo (super_of_volume v) (clusters_in_use v) ++ map (λ slot. journal_line slot (journal_length v slot)) (slots v))

-- of `slotmap`: a line for each slot that has a node, in their order
unfoldable pub slot_map_text : Volume → List ℕ
slot_map_text v = concat (slot_lines (slot_nodes v))

-- ---- for the inode at the end of a path
-- of `ls`: a line for each live entry of the directory, in order
unfoldable pub ls_text : Volume → ℕ → List ℕ
ls_text v d = concat (map entry_line (directory_entries v d))

-- of `stat`: what the dinode says, and a line for each leaf record
unfoldable pub stat_text : Volume → ℕ → List ℕ
stat_text v b = concat (dinode_lines b (dinode v b) ++ map extent_line (leaf_records v b))

-- of `cat`: the bytes of the file
unfoldable pub cat_text : Volume → ℕ → List ℕ
cat_text v b = bytes_of v b

-- of `refcount`: a line for each record of the file's refcount tree, block by block
unfoldable pub refcount_text : Volume → ℕ → List ℕ
refcount_text v b = concat (map refcount_line (refcounts v (dinode v b).refcount_loc).records)

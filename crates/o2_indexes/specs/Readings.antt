-- What is read of an index, and of its directory.
use Rattle.std.specs.Prelude.{◌≡◌, ℕ, Bool, List, map, Option, Some, None, if◌then◌else◌}
use Rattle.o2_ondisk.specs.DxRoots.{dx_root_list_place}
use Rattle.o2_ondisk.specs.declared.dx_entry.DxEntry.{DxEntry}
use Rattle.o2_model.specs.Directories.{dir_blocks, directory_entries}
use Rattle.o2_model.specs.Indexes.{index_root, is_inline_index, index_extents, is_sound_dx_list, index_entries}
use Rattle.o2_model.specs.Orders.{is_none_of}
use Rattle.o2_model.specs.SoundIndexes.{has_trailers}
use Rattle.o2_model.specs.Volume.{Volume}
use Rattle.o2_extent.specs.declared.list_block.ListBlock.{ListBlock}
use Rattle.o2_tables.specs.declared.inodes.ExtentBlockRow.{ExtentBlockRow}
use Rattle.o2_tree.specs.TreeRows.{has_sound_form}
use Rattle.o2_indexes.specs.declared.directory.IndexedDirectory.{IndexedDirectory}

-- ---- the directory
-- This is what was read of the directory.
pub record TellsDirectory (v : Volume) (d : ℕ) (listed : IndexedDirectory) : Type 0 where
  pub entries : listed.entries.now ≡ directory_entries v d
  pub blocks : listed.blocks.now ≡ map (λ b. b.block) (dir_blocks v d)
  pub trailers : listed.has_trailers ≡ has_trailers v d

-- ---- the index
-- what the extent block says of where it is from
abbrev pub origin_row : ListBlock → ExtentBlockRow
origin_row block = record {
  block = block.block;
  origin = record { slot = block.fields.suballoc_slot; bit = block.fields.suballoc_bit; loc = block.fields.suballoc_loc };
}

-- the list of entries in the root is well formed, or the list of leaves
abbrev pub has_sound_root_list : Volume → ℕ → Bool
has_sound_root_list v d =
    if is_inline_index v (index_root v d)
    then is_sound_dx_list v dx_root_list_place (index_root v d)
    else is_none_of (index_extents v d).faults

-- the index entries, where the list in the root and all leaves are well formed
abbrev pub entries_where_sound : Volume → ℕ → Option (List DxEntry)
entries_where_sound v d = if has_sound_form v d then Some (index_entries v d) else None

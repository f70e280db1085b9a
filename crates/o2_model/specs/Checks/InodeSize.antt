-- INODE_SIZE, number 19, at the inode: of inline data i_size is at most id_count, and that fits the dinode; a directory has whole
-- blocks, at least one, all mapped and written; a link has a text, in the dinode or in cluster 0; a file ends within the clusters
-- that have a number, unless it is one of the volume's own.
use Rattle.std.specs.Prelude.{ℕ, ◌*◌, ◌/◌, ◌%◌, ◌^◌, ◌-◌, Bool, true, ◌&&◌, ◌||◌, ◌==◌, nat_lt, nat_le, List, length, Option, Some, if◌then◌else◌}
use Rattle.std.specs.List.{list_any}
use Rattle.o2_ondisk.specs.Dinodes.{last_part_place}
use Rattle.o2_ondisk.specs.Number.{number_at}
use Rattle.o2_ondisk.specs.declared.kind.Kind.{Kind}
use Rattle.o2_ondisk.specs.declared.kind.Kind.TheVariants.{File, Directory, Link}
use Rattle.o2_model.specs.Words.{among}
use Rattle.o2_model.specs.Faults.{fails_unless}
use Rattle.o2_model.specs.Volume.{Volume, block_size, dinode}
use Rattle.o2_model.specs.Clusters.{cluster_size}
use Rattle.o2_model.specs.Inodes.{kind, is_inline, is_fast_link, leaf_records}
use Rattle.o2_model.specs.Directories.{inline_room, dir_blocks, own_inodes}
use Rattle.o2_model.specs.Contents.{maps_cluster}

-- i_size fits the inline bytes, and these fit the dinode (id_count of struct ocfs2_inline_data)
abbrev pub is_inline_size : Volume → ℕ → Bool
is_inline_size v b =
    nat_le (dinode v b).size (number_at last_part_place 2 (v.at b))
    && nat_le (number_at last_part_place 2 (v.at b)) (inline_room v)

-- a directory has whole blocks, all mapped and written
abbrev pub is_directory_size : Volume → ℕ → Bool
is_directory_size v b =
    nat_lt 0 (dinode v b).size
    && (dinode v b).size % block_size v == 0
    && length (dir_blocks v b) == (dinode v b).size / block_size v

-- a link has a text, in the dinode or in its first cluster
abbrev pub is_link_size : Volume → ℕ → Bool
is_link_size v b =
    nat_lt 0 (dinode v b).size
    && (if is_fast_link v b then nat_lt (dinode v b).size (block_size v - last_part_place) else list_any (maps_cluster 0) (leaf_records v b))

-- a file ends within the clusters that have a number; of the volume's own files this is not asked
abbrev pub is_file_size : Volume → ℕ → Bool
is_file_size v b = nat_le (dinode v b).size (cluster_size v * 2 ^ 32) || among (own_inodes v) b

abbrev pub is_size_of_kind : Volume → ℕ → Option Kind → Bool
is_size_of_kind v b (Some Directory) = is_directory_size v b
is_size_of_kind v b (Some Link) = is_link_size v b
is_size_of_kind v b (Some File) = is_file_size v b
is_size_of_kind v b _ = true

-- i_size fits what the inode is and has
unfoldable pub has_sound_size : Volume → ℕ → Bool
has_sound_size v b = if is_inline v b then is_inline_size v b else is_size_of_kind v b (kind v b)

-- those of one inode
abbrev pub inode_size_faults : Volume → ℕ → List ℕ
inode_size_faults v b = fails_unless b (has_sound_size v b)

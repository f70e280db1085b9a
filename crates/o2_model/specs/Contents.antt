-- What files, links and directories hold.
use Rattle.std.specs.Prelude.{ℕ, ◌+◌, ◌-◌, ◌*◌, ◌/◌, ◌%◌, Bool, ◌&&◌, nat_lt, nat_le, List, map, find, take, drop, slice_index, Option, Some, if◌then◌else◌}
use Rattle.std.specs.List.{range_with_len}
use Rattle.std.specs.Option.{option_map_or}
use Rattle.o2_ondisk.specs.Dinodes.{last_part_place}
use Rattle.o2_ondisk.specs.declared.kind.Kind.{Kind}
use Rattle.o2_ondisk.specs.declared.kind.Kind.TheVariants.{File, Directory, Link}
use Rattle.o2_model.specs.declared.leaf.Leaf.{Leaf}
use Rattle.o2_model.specs.Volume.{Volume, block_size, per_cluster, dinode}
use Rattle.o2_model.specs.Inodes.{kind, is_inline, is_fast_link, leaf_records}
use Rattle.o2_model.specs.Directories.{is_written, inline_bytes, directory_entries}

-- the record is about cluster c of the inode
abbrev pub maps_cluster : ℕ → Leaf → Bool
maps_cluster c leaf = nat_le leaf.cpos c && nat_lt c (leaf.cpos + leaf.clusters)

-- the first block of cluster c of the inode by such a record, where a cluster has so many blocks
abbrev pub mapped_block : ℕ → ℕ → Leaf → ℕ
mapped_block per_cluster c leaf = leaf.block + per_cluster * (c - leaf.cpos)

-- the bytes of block j of the file by the record of its cluster, where the record's clusters are written
abbrev pub file_block : Volume → ℕ → Leaf → List ℕ
file_block v j leaf = v.at (mapped_block (per_cluster v) (j / per_cluster v) leaf + j % per_cluster v)

-- byte o of block j of the file by the record of its cluster: 0 where the clusters are not written
abbrev pub byte_under : Volume → ℕ → ℕ → Leaf → ℕ
byte_under v j o leaf = if is_written leaf then slice_index (file_block v j leaf) o else 0

-- the same by these leaf records: by the first one of its cluster, and 0 in a hole
unfoldable pub byte_in_block : Volume → List Leaf → ℕ → ℕ → ℕ
byte_in_block v leaves j o = option_map_or (byte_under v j o) (find (maps_cluster (j / per_cluster v)) leaves) 0

-- byte k of the file
abbrev pub byte_of : Volume → List Leaf → ℕ → ℕ
byte_of v leaves k = byte_in_block v leaves (k / block_size v) (k % block_size v)

-- the text of a link that stands in the dinode
abbrev pub fast_bytes : Volume → ℕ → List ℕ
fast_bytes v b = take (dinode v b).size (drop last_part_place (v.at b))

-- the i_size bytes of a file or a link
unfoldable pub bytes_of : Volume → ℕ → List ℕ
bytes_of v b =
    if is_inline v b then inline_bytes v b
    else if is_fast_link v b then fast_bytes v b
    else map (byte_of v (leaf_records v b)) (range_with_len 0 (dinode v b).size)

pub data Content : Type 0 where
  -- of a file or a link
  Bytes : List ℕ → Content
  -- of a directory: inode, type and name of each live entry
  Entries : List (ℕ × ℕ × List ℕ) → Content
  -- of any other inode
  Nothing : Content

abbrev pub content_of_kind : Volume → ℕ → Option Kind → Content
content_of_kind v b (Some File) = Bytes (bytes_of v b)
content_of_kind v b (Some Link) = Bytes (bytes_of v b)
content_of_kind v b (Some Directory) = Entries (map (λ e. (e.inode, e.file_type, e.name)) (directory_entries v b))
content_of_kind v b _ = Nothing

-- what the inode holds
abbrev pub content_of : Volume → ℕ → Content
content_of v b = content_of_kind v b (kind v b)

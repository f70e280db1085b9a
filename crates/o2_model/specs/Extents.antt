-- The tree of extents under an extent list.
use Rattle.std.specs.Prelude.{ℕ, zero, suc, ◌+◌, ◌-◌, ◌/◌, ◌%◌, ◌^◌, Bool, true, ◌&&◌, not, ◌==◌, nat_lt, nat_le, List, [], ◌∷◌, drop, map, filter, flat_map, fold, if◌then◌else◌}
use Rattle.o2_ondisk.specs.ExtentBlocks.{extent_block_of}
use Rattle.o2_ondisk.specs.ExtentListHeaders.{extent_list_header_of}
use Rattle.o2_ondisk.specs.ExtentRecs.{extent_rec_of}
use Rattle.o2_ondisk.specs.Signatures.{extent_block_signature}
use Rattle.o2_ondisk.specs.declared.extent_block.ExtentBlock.{ExtentBlock}
use Rattle.o2_ondisk.specs.declared.extent_list_header.ExtentListHeader.{ExtentListHeader}
use Rattle.o2_ondisk.specs.declared.extent_rec.ExtentRec.{ExtentRec}
use Rattle.o2_model.specs.declared.leaf.Leaf.{Leaf}
use Rattle.o2_model.specs.Volume.{Volume, block_size, is_in_range}
use Rattle.o2_model.specs.Clusters.{are_clusters_in_range}
use Rattle.o2_model.specs.Words.{table, push, among}

-- ---- lists and records
-- how many clusters a record of a leaf list has (e_leaf_clusters of struct ocfs2_extent_rec)
abbrev pub leaf_clusters : ExtentRec → ℕ
leaf_clusters r = r.size.0 % 2 ^ 16

-- how they are kept (e_flags of the same struct)
abbrev pub leaf_flags : ExtentRec → ℕ
leaf_flags r = r.size.0 / 2 ^ 24

-- a record of a leaf list, its fields apart
abbrev pub leaf_of : ExtentRec → Leaf
leaf_of r = record { cpos = r.cpos; clusters = leaf_clusters r; block = r.blkno; flags = leaf_flags r }

-- a record of a leaf list that has clusters
abbrev pub has_clusters : ExtentRec → Bool
has_clusters r = not (leaf_clusters r == 0)

-- An extent list as it stands in a block (struct ocfs2_extent_list).
pub record ExtentList : Type 0 where
  pub header : ExtentListHeader
  -- those in use
  pub records : List ExtentRec

-- the list that begins at byte `at` of the bytes
abbrev pub extent_list : ℕ → List ℕ → ExtentList
extent_list at bytes = record {
  header = extent_list_header_of (drop at bytes);
  records = table extent_rec_of 16 (at + 0x10) (extent_list_header_of (drop at bytes)).next_free_rec bytes;
}

-- what the block says as an extent block (struct ocfs2_extent_block)
abbrev pub extent_block : Volume → ℕ → ExtentBlock
extent_block v b = extent_block_of (v.at b)

-- the list in an extent block (h_list of the same struct)
abbrev pub list_in_block : Volume → ℕ → ExtentList
list_in_block v b = extent_list 0x30 (v.at b)

-- at most this many records fit an extent block (ocfs2_extent_recs_per_eb)
abbrev pub most_in_block : Volume → ℕ
most_in_block v = (block_size v - 0x40) / 16

-- ---- leaf records where nothing is wrong
-- the records with clusters below these ones, of a list of this depth: at depth 0 themselves, above it those below each
abbrev pub leaves_below : Volume → ℕ → List ExtentRec → List Leaf
leaves_below v zero records = map leaf_of (filter has_clusters records)
leaves_below v (suc depth) records = flat_map (λ r. leaves_below v depth (list_in_block v r.blkno).records) records

-- ---- the reading of a tree where something may be wrong
-- What was read of a tree so far, in order.
pub record Extents : Type 0 where
  -- the leaf records with clusters
  pub leaves : List Leaf
  -- the extent blocks
  pub blocks : List ℕ
  -- the blocks that were looked at as extent blocks, also those that are none
  pub seen : List ℕ
  -- the blocks whose lists are not well formed
  pub faults : List ℕ

-- nothing was read yet
abbrev pub nothing_read : Extents
nothing_read = record { leaves = []; blocks = []; seen = []; faults = [] }

abbrev pub with_leaf : Extents → Leaf → Extents
with_leaf t leaf = record t { leaves = push t.leaves leaf }

abbrev pub with_seen : Extents → ℕ → Extents
with_seen t b = record t { seen = push t.seen b }

abbrev pub with_block : Extents → ℕ → Extents
with_block t b = record t { blocks = push t.blocks b }

abbrev pub with_fault : Extents → ℕ → Extents
with_fault t b = record t { faults = push t.faults b }

-- the cluster of the inode behind the last of these leaf records
abbrev pub end_of : List Leaf → ℕ
end_of leaves = fold (λ _ leaf. leaf.cpos + leaf.clusters) 0 leaves

-- l_count fits the room for `most` records, l_next_free_rec fits l_count, and the tree is at most 5 deep
unfoldable pub is_sound_header : ℕ → ExtentListHeader → Bool
is_sound_header most h = nat_le h.count most && nat_le h.next_free_rec h.count && nat_le h.tree_depth 5

-- the block is an extent block of this volume and of its own number, with a list of this depth
unfoldable pub is_extent_block : Volume → ℕ → ℕ → Bool
is_extent_block v depth b =
    (extent_block v b).signature.0 == extent_block_signature
    && (extent_block v b).blkno == b
    && (extent_block v b).fs_generation == v.geo.generation
    && (list_in_block v b).header.tree_depth == depth

-- A leaf record after those that end at cluster `low`: it rises and does not overlap them, it ends below 2^32, its clusters
-- are whole and in range, and its flags are at most these.
unfoldable pub is_sound_leaf : Volume → ℕ → ℕ → Leaf → Bool
is_sound_leaf v most_flags low leaf =
    nat_le low leaf.cpos
    && nat_lt (leaf.cpos + leaf.clusters) (2 ^ 32)
    && are_clusters_in_range v leaf.block leaf.clusters
    && nat_le leaf.flags most_flags

-- What is asked of the leaf records of a list.
pub data LeafRule : Type 0 where
  -- they tell clusters, with at most these flags
  ToClusters : ℕ → LeafRule
  -- they name blocks, and no more is asked of them
  ToBlocks : LeafRule

-- the leaf record may follow those that were read before
abbrev pub may_follow : Volume → LeafRule → List Leaf → Leaf → Bool
may_follow v (ToClusters most_flags) leaves leaf = is_sound_leaf v most_flags (end_of leaves) leaf
may_follow v ToBlocks leaves leaf = true

-- A record of an inner list begins at cluster `low` or later, and names a block in range that was not looked at before.
unfoldable pub names_new_block : Volume → ℕ → List ℕ → ExtentRec → Bool
names_new_block v low seen r = nat_le low r.cpos && is_in_range v r.blkno && not (among seen r.blkno)

-- an extent block is met, at fault where the head of its list is
unfoldable pub with_met : Volume → ℕ → Extents → Extents
with_met v b t = if is_sound_header (most_in_block v) (list_in_block v b).header then with_block t b else with_fault (with_block t b) b

-- the records of its list, none where the list's head is at fault
unfoldable pub records_in_block : Volume → ℕ → List ExtentRec
records_in_block v b = if is_sound_header (most_in_block v) (list_in_block v b).header then (list_in_block v b).records else []

-- The records of the list in block `holder`, of this depth, are read in order. What was read before judges each, and the
-- first bad one ends its list. `low` is one more than the cluster at which the record before begins.
abbrev pub read_records : Volume → LeafRule → ℕ → ℕ → ℕ → List ExtentRec → Extents → Extents
read_records v rule depth holder low [] t = t
read_records v rule zero holder low (r ∷ rs) t =
    if leaf_clusters r == 0 then read_records v rule zero holder low rs t
    else if may_follow v rule t.leaves (leaf_of r) then read_records v rule zero holder low rs (with_leaf t (leaf_of r))
    else with_fault t holder
read_records v rule (suc depth) holder low (r ∷ rs) t =
    if not (names_new_block v low t.seen r) then with_fault t holder
    else if is_extent_block v depth r.blkno
    then read_records v rule (suc depth) holder (r.cpos + 1) rs (read_records v rule depth r.blkno 0 (records_in_block v r.blkno) (with_met v r.blkno (with_seen t r.blkno)))
    else with_fault (with_seen t r.blkno) holder

-- What is read from the list at byte `at` of block `holder` on, which has room for `most` records.
abbrev pub read_list : Volume → LeafRule → ℕ → ℕ → ℕ → Extents
read_list v rule holder at most =
    let list = extent_list at (v.at holder) in
    if is_sound_header most list.header
    then read_records v rule list.header.tree_depth holder 0 list.records nothing_read
    else with_fault nothing_read holder

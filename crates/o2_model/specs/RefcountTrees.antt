-- Refcount trees: how many times the clusters that files share are referred to.
use Rattle.std.specs.Prelude.{ℕ, zero, suc, ◌+◌, ◌-◌, ◌/◌, Bool, ◌&&◌, not, ◌==◌, nat_lt, nat_le, List, [], ◌∷◌, ◌++◌, map, filter, fold, drop, if◌then◌else◌}
use Rattle.o2_ondisk.specs.Bits.{has_bits, has_refcount_dyn_feature, tree_refcount_flag}
use Rattle.o2_ondisk.specs.RefcountBlocks.{refcount_block_of}
use Rattle.o2_ondisk.specs.RefcountListHeaders.{refcount_list_header_of}
use Rattle.o2_ondisk.specs.RefcountRecs.{refcount_rec_of}
use Rattle.o2_ondisk.specs.Signatures.{refcount_block_signature}
use Rattle.o2_ondisk.specs.declared.refcount_block.RefcountBlock.{RefcountBlock}
use Rattle.o2_ondisk.specs.declared.refcount_list_header.RefcountListHeader.{RefcountListHeader}
use Rattle.o2_ondisk.specs.declared.refcount_rec.RefcountRec.{RefcountRec}
use Rattle.o2_model.specs.declared.placed_refcount.PlacedRefcount.{PlacedRefcount}
use Rattle.o2_model.specs.Words.{table, push}
use Rattle.o2_model.specs.Orders.{rising}
use Rattle.o2_model.specs.Volume.{Volume, block_size, is_in_range, dinode}
use Rattle.o2_model.specs.Extents.{Extents, nothing_read, read_list}
use Rattle.o2_model.specs.Extents.LeafRule.{ToBlocks}
use Rattle.o2_model.specs.Groups.{inodes_of}

-- ---- trees and their inodes
-- `OCFS2_HAS_REFCOUNT_FL` of i_dyn_features
abbrev pub has_refcount : Volume → ℕ → Bool
has_refcount v b = has_bits (dinode v b).dyn_features.0 has_refcount_dyn_feature

-- the roots: whatever an inode with HAS_REFCOUNT names, rising, each once
unfoldable pub refcount_roots : Volume → List ℕ
refcount_roots v = rising (map (λ b. (dinode v b).refcount_loc) (filter (has_refcount v) (inodes_of v)))

-- the inodes of the tree with this root
unfoldable pub inodes_of_tree : Volume → ℕ → List ℕ
inodes_of_tree v root = filter (λ b. has_refcount v b && (dinode v b).refcount_loc == root) (inodes_of v)

-- ---- blocks of a tree
-- what the block says as a refcount block (struct ocfs2_refcount_block)
abbrev pub refcount_block : Volume → ℕ → RefcountBlock
refcount_block v b = refcount_block_of (v.at b)

-- it is a refcount block of this volume and of its own number
unfoldable pub is_refcount_block : Volume → ℕ → Bool
is_refcount_block v b =
    is_in_range v b
    && (refcount_block v b).signature.0 == refcount_block_signature
    && (refcount_block v b).blkno == b
    && (refcount_block v b).fs_generation == v.geo.generation

-- `OCFS2_REFCOUNT_TREE_FL` of rf_flags: the root's list names leaf blocks
abbrev pub has_leaf_blocks : Volume → ℕ → Bool
has_leaf_blocks v root = is_refcount_block v root && has_bits (refcount_block v root).flags tree_refcount_flag

-- at most this many extent records, or refcount records, fit a refcount block
abbrev pub most_in_refcount_block : Volume → ℕ
most_in_refcount_block v = (block_size v - 0x90) / 16

-- What the list at byte 0x80 of a root with leaf blocks tells, read as a tree of extents is. A leaf record with clusters names
-- a block.
unfoldable pub leaf_list : Volume → ℕ → Extents
leaf_list v root = if has_leaf_blocks v root then read_list v ToBlocks root 0x80 (most_in_refcount_block v) else nothing_read

-- the blocks that the list names as leaves
abbrev pub refcount_leaves : Volume → ℕ → List ℕ
refcount_leaves v root = map (λ leaf. leaf.block) (leaf_list v root).leaves

-- the blocks of the tree: its root, the extent blocks of its list, and its leaves
unfoldable pub refcount_tree_blocks : Volume → ℕ → List ℕ
refcount_tree_blocks v root = root ∷ (leaf_list v root).blocks ++ refcount_leaves v root

-- ---- records
-- the header of the record list in a refcount block
abbrev pub refcount_header : Volume → ℕ → RefcountListHeader
refcount_header v b = refcount_list_header_of (drop 0x80 (v.at b))

-- rl_count fits the block, and rl_used fits rl_count
abbrev pub is_sound_refcount_header : Volume → ℕ → Bool
is_sound_refcount_header v b =
    nat_le (refcount_header v b).count (most_in_refcount_block v)
    && nat_le (refcount_header v b).used (refcount_header v b).count

-- the records of a block, none where it or its header is at fault
unfoldable pub refcount_records : Volume → ℕ → List RefcountRec
refcount_records v b =
    if is_refcount_block v b && is_sound_refcount_header v b
    then table refcount_rec_of 16 0x90 (refcount_header v b).used (v.at b)
    else []

-- What was read of a tree's records, in order.
pub record Refcounts : Type 0 where
  pub records : List PlacedRefcount
  -- the blocks that are no refcount blocks, or whose records are at fault
  pub faults : List ℕ

-- the cluster behind the last of these records
abbrev pub refcount_end : List PlacedRefcount → ℕ
refcount_end records = fold (λ _ p. p.fields.cpos + p.fields.clusters) 0 records

-- a record after those that end at cluster `low`: it rises and does not overlap them, it has clusters, all in range, and they
-- are referred to
unfoldable pub is_sound_refcount : Volume → ℕ → RefcountRec → Bool
is_sound_refcount v low r =
    nat_le low r.cpos
    && nat_lt 0 r.cpos
    && nat_lt 0 r.clusters
    && nat_le (r.cpos + r.clusters) v.geo.clusters
    && nat_lt 0 r.refcount

-- the records of one block, up to the first bad one
abbrev pub read_refcounts : Volume → ℕ → List RefcountRec → Refcounts → Refcounts
read_refcounts v b [] t = t
read_refcounts v b (r ∷ rs) t =
    if is_sound_refcount v (refcount_end t.records) r
    then read_refcounts v b rs (record t { records = push t.records (record { block = b; fields = r }) })
    else record t { faults = push t.faults b }

-- one block with records
abbrev pub read_refcount_block : Volume → Refcounts → ℕ → Refcounts
read_refcount_block v t b =
    if is_refcount_block v b && is_sound_refcount_header v b
    then read_refcounts v b (refcount_records v b) t
    else record t { faults = push t.faults b }

-- the blocks of the tree that hold records
abbrev pub record_blocks : Volume → ℕ → List ℕ
record_blocks v root = if has_leaf_blocks v root then refcount_leaves v root else root ∷ []

-- the records of the tree, block by block
unfoldable pub refcounts : Volume → ℕ → Refcounts
refcounts v root = fold (read_refcount_block v) (record { records = []; faults = [] }) (record_blocks v root)

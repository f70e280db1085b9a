-- Where nothing fails, blocks that agree on the held ones have the same indexes.
use Rattle.std.proofs.Common.{◌≡◌, inl, inr, ℕ, ◌-◌, ◌/◌, ◌&&◌, not, cond, List, [], ◌∷◌, map, refl, sym, ◌∙◌, ap}
use Rattle.std.specs.Prelude.{filter, flat_map}
use Rattle.std.specs.List.{Contains}
use Rattle.std.proofs.lemmas.Bool.{cases_Bool}
use Rattle.o2_ondisk.specs.Dinodes.{dinode_of}
use Rattle.o2_model.specs.Words.{among}
use Rattle.o2_model.specs.Volume.{Volume, over, block_size}
use Rattle.o2_laws.specs.Frames.{SameOn}
use Rattle.o2_model.specs.Extents.{Extents, nothing_read, read_list}
use Rattle.o2_model.specs.Extents.LeafRule.{ToClusters}
use Rattle.o2_model.specs.Inodes.{is_directory}
use Rattle.o2_model.specs.LeafRecords.{blocks_under}
use Rattle.o2_model.specs.Directories.{dir_blocks, directory_entries}
use Rattle.o2_model.specs.Groups.{inodes_of}
use Rattle.o2_model.specs.Indexes.{is_indexed, indexed_directories, index_root, is_index_root, is_inline_index, index_extents, index_blocks, all_index_blocks, index_clusters, index_leaves, dx_entries_at, is_sound_index_leaf, index_entries}
use Rattle.o2_model.specs.Failing.{failing}
use Rattle.o2_laws.proofs.Held.HeldBlocks.{AgreesOnHeld}
use Rattle.o2_laws.proofs.Members.{contains_among}
use Rattle.o2_laws.proofs.Agreeing.{filter_agree_on, flat_map_agree}
use Rattle.o2_laws.proofs.Readings.{list_same}
use Rattle.o2_laws.proofs.SameEntries.{dir_blocks_same}
use Rattle.o2_laws.proofs.Held.DataHeld.{directory_held}
use Rattle.o2_laws.proofs.Held.OwnInodes.{directory_apart}
use Rattle.o2_laws.proofs.Held.HeldTells.{dinode_same, listed_is_inode, held_tell_extents, held_tell_entries}
use Rattle.o2_laws.proofs.Held.HeldTables.{held_tell_inodes}
use Rattle.o2_laws.proofs.Kept.IndexesHold.{indexed_is, index_well, index_reads, index_root_held, index_block_held}
use Rattle.o2_laws.proofs.Kept.IndexClaims.{index_leaf_held}

-- ---- which there are
indexed_same : (v : Volume) (at : ℕ → List ℕ) (d : ℕ) → at d ≡ v.at d → is_indexed (over v at) d ≡ is_indexed v d
unfolding is_indexed is_directory
indexed_same v at d same = rw same refl

pub held_tell_indexed : (v : Volume) (at : ℕ → List ℕ) → failing v ≡ [] → AgreesOnHeld v at → indexed_directories (over v at) ≡ indexed_directories v
unfolding indexed_directories
held_tell_indexed v at none agrees =
    ap (filter (is_indexed (over v at))) (held_tell_inodes v at none agrees)
    ∙ filter_agree_on (is_indexed (over v at)) (is_indexed v) (inodes_of v) (λ d is. indexed_same v at d (dinode_same v at d agrees (listed_is_inode v d is)))

-- ---- the list of an index
-- what is read of it, where the root is this block
abbrev read_index : Volume → ℕ → ℕ → Extents
read_index v d root = cond (is_index_root v d root && not (is_inline_index v root)) (read_list v (ToClusters 3) root 0xc0 ((block_size v - 208) / 16)) nothing_read

pub root_same : (v : Volume) (at : ℕ → List ℕ) (d b : ℕ) → at b ≡ v.at b → is_index_root (over v at) d b ≡ is_index_root v d b
unfolding is_index_root
root_same v at d b same = rw same refl

inline_same : (v : Volume) (at : ℕ → List ℕ) (b : ℕ) → at b ≡ v.at b → is_inline_index (over v at) b ≡ is_inline_index v b
inline_same v at b same = rw same refl

read_same : (v : Volume) (at : ℕ → List ℕ) (d root : ℕ) → at root ≡ v.at root → SameOn (read_index v d root).seen v at → (read_index v d root).faults ≡ []
    → read_index (over v at) d root ≡ read_index v d root
read_same v at d root here same none =
    let test : (is_index_root (over v at) d root && not (is_inline_index (over v at) root)) ≡ (is_index_root v d root && not (is_inline_index v root))
    = ap (λ x. x && not (is_inline_index (over v at) root)) (root_same v at d root here) ∙ ap (λ x. is_index_root v d root && not x) (inline_same v at root here) in
    elim (cases_Bool (is_index_root v d root && not (is_inline_index v root))) [
      | inr other ↦ rw (test, other) refl
      | inl has ↦ rw (test, has) (list_same v at (ToClusters 3) root 0xc0 ((block_size v - 208) / 16) here (rw has at same) (rw has at none))
    ]

root_number : (v : Volume) (at : ℕ → List ℕ) (d : ℕ) → at d ≡ v.at d → index_root (over v at) d ≡ index_root v d
root_number v at d same = ap (λ bytes. (dinode_of bytes).dx_root) same

list_read : (v : Volume) (at : ℕ → List ℕ) (d : ℕ) → at d ≡ v.at d → at (index_root v d) ≡ v.at (index_root v d) → SameOn (index_extents v d).seen v at → (index_extents v d).faults ≡ []
    → index_extents (over v at) d ≡ index_extents v d
unfolding index_extents
list_read v at d inode root same none = ap (read_index (over v at) d) (root_number v at d inode) ∙ read_same v at d (index_root v d) root same none

-- ---- what an index stands on
pub record SameIndex (v : Volume) (at : ℕ → List ℕ) (d : ℕ) : Type 0 where
  pub inode : at d ≡ v.at d
  pub root : at (index_root v d) ≡ v.at (index_root v d)
  pub list : index_extents (over v at) d ≡ index_extents v d
  pub blocks : SameOn (index_extents v d).blocks v at
  pub leaves : SameOn (index_leaves v d) v at
  pub entries : directory_entries (over v at) d ≡ directory_entries v d
  pub parts : dir_blocks (over v at) d ≡ dir_blocks v d
  pub bytes : SameOn (map (λ x. x.block) (dir_blocks v d)) v at

pub same_index : (v : Volume) (at : ℕ → List ℕ) (d : ℕ) → failing v ≡ [] → AgreesOnHeld v at → Contains (indexed_directories v) d → SameIndex v at d
same_index v at d none agrees is =
    let indexed = indexed_is v d is in
    let apart = directory_apart v d none indexed.directory in
    let inode : at d ≡ v.at d = dinode_same v at d agrees indexed.inode in
    let root : at (index_root v d) ≡ v.at (index_root v d) = agrees.same (index_root v d) (index_root_held v d none is) in
    let reads = index_reads v d none is in
    let blocks : SameOn (index_extents v d).blocks v at = record { same = λ b h. agrees.same b (index_block_held v d b none is h) } in
    let seen : SameOn (index_extents v d).seen v at = record { same = λ b h. blocks.same b (ap (λ bs. among bs b) (sym ((index_well v d).seen reads)) ∙ h) } in
    let bytes : SameOn (map (λ x. x.block) (dir_blocks v d)) v at = record { same = λ b h. agrees.same b (directory_held v d b indexed.inode apart h) } in
    record {
      inode = inode;
      root = root;
      list = list_read v at d inode root seen reads;
      blocks = blocks;
      leaves = record { same = λ b h. agrees.same b (index_leaf_held v d b none is h) };
      entries = held_tell_entries v at d none agrees indexed.inode apart;
      parts = dir_blocks_same v at d inode (held_tell_extents v at d none agrees indexed.inode) bytes;
      bytes = bytes;
    }

pub held_tell_index_extents : (v : Volume) (at : ℕ → List ℕ) (d : ℕ) → failing v ≡ [] → AgreesOnHeld v at → Contains (indexed_directories v) d → index_extents (over v at) d ≡ index_extents v d
held_tell_index_extents v at d none agrees is = (same_index v at d none agrees is).list

pub held_tell_index_leaves : (v : Volume) (at : ℕ → List ℕ) (d : ℕ) → failing v ≡ [] → AgreesOnHeld v at → Contains (indexed_directories v) d → index_leaves (over v at) d ≡ index_leaves v d
held_tell_index_leaves v at d none agrees is = ap (λ (t : Extents). flat_map (blocks_under v) t.leaves) (held_tell_index_extents v at d none agrees is)

-- ---- its blocks and clusters
blocks_same : (v : Volume) (at : ℕ → List ℕ) (d : ℕ) → SameIndex v at d → index_blocks (over v at) d ≡ index_blocks v d
unfolding index_blocks
blocks_same v at d same =
    ap (λ r. r ∷ (index_extents (over v at) d).blocks) (root_number v at d same.inode) ∙ ap (λ (t : Extents). index_root v d ∷ t.blocks) same.list

pub held_tell_index_blocks : (v : Volume) (at : ℕ → List ℕ) (d : ℕ) → failing v ≡ [] → AgreesOnHeld v at → Contains (indexed_directories v) d → index_blocks (over v at) d ≡ index_blocks v d
held_tell_index_blocks v at d none agrees is = blocks_same v at d (same_index v at d none agrees is)

pub held_tell_all_index_blocks : (v : Volume) (at : ℕ → List ℕ) → failing v ≡ [] → AgreesOnHeld v at → all_index_blocks (over v at) ≡ all_index_blocks v
unfolding all_index_blocks
held_tell_all_index_blocks v at none agrees =
    ap (flat_map (index_blocks (over v at))) (held_tell_indexed v at none agrees)
    ∙ flat_map_agree (index_blocks (over v at)) (index_blocks v) (indexed_directories v) (λ d is. held_tell_index_blocks v at d none agrees is)

pub index_clusters_same : (v : Volume) (at : ℕ → List ℕ) (d : ℕ) → SameIndex v at d → index_clusters (over v at) d ≡ index_clusters v d
unfolding index_clusters
index_clusters_same v at d same = rw same.list refl

pub held_tell_index_clusters : (v : Volume) (at : ℕ → List ℕ) (d : ℕ) → failing v ≡ [] → AgreesOnHeld v at → Contains (indexed_directories v) d
    → index_clusters (over v at) d ≡ index_clusters v d
held_tell_index_clusters v at d none agrees is = index_clusters_same v at d (same_index v at d none agrees is)

-- ---- its entries
pub index_entries_same : (v : Volume) (at : ℕ → List ℕ) (d : ℕ) → SameIndex v at d → index_entries (over v at) d ≡ index_entries v d
unfolding index_entries
index_entries_same v at d same =
    let each = flat_map_agree (dx_entries_at (over v at) 0x28) (dx_entries_at v 0x28) (index_leaves v d) (λ b is. rw (same.leaves.same b (contains_among (index_leaves v d) b is)) refl) in
    rw (same.inode, same.root, same.list, each) refl

pub held_tell_index_entries : (v : Volume) (at : ℕ → List ℕ) (d : ℕ) → failing v ≡ [] → AgreesOnHeld v at → Contains (indexed_directories v) d → index_entries (over v at) d ≡ index_entries v d
held_tell_index_entries v at d none agrees is = index_entries_same v at d (same_index v at d none agrees is)

pub leaf_same : (v : Volume) (at : ℕ → List ℕ) (b : ℕ) → at b ≡ v.at b → is_sound_index_leaf (over v at) b ≡ is_sound_index_leaf v b
unfolding is_sound_index_leaf
leaf_same v at b same = rw same refl

-- Where nothing fails, an index holds over blocks that agree on the held ones just as it does on the volume.
use Rattle.std.proofs.Common.{◌≡◌, ℕ, Bool, ◌&&◌, ◌==◌, List, [], refl, ◌∙◌, ap}
use Rattle.std.specs.Prelude.{filter}
use Rattle.std.specs.List.{Contains, list_all}
use Rattle.o2_model.specs.Volume.{Volume, over}
use Rattle.o2_model.specs.declared.entry.Entry.{Entry}
use Rattle.o2_model.specs.Directories.{DirBlock, dir_blocks, directory_entries}
use Rattle.o2_model.specs.Metadata.{extent_block_origin}
use Rattle.o2_model.specs.declared.origin.Origin.{Origin}
use Rattle.o2_model.specs.Allocators.{are_metadata}
use Rattle.o2_model.specs.Indexes.{indexed_directories, index_root, index_extents, index_leaves, is_sound_index_leaf}
use Rattle.o2_model.specs.SoundIndexes.{is_own_block, has_sound_index_root, has_sound_index_lists, has_own_index_clusters, dir_block_bytes, ends_in_trailer, has_trailers, has_sound_index_counts, is_found_by_hash, is_found_in_index, is_sound_index}
use Rattle.o2_ondisk.specs.NameHashes.{is_ascii_name}
use Rattle.o2_model.specs.Failing.{failing}
use Rattle.o2_laws.proofs.Held.HeldBlocks.{AgreesOnHeld}
use Rattle.o2_laws.proofs.Found.{found, any_map}
use Rattle.o2_laws.proofs.Members.{contains_among}
use Rattle.std.proofs.lemmas.Bool.{eq-eqb}
use Rattle.o2_laws.proofs.Agreeing.{all_agree}
use Rattle.o2_laws.proofs.Kept.IndexesKeep.{SameIndex, same_index, root_same, leaf_same, index_clusters_same, index_entries_same, held_tell_all_index_blocks}
use Rattle.o2_laws.proofs.Kept.MetadataKeeps.{held_tell_group_with_bit, held_tell_metadata}

-- the blocks that nothing else uses
abbrev SameOwnBlocks : Volume → (ℕ → List ℕ) → Type 0
SameOwnBlocks v at = (o : Origin) (b : ℕ) → is_own_block (over v at) o b ≡ is_own_block v o b

own_blocks_same : (v : Volume) (at : ℕ → List ℕ) → failing v ≡ [] → AgreesOnHeld v at → SameOwnBlocks v at
unfolding is_own_block
own_blocks_same v at none agrees o b =
    rw (held_tell_group_with_bit v at are_metadata b none agrees, held_tell_metadata v at none agrees, held_tell_all_index_blocks v at none agrees) refl

-- ---- the parts of what an index is asked
root_holds : (v : Volume) (at : ℕ → List ℕ) (d : ℕ) → SameOwnBlocks v at → SameIndex v at d → has_sound_index_root (over v at) d ≡ has_sound_index_root v d
root_holds v at d own same = rw (same.inode, same.root, root_same v at d (index_root v d) same.root, own _ (index_root v d)) refl

origin_same : (v : Volume) (at : ℕ → List ℕ) (b : ℕ) → at b ≡ v.at b → extent_block_origin (over v at) b ≡ extent_block_origin v b
origin_same v at b same = rw same refl

lists_hold : (v : Volume) (at : ℕ → List ℕ) (d : ℕ) → SameOwnBlocks v at → SameIndex v at d → has_sound_index_lists (over v at) d ≡ has_sound_index_lists v d
lists_hold v at d own same =
    let own_block = λ (w : Volume) (b : ℕ). is_own_block w (extent_block_origin w b) b in
    let blocks = all_agree (own_block (over v at)) (own_block v) (index_extents v d).blocks
    (λ b is. ap (λ o. is_own_block (over v at) o b) (origin_same v at b (same.blocks.same b (contains_among (index_extents v d).blocks b is))) ∙ own (extent_block_origin v b) b) in
    let leaves = all_agree (is_sound_index_leaf (over v at)) (is_sound_index_leaf v) (index_leaves v d) (λ b is. leaf_same v at b (same.leaves.same b (contains_among (index_leaves v d) b is))) in
    rw (same.inode, same.root, same.list, blocks, leaves) refl

clusters_hold : (v : Volume) (at : ℕ → List ℕ) (claimed : List ℕ) (d : ℕ) → SameIndex v at d → has_own_index_clusters (over v at) claimed d ≡ has_own_index_clusters v claimed d
clusters_hold v at claimed d same = rw (index_clusters_same v at d same) refl

trailers_hold : (v : Volume) (at : ℕ → List ℕ) (d : ℕ) → SameIndex v at d → has_trailers (over v at) d ≡ has_trailers v d
trailers_hold v at d same =
    ap (list_all (λ b. ends_in_trailer (dir_block_bytes (over v at) d b))) same.parts
    ∙ all_agree (λ b. ends_in_trailer (dir_block_bytes (over v at) d b)) (λ b. ends_in_trailer (dir_block_bytes v d b)) (dir_blocks v d) (λ b is.
    let here = any_map (λ m. b.block == m) (λ (x : DirBlock). x.block) (dir_blocks v d) ∙ found (λ x. b.block == x.block) (dir_blocks v d) b is (eq-eqb b.block b.block refl) in
    rw (same.inode, same.bytes.same b.block here) refl)

counts_hold : (v : Volume) (at : ℕ → List ℕ) (d : ℕ) → SameIndex v at d → has_sound_index_counts (over v at) d ≡ has_sound_index_counts v d
counts_hold v at d same = rw (same.inode, same.root, same.entries, index_entries_same v at d same, same.parts) refl

found_holds : (v : Volume) (at : ℕ → List ℕ) (d : ℕ) → SameIndex v at d → is_found_in_index (over v at) d ≡ is_found_in_index v d
found_holds v at d same =
    let ascii = λ (e : Entry). is_ascii_name e.name in
    ap (λ es. list_all (is_found_by_hash (over v at) d) (filter ascii es)) same.entries
    ∙ all_agree (is_found_by_hash (over v at) d) (is_found_by_hash v d) (filter ascii (directory_entries v d)) (λ e is. rw (same.entries, index_entries_same v at d same) refl)

-- ---- all of it
six_same : (a b c d e f p q r s t u : Bool) → a ≡ p → b ≡ q → c ≡ r → d ≡ s → e ≡ t → f ≡ u → (a && b && c && d && e && f) ≡ (p && q && r && s && t && u)
six_same a b c d e f p q r s t u same1 same2 same3 same4 same5 same6 = cc

-- for any claims before it
pub held_tell_sound_index : (v : Volume) (at : ℕ → List ℕ) (claimed : List ℕ) (d : ℕ) → failing v ≡ [] → AgreesOnHeld v at → Contains (indexed_directories v) d
    → is_sound_index (over v at) claimed d ≡ is_sound_index v claimed d
unfolding is_sound_index
held_tell_sound_index v at claimed d none agrees is =
    let own : SameOwnBlocks v at = own_blocks_same v at none agrees in
    let same = same_index v at d none agrees is in
    six_same _ _ _ _ _ _ _ _ _ _ _ _
    (root_holds v at d own same) (lists_hold v at d own same) (clusters_hold v at claimed d same) (trailers_hold v at d same) (counts_hold v at d same) (found_holds v at d same)

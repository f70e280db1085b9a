-- META_SUBALLOC, number 16, at the extent block or refcount block: its suballoc_slot and suballoc_bit are those of its group and
-- bit, and suballoc_loc is 0 or the group; a block that is from no extent_alloc is not judged, nor is one without the signature
-- and number of a refcount block.
use Rattle.std.specs.Prelude.{ℕ, List, ◌++◌, filter, flat_map}
use Rattle.o2_model.specs.Faults.{fails_at}
use Rattle.o2_model.specs.Volume.{Volume}
use Rattle.o2_model.specs.Allocators.{are_metadata}
use Rattle.o2_model.specs.RefcountTrees.{is_refcount_block, refcount_leaves, refcount_roots, leaf_list}
use Rattle.o2_model.specs.Metadata.{has_origin, extent_block_origin, refcount_block_origin, list_blocks}

-- the extent blocks of inodes' lists and of refcount trees
abbrev pub extent_blocks : Volume → List ℕ
extent_blocks v = list_blocks v ++ flat_map (λ root. (leaf_list v root).blocks) (refcount_roots v)

-- the roots and leaves of refcount trees
abbrev pub roots_and_leaves : Volume → List ℕ
roots_and_leaves v = refcount_roots v ++ flat_map (refcount_leaves v) (refcount_roots v)

abbrev pub meta_suballoc_faults : Volume → List ℕ
meta_suballoc_faults v =
    fails_at (λ b. b) (λ b. has_origin v are_metadata (extent_block_origin v b) b) (extent_blocks v)
    ++ fails_at (λ b. b) (λ b. has_origin v are_metadata (refcount_block_origin v b) b) (filter (is_refcount_block v) (roots_and_leaves v))

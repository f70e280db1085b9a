-- LAST_EB, number 18, at the dinode or the refcount root that has the list: i_last_eb_blk, or rf_last_eb_blk, is the last leaf
-- block of the list, or 0 where it has none.
use Rattle.std.specs.Prelude.{ℕ, ◌==◌, List, ◌++◌, filter, fold}
use Rattle.o2_model.specs.Faults.{fails_at}
use Rattle.o2_model.specs.Volume.{Volume, dinode}
use Rattle.o2_model.specs.Extents.{Extents}
use Rattle.o2_model.specs.Inodes.{extents, has_list}
use Rattle.o2_model.specs.Groups.{inodes_of}
use Rattle.o2_model.specs.RefcountTrees.{refcount_roots, refcount_block, has_leaf_blocks, leaf_list}
use Rattle.o2_model.specs.Checks.EbNext.{leaf_blocks}

abbrev pub last_leaf : Volume → Extents → ℕ
last_leaf v t = fold (λ _ b. b) 0 (leaf_blocks v t)

abbrev pub last_eb_faults : Volume → List ℕ
last_eb_faults v =
    fails_at (λ b. b) (λ b. (dinode v b).last_eb_blk == last_leaf v (extents v b)) (filter (has_list v) (inodes_of v))
    ++ fails_at (λ b. b) (λ root. (refcount_block v root).last_eb_blk == last_leaf v (leaf_list v root)) (filter (has_leaf_blocks v) (refcount_roots v))

-- REF_USERS, number 33, at the root of the tree: rf_count is the number of the tree's inodes.
use Rattle.std.specs.Prelude.{ℕ, ◌%◌, ◌^◌, ◌==◌, List, filter, length}
use Rattle.o2_model.specs.Faults.{fails_at}
use Rattle.o2_model.specs.Volume.{Volume}
use Rattle.o2_model.specs.RefcountTrees.{refcount_block, refcount_roots, inodes_of_tree, is_refcount_block}

abbrev pub ref_users_faults : Volume → List ℕ
ref_users_faults v =
    fails_at (λ root. root) (λ root. (refcount_block v root).count == length (inodes_of_tree v root) % 2 ^ 32) (filter (is_refcount_block v) (refcount_roots v))

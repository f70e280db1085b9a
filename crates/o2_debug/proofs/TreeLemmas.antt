-- The refcount tree of a file, and the records that it shares.
use Rattle.std.proofs.Common.{◌≡◌, inl, inr, ℕ, List, [], ◌++◌, refl, sym, ◌∙◌, ap}
use Rattle.std.specs.Prelude.{flat_map}
use Rattle.std.proofs.lemmas.Bool.{cases_Bool}
use Rattle.std.proofs.lemmas.List.{append-nil}
use Rattle.o2_ondisk.specs.declared.dinode.Dinode.{Dinode}
use Rattle.o2_model.specs.Volume.{Volume, dinode}
use Rattle.o2_model.specs.Extents.{Extents, nothing_read}
use Rattle.o2_model.specs.Faults.{fails_unless}
use Rattle.o2_model.specs.Inodes.{extents, has_list, extent_lists_of, leaf_records, records_of}
use Rattle.o2_model.specs.Checks.RefTree.{ref_tree_faults_of}
use Rattle.o2_debug.specs.Objects.{has_tree_for_records, tree_faults}

-- what the lists of an inode give is what its own list does
own_list_gives : {A : Type 0} (f : Extents → List A) → f nothing_read ≡ [] → (v : Volume) (b : ℕ) → flat_map f (extent_lists_of v b) ≡ f (extents v b)
unfolding extent_lists_of extents
own_list_gives f none v b = elim (cases_Bool (has_list v b)) [
  | inl has ↦ rw has (append-nil _)
  | inr no_list ↦ rw no_list (sym none)
]

pub marked_records : (v : Volume) (b : ℕ) → records_of v b ≡ leaf_records v b
marked_records v b = own_list_gives (λ t. t.leaves) refl v b

-- where REF_TREE fails for the tree that the dinode names, and then for the inode itself
pub faults_are : (v : Volume) (b : ℕ) (d : Dinode) (first all : List ℕ) → d ≡ dinode v b → first ≡ ref_tree_faults_of v d.refcount_loc → all ≡ first ++ fails_unless b (has_tree_for_records v b) → all ≡ tree_faults v b
unfolding tree_faults
faults_are v b d first all is of_tree are =
    are ∙ ap (λ (bs : List ℕ). bs ++ fails_unless b (has_tree_for_records v b)) (of_tree ∙ ap (λ (e : Dinode). ref_tree_faults_of v e.refcount_loc) is)

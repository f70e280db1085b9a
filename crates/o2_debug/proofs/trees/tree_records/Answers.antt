-- The blocks at which REF_TREE fails are those of the tree that the file names, and the file's own.
use Rattle.std.proofs.Common.{◌≡◌, inl, ℕ, refl, subst, sym, ◌∙◌, ap}
use Rattle.o2_ondisk.specs.declared.dinode.Dinode.{Dinode}
use Rattle.o2_model.specs.RefcountTrees.{refcounts}
use Rattle.o2_model.specs.Words.{IsLeast}
use Rattle.o2_debug.specs.Objects.{tree_faults}
use Rattle.o2_debug.proofs.TreeLemmas.{faults_are}
use Rattle.o2_debug.proofs.trees.tree_records.Goals as goal

pub returns-in-Some-clause-fails : goal.returns-in-Some-clause-fails
returns-in-Some-clause-fails g c = record {
  own = inl refl;
  first = λ v shows.
      let sound = c.requires.sound v shows in
      let are : c.as_slice.result.now ≡ tree_faults v c.args.reading.now.inode =
      c.as_slice.ensures.value
      ∙ faults_are v c.args.reading.now.inode c.args.reading.now.dinode _ _ sound.dinode (c.in_ok-tree.ensures.faults v shows)
      (c.in_ok-add_own.ensures v shows.numbers sound (c.requires.shares v shows)) in
      inl (refl, subst (IsLeast c.in-Some.block) are c.in-Some.ensures);
}

pub returns-clause-told : goal.returns-clause-told
returns-clause-told g c v shows =
    let sound = c.requires.sound v shows in
    let are : c.as_slice.result.now ≡ tree_faults v c.args.reading.now.inode =
    c.as_slice.ensures.value
    ∙ faults_are v c.args.reading.now.inode c.args.reading.now.dinode _ _ sound.dinode (c.in_ok-tree.ensures.faults v shows)
    (c.in_ok-add_own.ensures v shows.numbers sound (c.requires.shares v shows)) in
    let row = c.in_ok-tree.ensures.row v shows in (
      (sym are ∙ c.in_default.ensures, tt),
      row.0.records ∙ ap (λ (root : ℕ). (refcounts v root).records) (row.1 ∙ ap (λ (d : Dinode). d.refcount_loc) sound.dinode),
    )

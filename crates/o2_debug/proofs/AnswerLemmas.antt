-- What the parts of an answer tell of the whole.
use Rattle.std.proofs.Common.{◌≡◌, inl, inr, ℕ, Bool, true, false, ◌&&◌, List, [], refl, subst, ap, sym, ◌∙◌}
use Rattle.std.specs.Prelude.{if◌then◌else◌}
use Rattle.o2_disk.specs.Output.{SinkState}
use Rattle.o2_ondisk.specs.declared.dinode.Dinode.{Dinode}
use Rattle.o2_model.specs.declared.check.Check.{Check}
use Rattle.o2_model.specs.Words.{IsLeast}
use Rattle.o2_model.specs.Volume.{Volume, dinode}
use Rattle.o2_model.specs.Inodes.{kind, is_directory, is_directory_kind, is_file_kind}
use Rattle.o2_model.specs.Checks.DirBlock.{dir_block_faults}
use Rattle.o2_model.specs.RefcountTrees.{has_refcount}
use Rattle.o2_view.specs.OwnChecks.{NoneFails, FailsFirst, IsOwn}
use Rattle.o2_dir.specs.Fails.{directory_checks}
use Rattle.o2_debug.specs.declared.query.PathQuery.{PathQuery}
use Rattle.o2_debug.specs.declared.query.PathQuery.TheVariants.{Ls, Stat, Cat, Refcount}
use Rattle.o2_debug.specs.Objects.{object_checks, query_checks, is_sharing_file, tree_checks, tree_faults}
use Rattle.o2_debug.specs.Answers.{is_for, IsAnswerable, Answers, AnswersSome, BeginsAnswer}

module _ (v : Volume) (b : ℕ) (d : Dinode) (is : d ≡ dinode v b) where
  pub asked_kind : (query : PathQuery) (test : Bool) → is_for query d ≡ test → is_for query (dinode v b) ≡ test
  asked_kind query test told = ap (is_for query) (sym is) ∙ told

pub is_directory_of : (v : Volume) (b : ℕ) → is_directory_kind (kind v b) ≡ true → is_directory v b ≡ true
unfolding is_directory
is_directory_of v b is = is

-- ---- the checks of a query
-- which checks they are is the same for each inode
pub own_for : (query : PathQuery) (m n : ℕ) (check : Check) → IsOwn (query_checks query m) check → IsOwn (query_checks query n) check
own_for (Ls path) m n check own = own
own_for (Stat path) m n check own = own
own_for (Cat path) m n check own = own
own_for (Refcount path) m n check own = own

-- ---- of a directory
module _ (v : Volume) (b : ℕ) (path : List ℕ) (sound : NoneFails (object_checks b) v) (is : is_directory_kind (kind v b) ≡ true) where
  same_faults : (if is_directory_kind (kind v b) then dir_block_faults v b else []) ≡ dir_block_faults v b
  same_faults = rw is refl

  pub ls_answerable : NoneFails (directory_checks b) v → IsAnswerable (Ls path) v b
  ls_answerable none = record { sound = (sound.0, (none.0, (none.1.0, (same_faults ∙ none.1.1.0, tt)))); kind = is }

  pub directory_first : (check : Check) (at : ℕ) → FailsFirst (directory_checks b) v check at → FailsFirst (query_checks (Ls path) b) v check at
  directory_first check at (inl first) = inr (sound.0, inl first)
  directory_first check at (inr (extents, inl first)) = inr (sound.0, inr (extents, inl first))
  directory_first check at (inr (extents, inr (fits, inl first))) = inr (sound.0, inr (extents, inr (fits, inl (first.0, subst (IsLeast at) (sym same_faults) first.1))))
  directory_first check at (inr (extents, inr (fits, inr (filled, none)))) = absurd none

-- ---- of a file that shares clusters
second_of : (x y : Bool) → (x && y) ≡ true → y ≡ true
second_of true y both = both
second_of false y both = absurd (let none : ⊥ = cc both in none)

pub shares : (v : Volume) (b : ℕ) → is_sharing_file (dinode v b) ≡ true → has_refcount v b ≡ true
shares v b is = second_of _ _ is

module _ (v : Volume) (b : ℕ) (path : List ℕ) (sound : NoneFails (object_checks b) v) (is : is_sharing_file (dinode v b) ≡ true) where
  same_tree_faults : (if is_sharing_file (dinode v b) then tree_faults v b else []) ≡ tree_faults v b
  same_tree_faults = rw is refl

  pub refcount_answerable : NoneFails (tree_checks b) v → IsAnswerable (Refcount path) v b
  refcount_answerable none = record { sound = (sound.0, (sound.1.0, (sound.1.1.0, (same_tree_faults ∙ none.0, tt)))); kind = is }

  pub tree_first : (check : Check) (at : ℕ) → FailsFirst (tree_checks b) v check at → FailsFirst (query_checks (Refcount path) b) v check at
  tree_first check at (inl first) = inr (sound.0, inr (sound.1.0, inr (sound.1.1.0, inl (first.0, subst (IsLeast at) (sym same_tree_faults) first.1))))
  tree_first check at (inr none) = absurd none.1

-- ---- of any inode, and of a file
module _ (v : Volume) (b : ℕ) (path : List ℕ) (sound : NoneFails (object_checks b) v) where
  pub stat_answerable : IsAnswerable (Stat path) v b
  stat_answerable = record { sound = sound; kind = refl }

  pub cat_answerable : is_file_kind (kind v b) ≡ true → IsAnswerable (Cat path) v b
  cat_answerable is = record { sound = sound; kind = is }

-- ---- of the same inode, by another name for its number
module _ (query : PathQuery) (v : Volume) {old new : SinkState} (m n : ℕ) (same : m ≡ n) where
  pub answers_as : Answers query v m old new → Answers query v n old new
  answers_as h = subst (λ (b : ℕ). Answers query v b old new) same h

  pub answers_some_as : AnswersSome query v m old new → AnswersSome query v n old new
  answers_some_as h = subst (λ (b : ℕ). AnswersSome query v b old new) same h

  pub begins_as : BeginsAnswer query v m old new → BeginsAnswer query v n old new
  begins_as h = subst (λ (b : ℕ). BeginsAnswer query v b old new) same h

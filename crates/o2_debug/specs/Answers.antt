-- When a query is answered for the inode at the end of its path, and by what.
use Rattle.std.specs.Prelude.{◌≡◌, ◌⊎◌, ℕ, Bool, true, false, List}
use Rattle.o2_disk.specs.Output.{SinkState}
use Rattle.o2_ondisk.specs.Kinds.{kind_of_mode}
use Rattle.o2_ondisk.specs.declared.dinode.Dinode.{Dinode}
use Rattle.o2_model.specs.Volume.{Volume, dinode}
use Rattle.o2_model.specs.Inodes.{is_directory_kind, is_file_kind}
use Rattle.o2_view.specs.OwnChecks.{NoneFails}
use Rattle.o2_debug.specs.declared.query.PathQuery.{PathQuery}
use Rattle.o2_debug.specs.declared.query.PathQuery.TheVariants.{Ls, Stat, Cat, Refcount}
use Rattle.o2_debug.specs.Objects.{object_checks, query_checks, is_sharing_file}
use Rattle.o2_cause.specs.Taken.{Takes, TakesSome}
use Rattle.o2_debug.specs.Texts.{ls_text, stat_text, cat_text, refcount_text}

-- the path of the query
abbrev pub path_of : PathQuery → List ℕ
path_of (Ls path) = path
path_of (Stat path) = path
path_of (Cat path) = path
path_of (Refcount path) = path

-- the query is one for inodes with such a dinode
abbrev pub is_for : PathQuery → Dinode → Bool
is_for (Ls path) d = is_directory_kind (kind_of_mode d.mode)
is_for (Stat path) d = true
is_for (Cat path) d = is_file_kind (kind_of_mode d.mode)
is_for (Refcount path) d = is_sharing_file d

-- the text that it is answered by
abbrev pub text_of : PathQuery → Volume → ℕ → List ℕ
text_of (Ls path) v b = ls_text v b
text_of (Stat path) v b = stat_text v b
text_of (Cat path) v b = cat_text v b
text_of (Refcount path) v b = refcount_text v b

-- the query is answered for this inode: nothing that is judged for the query is wrong, and it is of a kind that the query is for
pub record IsAnswerable (query : PathQuery) (v : Volume) (b : ℕ) : Type 0 where
  pub sound : NoneFails (query_checks query b) v
  pub kind : is_for query (dinode v b) ≡ true

-- the query is answered for the inode, and the sink took its text
pub record Answers (query : PathQuery) (v : Volume) (b : ℕ) (old new : SinkState) : Type 0 where
  pub answered : IsAnswerable query v b
  pub taken : Takes old new (text_of query v b)

-- or the text's first bytes, maybe none or all
pub record AnswersSome (query : PathQuery) (v : Volume) (b : ℕ) (old new : SinkState) : Type 0 where
  pub answered : IsAnswerable query v b
  pub some : TakesSome old new (text_of query v b)

-- nothing was put, or first bytes of a text that answers the query
abbrev pub BeginsAnswer : PathQuery → Volume → ℕ → SinkState → SinkState → Type 0
BeginsAnswer query v b old new = (new ≡ old) ⊎ AnswersSome query v b old new

-- the inode is sound, but of a kind that the query is not for
pub record IsOfOtherKind (query : PathQuery) (v : Volume) (b : ℕ) : Type 0 where
  pub sound : NoneFails (object_checks b) v
  pub kind : is_for query (dinode v b) ≡ false

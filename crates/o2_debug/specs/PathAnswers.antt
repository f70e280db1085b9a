-- The answer to a query by its path.
use Rattle.std.specs.Prelude.{◌≡◌, ◌⊎◌, ℕ, true, List}
use Rattle.o2_model.specs.declared.check.Check.{Check}
use Rattle.o2_model.specs.Volume.{Volume, is_valid}
use Rattle.o2_view.specs.OwnChecks.{FailsFirst}
use Rattle.o2_dir.specs.Paths.{Begins, Leads, OnTheWay, Lacks, IsNoDirectory, FailsAt}
use Rattle.o2_debug.specs.declared.query.PathQuery.{PathQuery}
use Rattle.o2_debug.specs.Objects.{query_checks}
use Rattle.o2_debug.specs.Answers.{path_of, text_of, IsAnswerable, IsOfOtherKind}

-- the inode at which the query's path begins is a valid dinode
abbrev pub HasStart : PathQuery → Volume → Type 0
HasStart query v = (start : ℕ) (names : List (List ℕ)) → Begins v.geo (path_of query) start names → is_valid v start ≡ true

-- the query's path leads to this inode
abbrev pub PathLeads : PathQuery → Volume → ℕ → Type 0
PathLeads query v b = (start : ℕ) (names : List (List ℕ)) → Begins v.geo (path_of query) start names → Leads v start names b

-- This text answers the query: the path leads to an inode for which the query is answered, and it is that inode's.
pub record IsPathAnswer (query : PathQuery) (v : Volume) (text : List ℕ) : Type 0 where
  pub inode : ℕ
  pub leads : PathLeads query v inode
  pub answered : IsAnswerable query v inode
  pub is : text ≡ text_of query v inode

-- a name of the path has no live entry
abbrev pub LacksName : PathQuery → Volume → Type 0
LacksName query v = (start : ℕ) (names : List (List ℕ)) → Begins v.geo (path_of query) start names → OnTheWay Lacks v start names

-- an inode in the middle is no directory, or the last one is of a kind that the query is not for
abbrev pub LeadsToWrongKind : PathQuery → Volume → Type 0
LeadsToWrongKind query v = (start : ℕ) (names : List (List ℕ)) → Begins v.geo (path_of query) start names
    → OnTheWay IsNoDirectory v start names ⊎ ((b : ℕ) × (Leads v start names b × IsOfOtherKind query v b))

-- this is the first check that fails on the way, or for the last inode, and this is the least block at which it does
abbrev pub FailsOnPath : PathQuery → Volume → Check → ℕ → Type 0
FailsOnPath query v failing at = (start : ℕ) (names : List (List ℕ)) → Begins v.geo (path_of query) start names
    → OnTheWay (FailsAt failing at) v start names ⊎ ((b : ℕ) × (Leads v start names b × FailsFirst (query_checks query b) v failing at))

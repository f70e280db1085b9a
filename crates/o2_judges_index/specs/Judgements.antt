-- What is judged of indexes, one behind the other.
use Rattle.std.specs.Prelude.{◌≡◌, ℕ, List, [], ◌++◌, flat_map, filter, fold, if◌then◌else◌}
use Rattle.o2_model.specs.declared.check.Check.TheVariants as check
use Rattle.o2_model.specs.declared.claim.Claim.{Claim}
use Rattle.o2_model.specs.Faults.{fails_at, fails_unless}
use Rattle.o2_model.specs.Orders.{rising}
use Rattle.o2_model.specs.Volume.{Volume}
use Rattle.o2_model.specs.Claims.{structure_claims, inode_claims, claimed_clusters, with_index}
use Rattle.o2_model.specs.Indexes.{index_blocks}
use Rattle.o2_model.specs.SoundIndexes.{is_sound_index}
use Rattle.o2_model.specs.Checks.Dx.{holds_index, directories_with_sound_index}
use Rattle.o2_model.specs.Failing.{faults}
use Rattle.o2_claims.specs.Owners.{AreOwners}
use Rattle.o2_claims.specs.declared.claims.Claims.{Claims}
use Rattle.o2_judges_index.specs.declared.judge.IndexJudgement.{IndexJudgement}

-- The index of the directory was judged where these claims were made before.
pub record IsJudgedOne (v : Volume) (before : List Claim) (d : ℕ) (old new : IndexJudgement) (claims : Claims) : Type 0 where
  pub owners : AreOwners (with_index v before d) claims
  pub faults : new.faults.items ≡ old.faults.items ++ fails_unless d (is_sound_index v (claimed_clusters before) d)
  pub blocks : new.blocks.items ≡ old.blocks.items ++ (if is_sound_index v (claimed_clusters before) d then index_blocks v d else [])

-- The indexes of these directories were judged, the first of all.
pub record IsJudgedTo (v : Volume) (directories : List ℕ) (judged : IndexJudgement) (claims : Claims) : Type 0 where
  pub owners : AreOwners (fold (with_index v) (structure_claims v ++ inode_claims v) directories) claims
  pub faults : judged.faults.items ≡ fails_at (λ d. d) (holds_index v) directories
  pub blocks : judged.blocks.items ≡ flat_map (index_blocks v) (filter (holds_index v) directories)

-- It tells where DX fails, and the blocks of the indexes that hold.
pub record IsIndexJudgement (v : Volume) (judged : IndexJudgement) : Type 0 where
  pub faults : rising judged.faults.items ≡ rising (faults v check.Dx)
  pub blocks : judged.blocks.items ≡ flat_map (index_blocks v) (directories_with_sound_index v)

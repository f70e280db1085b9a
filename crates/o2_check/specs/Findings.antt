-- What is found out of the tables before the further checks are joined.
use Rattle.std.specs.Prelude.{◌≡◌, ℕ, List, map}
use Rattle.o2_model.specs.declared.check.Check.{Check}
use Rattle.o2_model.specs.declared.check.Check.TheVariants as check
use Rattle.o2_model.specs.Words.{among}
use Rattle.o2_model.specs.Orders.{rising}
use Rattle.o2_model.specs.Volume.{Volume}
use Rattle.o2_model.specs.Groups.{is_inode}
use Rattle.o2_model.specs.Claims.{claims_of}
use Rattle.o2_model.specs.Checks.BlockAllocBit.{blocks_in_use}
use Rattle.o2_model.specs.Failing.{faults}
use Rattle.o2_tally.specs.Again.{has_number}
use Rattle.o2_claims.specs.Owners.{AreOwners, clusters_of}
use Rattle.o2_judges_index.specs.Judgements.{IsIndexJudgement}
use Rattle.o2_judges_refcount.specs.References.{AreReferences}
use Rattle.o2_tree.specs.TreeWalks.{AreOrphans}
use Rattle.o2_walk.specs.TreeWalked.{IsWalk}
use Rattle.o2_check.specs.WholeTables.{AreTables}
use Rattle.o2_check.specs.declared.claims.JudgedClaims.{JudgedClaims}
use Rattle.o2_check.specs.declared.findings.Findings.{Findings}

-- the check with each block at which it fails, rising
abbrev pub pairs_at : Volume → Check → List (Check × ℕ)
pairs_at v c = map (λ b. (c, b)) (rising (faults v c))

-- These are the claims of the volume, and what is judged by the claims before one.
pub record AreJudgedClaims (v : Volume) (judged : JudgedClaims) : Type 0 where
  pub clusters : clusters_of judged.claims ≡ v.geo.clusters
  pub owners : AreOwners (claims_of v) judged.claims
  pub duplicates : rising judged.duplicates.items ≡ rising (faults v check.DupClusters)
  pub indexes : IsIndexJudgement v judged.indexes
  pub windows : rising judged.windows.items ≡ rising (faults v check.LocalAlloc)
  pub logs : rising judged.logs.items ≡ rising (faults v check.TruncateLog)

-- The findings are those of the volume.
pub record AreFindings (v : Volume) (f : Findings) : Type 0 where
  pub tables : AreTables v f.tables
  pub walk : IsWalk v f.walk
  pub orphans : AreOrphans v f.orphans.items
  pub references : AreReferences v f.references
  pub judged : AreJudgedClaims v f.judged
  pub in_use : (b : ℕ) → has_number f.in_use b ≡ among (blocks_in_use v) b
  pub inodes : (b : ℕ) → has_number f.inodes b ≡ is_inode v b
  pub dirty : rising f.dirty.items ≡ rising (faults v check.JournalDirty)

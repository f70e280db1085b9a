-- What a report tells of a volume.
use Rattle.std.specs.Prelude.{◌≡◌, ℕ, map, None}
use Rattle.o2_model.specs.Volume.{Volume}
use Rattle.o2_model.specs.Files.{times_in}
use Rattle.o2_model.specs.Tree.{tree_entries}
use Rattle.o2_model.specs.Claims.{claims_of}
use Rattle.o2_model.specs.Failing.{failing}
use Rattle.o2_model.specs.Structures.{unsupported_structure}
use Rattle.o2_model.specs.Checks.OrphanEntry.{orphan_entries}
use Rattle.o2_claims.specs.Owners.{AreOwners, clusters_of}
use Rattle.o2_skeleton.specs.Skeleton.{HasSkeleton}
use Rattle.o2_tally.specs.Gathered.{count_of}
use Rattle.o2_check.specs.declared.report.Report.{Report}

-- how many names the report tells of the inode
abbrev pub names_in : Report → ℕ → ℕ
names_in report inode = count_of report.links inode

-- The report tells this of a volume whose skeleton holds.
pub record IsWhole (v : Volume) (report : Report) : Type 0 where
  pub supported : unsupported_structure v ≡ None
  pub links : (b : ℕ) → names_in report b ≡ times_in (map (λ e. e.inode) (tree_entries v)) b
  pub orphans : report.orphans ≡ map (λ e. e.inode) (orphan_entries v)
  pub clusters : clusters_of report.claims ≡ v.geo.clusters
  pub claims : AreOwners (claims_of v) report.claims

-- The report is that of the volume: just what fails, and all else where the skeleton holds.
pub record IsReport (v : Volume) (report : Report) : Type 0 where
  pub pairs : report.pairs ≡ failing v
  pub whole : HasSkeleton v → IsWhole v report

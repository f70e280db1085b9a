-- What the tables of the skeleton tell of a volume.
use Rattle.std.specs.Prelude.{◌≡◌, ℕ, List, [], ◌∷◌, map, filter}
use Rattle.std.specs.List.{range_with_len}
use Rattle.o2_disk.specs.declared.disk.Disk as disk
use Rattle.o2_model.specs.declared.check.Check.{Check}
use Rattle.o2_model.specs.declared.geo.Geo.{Geo}
use Rattle.o2_model.specs.Words.{IsLeast}
use Rattle.o2_model.specs.Volume.{Volume, blocks}
use Rattle.o2_model.specs.Directories.{directory_entries}
use Rattle.o2_model.specs.Groups.{group_walk, groups as groups_met, has_inode_bit}
use Rattle.o2_model.specs.Structures.{is_discontiguous}
use Rattle.o2_tables.specs.Rows.{IsAllocatorTable, IsGroupTable}
use Rattle.o2_survey.specs.SystemInodes.{AreSystemInodes, named_by}
use Rattle.o2_survey.specs.SystemNames.{AreSystemNames}
use Rattle.o2_view.specs.OwnChecks.{OwnCheck, IsBadOf}
use Rattle.o2_view.specs.Views.{Shows}
use Rattle.o2_view.specs.declared.fault.ReadFault.{ReadFault}
use Rattle.o2_view.specs.declared.fault.ReadFault.TheVariants as read
use Rattle.o2_view.specs.declared.view.View.{View}
use Rattle.o2_skeleton.specs.declared.tables.Skeleton.{Skeleton}

-- The tables are those of the volume.
pub record IsSkeleton (v : Volume) (s : Skeleton) : Type 0 where
  pub entries : s.entries ≡ directory_entries v v.geo.sysdir
  pub names : AreSystemNames v s.names
  pub inodes : AreSystemInodes v (named_by s.entries) s.inodes
  pub allocators : IsAllocatorTable v s.allocators
  pub links : s.links ≡ (group_walk v).faults
  pub groups : IsGroupTable v s.groups
  pub discontiguous : s.discontiguous.items ≡ filter (is_discontiguous v) (map (λ g. g.block) (groups_met v))
  pub on_bits : s.blocks.items ≡ filter (has_inode_bit v) (range_with_len 0 (blocks v))

-- the volume has these numbers, and the tables are its tables
pub record IsSkeletonOf (geo : Geo) (s : Skeleton) (v : Volume) : Type 0 where
  pub numbers : v.geo ≡ geo
  pub tables : IsSkeleton v s

module _ {D : Type 0} {N : ℕ} {g : disk.Ghosts D} where
  -- The view shows the volume, and the tables are its tables.
  pub record ShowsSkeleton (view : View D N g) (geo : Geo) (s : Skeleton) (v : Volume) : Type 0 where
    pub shows : Shows view geo v
    pub tables : IsSkeleton v s

-- ---- a step
-- The fault tells this check, at the least of these blocks.
abbrev pub TellsLeast : Check → List ℕ → ReadFault → Type 0
TellsLeast check blocks read.NoMemory = ⊥
TellsLeast check blocks read.DeviceFault = ⊥
TellsLeast check blocks (read.Bad c b) = (c ≡ check) × IsLeast b blocks

-- why a step that reads nothing ends there: there is no memory, or the check fails
abbrev pub TablesFail : (Volume → Type 0) → OwnCheck → ReadFault → Type 0
TablesFail Of own read.NoMemory = Unit {0}
TablesFail Of own read.DeviceFault = ⊥
TablesFail Of own (read.Bad c b) = IsBadOf Of (own ∷ []) c b

-- The walk over all allocators of a volume, one after the other.
use Rattle.std.specs.Prelude.{◌≡◌, ◌-◌, ◌/◌, ◌^◌, List}
use Rattle.o2_model.specs.declared.allocator.Allocator.{Allocator}
use Rattle.o2_model.specs.declared.geo.Geo.{Geo}
use Rattle.o2_model.specs.Volume.{Volume}
use Rattle.o2_model.specs.Groups.{groups, group_walk}
use Rattle.o2_view.specs.declared.run.Run.{Run}
use Rattle.o2_chain.specs.Earlier.{AreBefore, walk_of}
use Rattle.o2_chain.specs.declared.gathered.Gathered.{Gathered}
use Rattle.o2_chain.specs.declared.group.Group.{Group}
use Rattle.o2_chain.specs.declared.whole_walk.VolumeWalk.{VolumeWalk}

-- the clusters of a group of blocks
abbrev pub run_of_group : Geo → Group → Run
run_of_group geo g = record { start = g.block / 2 ^ (geo.cluster_bits - geo.block_bits); clusters = g.bits / 2 ^ (geo.cluster_bits - geo.block_bits) }

-- This is what the walk over the chains of those allocators meets, and the clusters that count as walked from then on.
pub record HasGathered (v : Volume) (earlier : List Allocator) (gathered : Gathered) : Type 0 where
  pub groups : gathered.groups.items ≡ (walk_of v earlier).groups
  pub faults : gathered.faults.items ≡ (walk_of v earlier).faults
  pub runs : AreBefore v earlier gathered.runs.items

-- This is what the volume's own walk meets: its groups and the blocks whose link is bad, each in the order of the walk.
pub record IsVolumeWalk (v : Volume) (walk : VolumeWalk) : Type 0 where
  pub groups : walk.groups ≡ groups v
  pub faults : walk.faults ≡ (group_walk v).faults

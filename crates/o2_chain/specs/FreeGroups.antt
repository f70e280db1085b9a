-- Where a group of the global bitmap has its clusters.
use Rattle.std.specs.Prelude.{ℕ, ◌+◌, ◌*◌, ◌<◌, ◌≤◌}
use Rattle.o2_model.specs.declared.geo.Geo.{Geo}
use Rattle.o2_model.specs.ClusterGroups.{group_size, group_index}
use Rattle.o2_view.specs.Geos.{bare, blocks_of}
use Rattle.o2_chain.specs.declared.group.Group.{Group}

-- the cluster of bit 0 of the group in this block: the first group's is cluster 0, wherever its descriptor stands
abbrev pub first_cluster : Geo → ℕ → ℕ
first_cluster geo b = group_index (bare geo) b * group_size (bare geo)

-- The group is one of the volume and has its clusters in it, at `end` or behind, and a block has room for its bits.
pub record HasPlace (geo : Geo) (end : ℕ) (g : Group) : Type 0 where
  pub block : g.block < blocks_of geo
  pub room : g.bits ≤ group_size (bare geo)
  pub within : first_cluster geo g.block + g.bits ≤ geo.clusters
  pub behind : end ≤ first_cluster geo g.block

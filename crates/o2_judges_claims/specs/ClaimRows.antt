-- The claims that rows tell.
use Rattle.std.specs.Prelude.{◌*◌, ◌+◌, List, [], map, flat_map, if◌then◌else◌}
use Rattle.std.specs.List.{range_with_len}
use Rattle.o2_model.specs.declared.claim.Claim.{Claim}
use Rattle.o2_model.specs.declared.claim.Owner.{Owner}
use Rattle.o2_model.specs.declared.claim.Owner.TheVariants.{Super, GlobalGroup, Suballocator, Inode}
use Rattle.o2_model.specs.declared.geo.Geo.{Geo}
use Rattle.o2_model.specs.Clusters.{cluster_of}
use Rattle.o2_model.specs.ClusterGroups.{group_size, group_count}
use Rattle.o2_model.specs.Groups.{group_clusters, is_of_clusters}
use Rattle.o2_model.specs.Claims.{claims_by}
use Rattle.o2_model.specs.Orders.{from_to}
use Rattle.o2_tables.specs.declared.groups.GroupRow.{GroupRow}
use Rattle.o2_tables.specs.declared.inodes.ClusterRun.{ClusterRun}
use Rattle.o2_tables.specs.declared.inodes.InodeRow.{InodeRow}
use Rattle.o2_view.specs.Geos.{bare}

-- ---- of structures
-- the clusters up to the first group descriptor
abbrev pub super_claims : Geo → List Claim
super_claims geo = claims_by Super (range_with_len 0 (cluster_of (bare geo) geo.first_group + 1))

-- the clusters of later group descriptors
abbrev pub descriptor_claims : Geo → List Claim
descriptor_claims geo = claims_by GlobalGroup (map (λ i. i * group_size (bare geo)) (from_to 1 (group_count (bare geo))))

-- the clusters of a group, where it is one of blocks
abbrev pub group_claims : Geo → GroupRow → List Claim
group_claims geo r = if is_of_clusters r.group then [] else claims_by (Suballocator r.group.of.block) (group_clusters (bare geo) r.group.block r.group.bits)

-- ---- of runs
abbrev pub run_claims : Owner → ClusterRun → List Claim
run_claims owner run = claims_by owner (range_with_len run.start run.clusters)

abbrev pub runs_claims : Owner → List ClusterRun → List Claim
runs_claims owner runs = flat_map (run_claims owner) runs

-- those of an inode
abbrev pub row_claims : InodeRow → List Claim
row_claims r = runs_claims (Inode r.block) r.runs

-- The clusters of a volume.
use Rattle.std.specs.Prelude.{ℕ, ◌+◌, ◌/◌, ◌%◌, ◌^◌, Bool, ◌&&◌, ◌==◌, nat_lt, nat_le}
use Rattle.o2_model.specs.Volume.{Volume, per_cluster}

-- bytes of a cluster
abbrev pub cluster_size : Volume → ℕ
cluster_size v = 2 ^ v.geo.cluster_bits

-- the cluster that the block is in
abbrev pub cluster_of : Volume → ℕ → ℕ
cluster_of v b = b / per_cluster v

-- `count` clusters, of which the block is the first one's first, lie within the volume and behind its cluster 0
unfoldable pub are_clusters_in_range : Volume → ℕ → ℕ → Bool
are_clusters_in_range v b count =
    b % per_cluster v == 0
    && nat_lt 0 (cluster_of v b)
    && nat_le (cluster_of v b + count) v.geo.clusters

-- clusters of the volume behind its cluster 0
abbrev pub are_clusters_of : Volume → ℕ → ℕ → Bool
are_clusters_of v first count = nat_lt 0 first && nat_le (first + count) v.geo.clusters

-- Small volumes: blocks of 512 bytes, clusters of 8 blocks.
use Rattle.std.specs.Prelude.{ℕ, List, [], ◌∷◌}
use Rattle.o2_model.specs.declared.geo.Geo.{Geo}
use Rattle.o2_model.specs.Volume.{Volume}

-- 100 clusters; the first group begins cluster 1
abbrev pub small_geo : Geo
small_geo = record {
  block_bits = 9;
  cluster_bits = 12;
  clusters = 100;
  slots = 1;
  root = 16;
  sysdir = 17;
  first_group = 8;
  generation = 5;
  compat = 0;
  incompat = 0;
  seed = record { first = 1; second = 2; third = 3 };
}

-- the volume of these numbers where each block is one byte, the number of the block
abbrev pub volume_with : Geo → Volume
volume_with geo = record { geo = geo; at = λ b. b ∷ []; on_device = 800 }

abbrev pub small : Volume
small = volume_with small_geo

-- the small volume with these bytes in each block
abbrev pub small_at : (ℕ → List ℕ) → Volume
small_at at = record { geo = small_geo; at = at; on_device = 800 }

-- 5000 clusters of 1 MiB with backups of the superblock; the first group begins this block
abbrev pub large_geo : ℕ → Geo
large_geo first_group = record small_geo { cluster_bits = 20; clusters = 5000; first_group = first_group; compat = 1 }

abbrev pub large : ℕ → Volume
large first_group = volume_with (large_geo first_group)

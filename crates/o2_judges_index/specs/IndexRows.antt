-- What rows tell of the blocks and clusters of indexes.
use Rattle.std.specs.Prelude.{ℕ, ◌-◌, Bool, ◌&&◌, not, ◌==◌, List, ◌∷◌, ◌++◌, map, flat_map}
use Rattle.std.specs.List.{range_with_len, list_all}
use Rattle.o2_model.specs.declared.origin.Origin.{Origin}
use Rattle.o2_model.specs.Volume.{Volume}
use Rattle.o2_model.specs.Allocators.{are_metadata}
use Rattle.o2_model.specs.Files.{times_in}
use Rattle.o2_model.specs.Indexes.{index_root, index_extents, all_index_blocks}
use Rattle.o2_model.specs.Metadata.{metadata_blocks, extent_block_origin}
use Rattle.o2_model.specs.SoundIndexes.{is_own_block, index_root_origin}
use Rattle.o2_tables.specs.declared.inodes.ClusterRun.{ClusterRun}
use Rattle.o2_tally.specs.Gathered.{IsCount, count_of}
use Rattle.o2_tally.specs.declared.counts.Counts.{Counts}
use Rattle.o2_claims.specs.Owners.{has_owner}
use Rattle.o2_claims.specs.declared.claims.Claims.{Claims}
use Rattle.o2_tree.specs.TreeRows.{is_sound_index_alone}
use Rattle.o2_tree.specs.declared.indexes.IndexRow.{IndexRow}
use Rattle.o2_judges_origin.specs.Placed.{AreOfVolume}
use Rattle.o2_judges_origin.specs.declared.placed.GroupPlace.{GroupPlace}
use Rattle.o2_judges_index.specs.declared.block_uses.BlockUses.{BlockUses}

-- ---- blocks
-- the slot and the bit are those of the block in the group
abbrev pub is_placed_in : Origin → ℕ → GroupPlace → Bool
is_placed_in o b p = o.slot == p.slot && o.bit == b - p.block

-- the root of the index and the extent blocks of its list
abbrev pub blocks_of_row : IndexRow → List ℕ
blocks_of_row r = r.root.block ∷ map (λ x. x.block) r.extent_blocks

-- The groups of metadata are those of the volume, and its metadata blocks and those of all indexes are used so often.
pub record AreBlockUses (v : Volume) (uses : BlockUses) : Type 0 where
  pub placed : AreOfVolume v are_metadata uses.placed
  pub counts : IsCount (metadata_blocks v ++ all_index_blocks v) uses.counts

-- the index is sound by itself, and its root and the extent blocks of its list are its own
abbrev pub has_own_index_blocks : Volume → ℕ → Bool
has_own_index_blocks v d =
    is_sound_index_alone v d
    && is_own_block v (index_root_origin v (index_root v d)) (index_root v d)
    && list_all (λ b. is_own_block v (extent_block_origin v b) b) (index_extents v d).blocks

-- ---- clusters
abbrev pub clusters_of_run : ClusterRun → List ℕ
clusters_of_run run = range_with_len run.start run.clusters

abbrev pub clusters_of_runs : List ClusterRun → List ℕ
clusters_of_runs runs = flat_map clusters_of_run runs

-- the cluster was counted once, and has no owner
abbrev pub is_new_once : Claims → Counts → ℕ → Bool
is_new_once claims counts c = count_of counts c == 1 && not (has_owner claims c)

-- no cluster comes twice, and none has an owner
abbrev pub are_new_once : Claims → List ℕ → Bool
are_new_once claims clusters = list_all (λ c. times_in clusters c == 1 && not (has_owner claims c)) clusters

-- SLOT_MAP, number 7, at the slot map: EXTENT holds; its clusters follow one another from its cluster 0 on, have no flags, and
-- have room for an entry of each slot.
use Rattle.std.specs.Prelude.{ℕ, ◌*◌, Bool, ◌&&◌, nat_le, List, [], if◌then◌else◌}
use Rattle.std.specs.Option.{option_map_or}
use Rattle.o2_ondisk.specs.Bits.{has_bits, extended_slot_map_feature}
use Rattle.o2_model.specs.declared.system_file.SystemFile.TheVariants.{SlotMap}
use Rattle.o2_model.specs.Faults.{fails_unless}
use Rattle.o2_model.specs.Orders.{is_none_of}
use Rattle.o2_model.specs.Volume.{Volume}
use Rattle.o2_model.specs.Clusters.{cluster_size}
use Rattle.o2_model.specs.Inodes.{leaf_records}
use Rattle.o2_model.specs.SystemFiles.{system_inode}
use Rattle.o2_model.specs.Checks.Extent.{extent_faults}
use Rattle.o2_model.specs.LeafRecords.{clusters_in, are_without_gap, have_no_flags}

-- bytes of an entry: 8 with `OCFS2_FEATURE_INCOMPAT_EXTENDED_SLOT_MAP`, else 2
abbrev pub slot_entry_size : Volume → ℕ
slot_entry_size v = if has_bits v.geo.incompat extended_slot_map_feature then 8 else 2

unfoldable pub is_sound_slot_map : Volume → ℕ → Bool
is_sound_slot_map v b =
    is_none_of (extent_faults v b)
    && are_without_gap (leaf_records v b)
    && have_no_flags (leaf_records v b)
    && nat_le (v.geo.slots * slot_entry_size v) (clusters_in (leaf_records v b) * cluster_size v)

abbrev pub slot_map_faults : Volume → List ℕ
slot_map_faults v = option_map_or (λ b. fails_unless b (is_sound_slot_map v b)) (system_inode v SlotMap) []

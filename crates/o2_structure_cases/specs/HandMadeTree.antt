-- A tree made by hand: 16 clusters of 4096 bytes, blocks of 4096, one slot, and no system files. The root in block 5 has a file `a` of
-- 5000 bytes in block 8, with one cluster, the volume's block 10.
use Rattle.std.specs.Prelude.{ℕ, ◌==◌, List, [], ◌++◌, codes, replicate, if◌then◌else◌}
use Rattle.o2_model.specs.declared.geo.Geo.{Geo}
use Rattle.o2_model.specs.Volume.{Volume}
use Rattle.o2_cases_volumes.specs.SmallEntries.{dots, named_bytes}
use Rattle.o2_cases_volumes.specs.SmallFiles.{one_record, record_of}
use Rattle.o2_cases_volumes.specs.SmallVolumes.{small_geo}
use Rattle.o2_cases_volumes.specs.WholeInodes.{dinode_with, inline_directory, inline_entries, plain_dinode}

abbrev pub tree_geo : Geo
tree_geo = record small_geo { block_bits = 12; clusters = 16; root = 5; sysdir = 6; first_group = 3 }

abbrev pub tree_block : ℕ → List ℕ
tree_block b =
    if b == 2 then dinode_with (plain_dinode 2) []
    else if b == 5 then dinode_with (inline_directory (plain_dinode 5) 48) (inline_entries (dots 5 5 ++ named_bytes 8 16 1 (codes "a")))
    else if b == 6 then dinode_with (inline_directory (plain_dinode 6) 32) (inline_entries (dots 6 6))
    else if b == 8 then dinode_with (record (plain_dinode 8) { links_count = 1; clusters = 1; size = 5000 }) (one_record (record_of 0 1 0 10))
    else if b == 10 then replicate 4096 0x61
    else []

abbrev pub tree_volume : Volume
tree_volume = record { geo = tree_geo; at = tree_block; on_device = 16 }

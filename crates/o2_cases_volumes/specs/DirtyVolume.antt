-- The whole volume with a dirty journal, whose log has one transaction in blocks 57 to 59.
use Rattle.std.specs.Prelude.{ℕ, ◌==◌, List, [], ◌++◌, codes, if◌then◌else◌}
use Rattle.o2_ondisk.specs.Fields.{put_at}
use Rattle.o2_model.specs.Volume.{Volume}
use Rattle.o2_cases_volumes.specs.OtherVolumes.{in_place_of, with_system_entry}
use Rattle.o2_cases_volumes.specs.SmallBytes.{zero_bytes}
use Rattle.o2_cases_volumes.specs.SmallEntries.{dots}
use Rattle.o2_cases_volumes.specs.SmallVolumes.{small_at, small_geo}
use Rattle.o2_cases_volumes.specs.SmallFiles.{one_record, record_of}
use Rattle.o2_cases_volumes.specs.SmallLogs.{commit, header_bytes, one_tag_of, revoke_of, tag_bytes}
use Rattle.o2_cases_volumes.specs.WholeInodes.{dinode_with, inline_directory, inline_entries, one_cluster, own_dinode}
use Rattle.o2_cases_volumes.specs.WholeVolume.{volume_with, whole_block, whole_geo, whole_journal_super, whole_super, with_number_at}

-- the journal's dinode with these flags of its own (ij_flags), and one cluster that begins this block
abbrev pub journal_dinode : ℕ → ℕ → List ℕ
journal_dinode flags first =
    dinode_with (record (one_cluster (own_dinode 25 0x100)) { role_data = record { 0 = flags } }) (one_record (record_of 0 1 0 first))

-- The blocks of the volume where the journal is dirty, and its log writes these bytes into this block. Block 120, in the free
-- cluster, could be the first of another journal.
abbrev pub logging_block : ℕ → List ℕ → ℕ → List ℕ
logging_block target bytes b =
    if b == 25 then journal_dinode 1 56
    else if b == 56 then whole_journal_super 1
    else if b == 57 then one_tag_of target 9
    else if b == 58 then bytes
    else if b == 59 then commit 9
    else if b == 120 then whole_journal_super 0
    else whole_block b

abbrev pub logging : ℕ → List ℕ → Volume
logging target bytes = volume_with (logging_block target bytes)

-- the same with this number of `width` bytes at this place of this block
abbrev pub logging_with : ℕ → List ℕ → ℕ → ℕ → ℕ → ℕ → Volume
logging_with target bytes block at width number = volume_with (with_number_at block at width number (logging_block target bytes))

-- The blocks after the replay: the log's write is put, and the journal is clean.
abbrev pub replayed_block : ℕ → List ℕ → ℕ → List ℕ
replayed_block target bytes b =
    if b == 25 then journal_dinode 0 56
    else if b == target then bytes
    else logging_block target bytes b

-- The blocks where a replay was stopped behind the write.
abbrev pub stopped_block : ℕ → List ℕ → ℕ → List ℕ
stopped_block target bytes b = if b == target then bytes else logging_block target bytes b

-- ---- other logs
-- The log has two writes of one descriptor.
abbrev pub logging_both : ℕ → List ℕ → ℕ → List ℕ → ℕ → List ℕ
logging_both first bytes second further b =
    if b == 57 then header_bytes 1 9 ++ tag_bytes first 0x2 ++ tag_bytes second 0xa
    else if b == 58 then bytes
    else if b == 59 then further
    else if b == 60 then commit 9
    else logging_block first bytes b

-- A second transaction of the log revokes the write of the first.
abbrev pub revoking_block : ℕ → List ℕ → ℕ → List ℕ
revoking_block target bytes b =
    if b == 60 then revoke_of target 10
    else if b == 61 then commit 10
    else logging_block target bytes b

-- The log begins the journal's block 6, and goes on in its block 1 behind its last one.
abbrev pub wrapping_block : ℕ → List ℕ → ℕ → List ℕ
wrapping_block target bytes b =
    if b == 56 then whole_journal_super 6
    else if b == 62 then one_tag_of target 9
    else if b == 63 then bytes
    else if b == 57 then commit 9
    else logging_block target bytes b

-- The log has three writes of one descriptor.
abbrev pub logging_three : ℕ → List ℕ → ℕ → List ℕ → ℕ → List ℕ → ℕ → List ℕ
logging_three first bytes second further third last b =
    if b == 57 then header_bytes 1 9 ++ tag_bytes first 0x2 ++ tag_bytes second 0x2 ++ tag_bytes third 0xa
    else if b == 58 then bytes
    else if b == 59 then further
    else if b == 60 then last
    else if b == 61 then commit 9
    else logging_block first bytes b

-- ---- a second slot
-- the dinode of its journal in block 34, without clusters, with these flags of its own
abbrev pub second_journal : ℕ → List ℕ
second_journal flags = dinode_with (record (own_dinode 34 0x100) { role_data = record { 0 = flags } }) []

-- the same with cluster 15
abbrev pub second_journal_in_cluster : ℕ → List ℕ
second_journal_in_cluster flags =
    dinode_with (record (one_cluster (own_dinode 34 0x100)) { role_data = record { 0 = flags } }) (one_record (record_of 0 1 0 120))

-- these blocks where the system directory names it
abbrev pub naming_second : (ℕ → List ℕ) → ℕ → List ℕ
naming_second blocks = with_system_entry 34 (codes "journal:0001") blocks

-- The log tells this number of slots, and block 34 has the journal of a second slot, with these flags of its own.
abbrev pub logging_slots : ℕ → ℕ → ℕ → List ℕ
logging_slots slots flags = naming_second (in_place_of 34 (second_journal flags) (logging_block 2 (put_at 0x100 2 slots whole_super)))

-- The log tells two slots. The system directory and the flags of the second journal are these, and those as the log leaves them.
abbrev pub slot_comes : (ℕ → List ℕ) → ℕ → (ℕ → List ℕ) → ℕ → Volume
slot_comes names flags new_names new_flags =
    volume_with
    (in_place_of 17 (names 17)
    (in_place_of 34 (second_journal flags)
    (logging_three 2 (put_at 0x100 2 2 whole_super) 17 (new_names 17) 34 (second_journal new_flags))))

-- the same on a volume of two slots
abbrev pub of_two_slots : (ℕ → List ℕ) → Volume
of_two_slots blocks = record (volume_with blocks) { geo = record whole_geo { slots = 2 } }

-- ---- blocks of two sectors
-- the system directory with the dots alone, of a volume with blocks of 1024 bytes
abbrev pub two_sectors : List ℕ
two_sectors = dinode_with (inline_directory (own_dinode 17 0) 32) (inline_entries (dots 17 17)) ++ zero_bytes 792

abbrev pub with_two_sectors : Volume
with_two_sectors = record (small_at (λ b. if b == 17 then two_sectors else [])) { geo = record small_geo { block_bits = 10 } }

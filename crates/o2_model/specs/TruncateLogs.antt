-- The truncate log of a slot: the clusters that are still to be freed.
use Rattle.std.specs.Prelude.{ℕ, ◌-◌, ◌/◌, Bool, ◌&&◌, ◌||◌, not, ◌==◌, nat_lt, nat_le, List, [], drop, if◌then◌else◌}
use Rattle.std.specs.List.{range_with_len, list_any}
use Rattle.o2_ondisk.specs.Dinodes.{last_part_place, truncate_records_place}
use Rattle.o2_ondisk.specs.TruncateLogHeaders.{truncate_log_header_of}
use Rattle.o2_ondisk.specs.TruncateRecs.{truncate_rec_of}
use Rattle.o2_ondisk.specs.declared.truncate_log_header.TruncateLogHeader.{TruncateLogHeader}
use Rattle.o2_ondisk.specs.declared.truncate_rec.TruncateRec.{TruncateRec}
use Rattle.o2_model.specs.Words.{table, among}
use Rattle.o2_model.specs.Volume.{Volume, block_size}
use Rattle.o2_model.specs.Clusters.{are_clusters_of}

-- the header of the log (id2.i_dealloc of struct ocfs2_dinode)
abbrev pub truncate_log : Volume → ℕ → TruncateLogHeader
truncate_log v b = truncate_log_header_of (drop last_part_place (v.at b))

-- tl_used fits tl_count, and tl_count fits the dinode (ocfs2_truncate_recs_per_inode)
unfoldable pub is_sound_truncate_header : Volume → ℕ → Bool
is_sound_truncate_header v b =
    nat_le (truncate_log v b).used (truncate_log v b).count
    && nat_le (truncate_log v b).count ((block_size v - truncate_records_place) / 8)

-- its records in use; a log with an unsound header has none
unfoldable pub truncate_records : Volume → ℕ → List TruncateRec
truncate_records v b = if is_sound_truncate_header v b then table truncate_rec_of 8 truncate_records_place (truncate_log v b).used (v.at b) else []

-- the clusters of a record; a void one has none
unfoldable pub truncated_clusters : TruncateRec → List ℕ
truncated_clusters r = if r.start == 0 then [] else range_with_len r.start r.clusters

-- The record holds, where these clusters have an earlier claim: it is void, or its clusters are the volume's and not claimed.
unfoldable pub is_sound_truncation : Volume → List ℕ → TruncateRec → Bool
is_sound_truncation v claimed r =
    r.start == 0
    || (nat_lt r.start v.geo.clusters
    && are_clusters_of v r.start r.clusters
    && not (list_any (among claimed) (truncated_clusters r)))

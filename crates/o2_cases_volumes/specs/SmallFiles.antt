-- A small volume with one file.
use Rattle.std.specs.Prelude.{ℕ, ◌+◌, ◌*◌, ◌^◌, ◌==◌, List, [], ◌∷◌, ◌++◌, length, map, flat_map, if◌then◌else◌}
use Rattle.byteorder.specs.Endian.{little_bytes}
use Rattle.o2_ondisk.specs.Fields.{paste_at, put_at, put_all}
use Rattle.o2_ondisk.specs.ExtentRecs.{extent_rec_fields, extent_rec_numbers}
use Rattle.o2_ondisk.specs.declared.extent_rec.ExtentRec.{ExtentRec}
use Rattle.o2_model.specs.declared.leaf.Leaf.{Leaf}
use Rattle.o2_model.specs.Volume.{Volume}
use Rattle.o2_model.specs.Extents.{leaf_of}
use Rattle.o2_cases_volumes.specs.SmallBytes.{zero_bytes}
use Rattle.o2_cases_volumes.specs.SmallVolumes.{small_at}

-- a record of this many clusters from this one of the inode on, with these flags, and the block where they begin
abbrev pub record_of : ℕ → ℕ → ℕ → ℕ → ExtentRec
record_of cpos clusters flags blkno = record { cpos = cpos; size = record { 0 = clusters + flags * 2 ^ 24 }; blkno = blkno }

-- such a record, its fields apart
abbrev pub leaf_at : ℕ → ℕ → ℕ → ℕ → Leaf
leaf_at cpos clusters flags block = record { cpos = cpos; clusters = clusters; block = block; flags = flags }

-- the 16 bytes of a record
abbrev pub record_bytes : ExtentRec → List ℕ
record_bytes r = put_all extent_rec_fields (extent_rec_numbers r) (zero_bytes 16)

-- a list of depth 0 with this one record, of 19 that fit
abbrev pub one_record : ExtentRec → List ℕ
one_record r = little_bytes 2 0 ++ little_bytes 2 19 ++ little_bytes 2 1 ++ zero_bytes 10 ++ record_bytes r

-- the dinode of a file (i_mode 0o100644) with a list of these records at byte 0xc0, of 19 that fit
abbrev pub file_bytes : List ExtentRec → List ℕ
file_bytes records =
    put_at 0x28 2 0o100644 (put_at 0xc2 2 19 (put_at 0xc4 2 (length records) (paste_at 0xd0 (flat_map record_bytes records) (zero_bytes 512))))

-- the small volume with this dinode in block 40, and nothing in the other blocks
abbrev pub file_of : List ExtentRec → Volume
file_of records = small_at (λ b. if b == 40 then file_bytes records else [])

-- cluster 0 of a file, two that are unwritten, a record without clusters, two clusters of a hole, and one more
abbrev pub records_with_hole : List ExtentRec
records_with_hole = record_of 0 1 0 16 ∷ record_of 1 2 1 24 ∷ record_of 3 0 0 0 ∷ record_of 5 1 0 48 ∷ []

-- the same, their fields apart
abbrev pub leaves_with_hole : List Leaf
leaves_with_hole = map leaf_of records_with_hole

-- the second record begins within the first
abbrev pub overlapping_records : List ExtentRec
overlapping_records = record_of 0 2 0 16 ∷ record_of 1 2 0 32 ∷ []

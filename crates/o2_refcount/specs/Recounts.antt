-- What it is to give the records of a refcount tree new counts.
use Rattle.std.specs.Prelude.{◌≡◌, ℕ, ◌+◌, ◌*◌, ◌<◌, true, false, ◌==◌, List, map, filter, length, slice_index, drop}
use Rattle.std.specs.List.{zip}
use Rattle.o2_ondisk.specs.Fields.{IsOutsideSpan}
use Rattle.o2_ondisk.specs.RefcountRecs.{refcount_rec_of}
use Rattle.o2_ondisk.specs.declared.refcount_rec.RefcountRec.{RefcountRec}
use Rattle.o2_model.specs.declared.placed_refcount.PlacedRefcount.{PlacedRefcount}
use Rattle.o2_model.specs.RefcountTrees.{refcount_records}
use Rattle.o2_model.specs.Volume.{Volume}
use Rattle.o2_model.specs.Words.{among}

-- ---- where the counts stand
-- record k of a refcount block begins at this byte
abbrev pub record_place : ℕ → ℕ
record_place k = 0x90 + 16 * k

-- its count, `r_refcount`, at this one
abbrev pub count_place : ℕ → ℕ
count_place k = record_place k + 0xc

-- the byte is of no count of so many records
abbrev pub IsNoCount : ℕ → ℕ → Type 0
IsNoCount records i = (k : ℕ) → k < records → IsOutsideSpan (count_place k) 4 i

-- ---- the bytes of one block
-- what record k says
abbrev pub record_at : List ℕ → ℕ → RefcountRec
record_at bytes k = refcount_rec_of (drop (record_place k) bytes)

-- the record with another count
abbrev pub recounted : RefcountRec → ℕ → RefcountRec
recounted r count = record r { refcount = count }

-- The first records of the block have these counts, and nothing else has changed.
pub record HasCounts (old new counts : List ℕ) : Type 0 where
  pub counted : (k : ℕ) → k < length counts → record_at new k ≡ recounted (record_at old k) (slice_index counts k)
  pub others : (i : ℕ) → IsNoCount (length counts) i → slice_index new i ≡ slice_index old i
  pub size : length new ≡ length old

-- ---- the volume
-- the blocks in which these records stand
abbrev pub holders : List PlacedRefcount → List ℕ
holders records = map (λ p. p.block) records

-- Block b, which holds some of these records, once each record has the count that stands beside it.
pub record IsRecountedBlock (old new : Volume) (b : ℕ) (counted : List PlacedRefcount) (to : List ℕ) : Type 0 where
  -- the block held these of the records, and no others
  pub held : refcount_records old b ≡ map (λ p. p.fields) (filter (λ p. p.block == b) counted)
  -- it holds the same ones with their new counts
  pub records : refcount_records new b ≡ map (λ p. recounted p.0.fields p.1) (filter (λ p. p.0.block == b) (zip counted to))
  -- every other byte stays
  pub others : (i : ℕ) → IsNoCount (length (refcount_records old b)) i → slice_index (new.at b) i ≡ slice_index (old.at b) i
  pub size : length (new.at b) ≡ length (old.at b)

-- The volume once each of these records has the count that stands beside it. Nothing else has changed.
pub record IsRecounted (old new : Volume) (records : List PlacedRefcount) (to : List ℕ) : Type 0 where
  pub numbers : new.geo ≡ old.geo
  pub device : new.on_device ≡ old.on_device
  pub block : (b : ℕ) → among (holders records) b ≡ true → IsRecountedBlock old new b records to
  pub others : (b : ℕ) → among (holders records) b ≡ false → new.at b ≡ old.at b

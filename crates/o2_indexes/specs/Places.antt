-- Hashes of names in blocks, and how often each comes.
use Rattle.std.specs.Prelude.{◌≡◌, ℕ, Bool, ◌&&◌, ◌==◌, List, count_by, unwrap_or}
use Rattle.std.specs.BTreeMap.{get}
use Rattle.std.specs.Ordering.{nat_cmp, ordering_then}
use Rattle.std.specs.declared.cmp.Ordering.{Ordering}
use Rattle.o2_ondisk.specs.NameHashes.{name_hash}
use Rattle.o2_ondisk.specs.declared.dx_entry.DxEntry.{DxEntry}
use Rattle.o2_ondisk.specs.declared.superblock.DxSeed.{DxSeed}
use Rattle.o2_model.specs.declared.entry.Entry.{Entry}
use Rattle.o2_indexes.specs.declared.places.HashedPlace.{HashedPlace}
use Rattle.o2_indexes.specs.declared.places.PlaceCounts.{PlaceCounts}

-- ---- what entries have
-- the hash of the entry's name, in the entry's block
abbrev pub place_of_name : DxSeed → Entry → HashedPlace
place_of_name seed e = record { block = e.block; major = (name_hash seed e.name).major; minor = (name_hash seed e.name).minor }

-- the hash of an index entry, in the block that it names
abbrev pub place_in_index : DxEntry → HashedPlace
place_in_index x = record { block = x.dirent_blk; major = x.major_hash; minor = x.minor_hash }

-- ---- as they are kept
-- the second has the hash and the block of the first
abbrev pub is_same_place : HashedPlace → HashedPlace → Bool
is_same_place p q = q.block == p.block && q.major == p.major && q.minor == p.minor

-- the order of hashes, by block
abbrev pub place_cmp : HashedPlace → HashedPlace → Ordering
place_cmp p q = ordering_then (nat_cmp p.block q.block) (ordering_then (nat_cmp p.major q.major) (nat_cmp p.minor q.minor))

-- how often it came, as the counts have it
abbrev pub times_at : PlaceCounts → HashedPlace → ℕ
times_at counts p = unwrap_or (get place_cmp counts.times p) 0

-- These came, each so often.
pub record ArePlaceCounts (ps : List HashedPlace) (counts : PlaceCounts) : Type 0 where
  pub each : (p : HashedPlace) → times_at counts p ≡ count_by (is_same_place p) ps

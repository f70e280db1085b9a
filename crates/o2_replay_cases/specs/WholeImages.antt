-- Images of the whole volume: a sector for each block.
use Rattle.std.specs.Prelude.{◌≡◌, ℕ, Bool, true, ◌==◌, List, [], ◌∷◌, length, drop, codes, Some, None}
use Rattle.std.specs.List.{list_all, range_with_len}
use Rattle.o2_ondisk.specs.Number.{number_at}
use Rattle.o2_ondisk.specs.Signatures.{superblock_signature}
use Rattle.o2_ondisk.specs.Super.{super_of}
use Rattle.o2_disk.specs.Image.{Image, image_of}
use Rattle.o2_model.specs.Features.{unsupported_in}
use Rattle.o2_model.specs.Geometry.{geometry_in_block}
use Rattle.o2_model.specs.Anchors.{anchors_of, log_fault}
use Rattle.o2_model.specs.Dirty.{committed_writes, dirty_slots, journal_fault, slot_journal}
use Rattle.o2_model.specs.Replay.{as_clean}
use Rattle.o2_model.specs.TornReplays.{dirty_journals}
use Rattle.o2_model.specs.Checks.Super.{super_faults}
use Rattle.o2_model.specs.Checks.Sysdir.{sysdir_faults}
use Rattle.o2_cases_volumes.specs.DirtyVolume.{logging_block, replayed_block, stopped_block}
use Rattle.o2_cases_volumes.specs.WholeVolume.{on_device, volume_with, whole_block, whole_geo}

-- the image with these blocks
unfoldable pub image_with : (ℕ → List ℕ) → Image
image_with blocks = image_of 128 (on_device blocks)

-- ---- images
-- the image of the whole volume
abbrev pub whole_image : Image
whole_image = image_with whole_block

-- with a dirty journal, whose log writes other bytes into the first block of files 30 and 31
abbrev pub dirty_blocks : ℕ → List ℕ
dirty_blocks = logging_block 88 (codes "world")

abbrev pub dirty_image : Image
dirty_image = image_with dirty_blocks

-- after its replay
abbrev pub clean_blocks : ℕ → List ℕ
clean_blocks = replayed_block 88 (codes "world")

abbrev pub replayed_image : Image
replayed_image = image_with clean_blocks

-- where the replay was stopped behind the write
abbrev pub stopped_blocks : ℕ → List ℕ
stopped_blocks = stopped_block 88 (codes "world")

abbrev pub stopped_image : Image
stopped_image = image_with stopped_blocks

-- with a log that writes zeros into the block of the system directory
abbrev pub harmful_blocks : ℕ → List ℕ
harmful_blocks = logging_block 17 []

abbrev pub harmful_image : Image
harmful_image = image_with harmful_blocks

-- ---- what is computed of their blocks
-- each has 512 bytes at most
abbrev pub are_full : (ℕ → List ℕ) → Bool
are_full blocks = list_all (λ s. length (on_device blocks s) == 512) (range_with_len 0 128)

-- Block 2 is the superblock of the volume of 16 clusters.
pub record IsVolume (blocks : ℕ → List ℕ) : Type 0 where
  pub full : are_full blocks ≡ true
  pub signature : number_at 0x0 8 (on_device blocks 2) ≡ superblock_signature
  pub bits : (super_of (drop 0xc0 (on_device blocks 2))).blocksize_bits ≡ 9
  pub geometry : geometry_in_block (on_device blocks 2) ≡ whole_geo
  pub supported : unsupported_in (super_of (drop 0xc0 (on_device blocks 2))) (number_at 0x14 4 (on_device blocks 2)) ≡ None

-- Slot 0 alone is dirty, and its log has one write, which these other blocks have.
pub record HasOneWrite (blocks after : ℕ → List ℕ) (journal target : ℕ) : Type 0 where
  pub slots : dirty_slots (volume_with blocks) ≡ 0 ∷ []
  pub writes : committed_writes (volume_with blocks) 0 ≡ record { block = target; bytes = on_device after target } ∷ []
  pub named : slot_journal (volume_with blocks) 0 ≡ Some journal
  pub cleaned : as_clean (on_device blocks journal) ≡ on_device after journal

-- A replay may be started.
pub record CanBeReplayed (blocks : ℕ → List ℕ) : Type 0 where
  pub sound_super : super_faults (volume_with blocks) ≡ []
  pub sound_sysdir : sysdir_faults (volume_with blocks) ≡ []
  pub no_journal_fault : journal_fault (volume_with blocks) ≡ None
  pub no_log_fault : log_fault (volume_with blocks) ≡ None
  pub anchors : anchors_of (volume_with blocks) ≡ 0 ∷ 1 ∷ 2 ∷ 17 ∷ 25 ∷ 56 ∷ 57 ∷ 58 ∷ 59 ∷ 60 ∷ 61 ∷ 62 ∷ 63 ∷ []
  pub slots : dirty_slots (volume_with blocks) ≡ 0 ∷ []
  pub journals : dirty_journals (volume_with blocks) ≡ 25 ∷ []

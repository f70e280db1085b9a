-- Four images: where one slot is dirty and they can be replayed, a replay may be stopped and started again.
use Rattle.std.specs.Prelude.{◌≡◌, ◌≢◌, ◌⊎◌, ℕ, ◌<◌, nat_eq, false, List, [], ◌∷◌, map, length, Some, if◌then◌else◌}
use Rattle.std.specs.List.{IsDistinct}
use Rattle.o2_disk.specs.Image.{Image, sector, image_of}
use Rattle.o2_model.specs.Words.{among}
use Rattle.o2_model.specs.Volume.{Volume, block_size, opened}
use Rattle.o2_model.specs.Journals.{named_journal, is_dirty}
use Rattle.o2_model.specs.Dirty.{dirty_slots, slot_journal, committed_writes, as_logged}
use Rattle.o2_model.specs.Anchors.{slots_in}
use Rattle.o2_model.specs.Replay.{first_sector, replayed}
use Rattle.o2_model.specs.Recoverable.{IsReplayable}

-- the image, with these sectors as they are in the other one
abbrev pub with_sectors : List ℕ → Image → Image → Image
with_sectors sectors other image = image_of (length image) (λ s. if among sectors s then sector other s else sector image s)

-- the first sector of block 2
abbrev pub sector_of_super : Volume → ℕ
sector_of_super v = first_sector (block_size v) 2

-- the first sector of the system directory's dinode
abbrev pub sector_of_sysdir : Volume → ℕ
sector_of_sysdir v = first_sector (block_size v) v.geo.sysdir

-- block 2 counts the slot, now or as the log leaves it
abbrev pub IsCounted : Volume → ℕ → Type 0
IsCounted v slot = (slot < v.geo.slots) ⊎ (slot < slots_in ((as_logged v).at 2))

-- the slot's name names this inode, now or as the log leaves the names
abbrev pub IsNamed : Volume → ℕ → ℕ → Type 0
IsNamed v slot b = (named_journal v slot ≡ Some b) ⊎ (named_journal (as_logged v) slot ≡ Some b)

-- the inode is not marked dirty, now or as the log leaves it
abbrev pub IsUnmarked : Volume → ℕ → Type 0
IsUnmarked v b = (is_dirty v b ≡ false) × (is_dirty (as_logged v) b ≡ false)

-- One slot of the volume in the image is dirty, and its log writes each block once.
pub record HasOneLog (I : Image) (v : Volume) (slot journal : ℕ) : Type 0 where
  -- this is the volume in the image
  pub is_opened : opened I ≡ Some v
  -- it is the one dirty slot
  pub one_slot : dirty_slots v ≡ slot ∷ []
  -- and this is its journal
  pub its_journal : slot_journal v slot ≡ Some journal
  -- no two of the writes that a replay applies are to one block
  pub once : IsDistinct nat_eq (map (λ w. w.block) (committed_writes v slot))
  -- no other inode that the name of a counted slot's journal tells is marked dirty
  pub others_clean : (s b : ℕ) → IsCounted v s → IsNamed v s b → b ≢ journal → IsUnmarked v b

-- The image can be replayed, also with the first sectors of block 2 and of the system directory as the replay leaves them.
pub record AreFourReplayable (I : Image) (v : Volume) : Type 0 where
  -- as it is
  pub neither : IsReplayable v I
  -- with the new superblock
  pub with_super : IsReplayable v (with_sectors (sector_of_super v ∷ []) (replayed I) I)
  -- with the new system directory
  pub with_sysdir : IsReplayable v (with_sectors (sector_of_sysdir v ∷ []) (replayed I) I)
  -- with both
  pub with_both : IsReplayable v (with_sectors (sector_of_super v ∷ sector_of_sysdir v ∷ []) (replayed I) I)

-- Where the entries of the system directory and the dinodes that they name are the same, so are the allocators.
use Rattle.std.proofs.Common.{◌≡◌, ℕ, List, [], ◌∷◌, refl, ◌∙◌, ap, Option, Some, None}
use Rattle.std.specs.Prelude.{flat_map}
use Rattle.std.specs.Option.{option_map_or}
use Rattle.o2_model.specs.declared.allocator.BitUse.{BitUse}
use Rattle.o2_model.specs.declared.allocator.BitUse.TheVariants.{Clusters, Inodes, Metadata}
use Rattle.o2_model.specs.declared.system_file.SlotFile.TheVariants.{ExtentAlloc, InodeAlloc}
use Rattle.o2_model.specs.declared.system_file.SystemFile.{SystemFile}
use Rattle.o2_model.specs.declared.system_file.SystemFile.TheVariants.{GlobalInodeAlloc, GlobalBitmap, OfSlot}
use Rattle.o2_model.specs.Volume.{Volume, over, is_valid}
use Rattle.o2_model.specs.Directories.{own_inodes}
use Rattle.o2_model.specs.SystemFiles.{system_inode, slots}
use Rattle.o2_model.specs.Allocators.{is_allocator, allocator_if, allocator_named, slot_allocators, allocators, no_slot}
use Rattle.o2_laws.specs.Frames.{SameSystemFiles}

pub inode_same : (v : Volume) (at : ℕ → List ℕ) → SameSystemFiles v at → (file : SystemFile) → system_inode (over v at) file ≡ system_inode v file
unfolding system_inode
inode_same v at same file = rw same.entries refl

allocator_same : (v : Volume) (at : ℕ → List ℕ) (b : ℕ) → at b ≡ v.at b → is_allocator (over v at) b ≡ is_allocator v b
unfolding is_allocator is_valid
allocator_same v at b same = rw same refl

-- by what the name names
named_by : (v : Volume) (at : ℕ → List ℕ) (bit_use : BitUse) (slot : ℕ) (o : Option ℕ) → ((b : ℕ) → o ≡ Some b → at b ≡ v.at b)
    → option_map_or (allocator_if (over v at) bit_use slot) o [] ≡ option_map_or (allocator_if v bit_use slot) o []
named_by v at bit_use slot None same = refl
named_by v at bit_use slot (Some b) same = rw (allocator_same v at b (same b refl)) refl

named_same : (v : Volume) (at : ℕ → List ℕ) → SameSystemFiles v at → (bit_use : BitUse) (slot : ℕ) (file : SystemFile) → allocator_named (over v at) bit_use slot file ≡ allocator_named v bit_use slot file
named_same v at same bit_use slot file =
    ap (λ o. option_map_or (allocator_if (over v at) bit_use slot) o []) (inode_same v at same file)
    ∙ named_by v at bit_use slot (system_inode v file) (same.dinodes file)

slots_same : (v : Volume) (at : ℕ → List ℕ) → SameSystemFiles v at → (ss : List ℕ) → flat_map (slot_allocators (over v at)) ss ≡ flat_map (slot_allocators v) ss
slots_same v at same [] = refl
slots_same v at same (s ∷ ss) =
    rw (named_same v at same Metadata s (OfSlot ExtentAlloc s), named_same v at same Inodes s (OfSlot InodeAlloc s), slots_same v at same ss) refl

pub allocators_same : (v : Volume) (at : ℕ → List ℕ) → SameSystemFiles v at → allocators (over v at) ≡ allocators v
unfolding allocators
allocators_same v at same =
    rw (named_same v at same Clusters no_slot GlobalBitmap, named_same v at same Inodes no_slot GlobalInodeAlloc, slots_same v at same (slots v)) refl

-- the volume's own inodes are the same too
pub own_same : (v : Volume) (at : ℕ → List ℕ) → SameSystemFiles v at → own_inodes (over v at) ≡ own_inodes v
unfolding own_inodes
own_same v at same = rw same.entries refl

-- Where nothing fails, blocks that agree on the held ones have the same system files, groups and inodes.
use Rattle.std.proofs.Common.{◌≡◌, inl, inr, ⊎_elim, ℕ, Bool, true, false, ◌&&◌, ◌||◌, ◌==◌, List, [], ◌++◌, map, sym, ◌∙◌, ap, subst, Option, Some, None}
use Rattle.std.specs.Prelude.{flat_map, nat_lt}
use Rattle.std.specs.List.{list_any, Contains, range_with_len}
use Rattle.std.specs.Option.{option_map_or}
use Rattle.std.proofs.lemmas.Bool.{cases_Bool, or_cases, and_right, eqb-true, false≢true}
use Rattle.std.proofs.lemmas.List.Elements.{filter_agree}
use Rattle.std.proofs.lemmas.List.Folds.{list_any-append}
use Rattle.o2_model.specs.declared.check.Check.TheVariants as check
use Rattle.o2_model.specs.declared.allocator.Allocator.{Allocator}
use Rattle.o2_model.specs.declared.allocator.BitUse.{BitUse}
use Rattle.o2_model.specs.declared.allocator.BitUse.TheVariants.{Clusters, Inodes, Metadata}
use Rattle.o2_model.specs.declared.allocator.Group.{Group}
use Rattle.o2_model.specs.declared.system_file.SlotFile.TheVariants.{ExtentAlloc, InodeAlloc}
use Rattle.o2_model.specs.declared.system_file.SystemFile.{SystemFile}
use Rattle.o2_model.specs.declared.system_file.SystemFile.TheVariants.{GlobalInodeAlloc, GlobalBitmap, OfSlot}
use Rattle.o2_model.specs.Volume.{Volume, over, blocks, is_valid}
use Rattle.o2_model.specs.SystemFiles.{system_inode, slots}
use Rattle.o2_model.specs.Allocators.{are_inodes, is_allocator, allocator_if, allocator_named, slot_allocators, allocators, no_slot}
use Rattle.o2_model.specs.Groups.{group_walk, groups, is_bit_set_in, bit_of_block, is_on_set_bit, is_inode, inodes_of, has_inode_bit}
use Rattle.o2_laws.specs.Frames.{SameOn, SameSystemFiles, group_blocks}
use Rattle.o2_model.specs.Failing.{faults, failing}
use Rattle.o2_laws.proofs.Held.HeldBlocks.{AgreesOnHeld}
use Rattle.o2_laws.proofs.NothingFails.{no_check_fails}
use Rattle.o2_laws.proofs.SameGroups.{groups_keep}
use Rattle.o2_laws.proofs.SameAllocators.{allocators_same}
use Rattle.o2_laws.proofs.Found.{any_map, any_flat, passing}
use Rattle.o2_laws.proofs.Agreeing.{any_agree}
use Rattle.o2_laws.proofs.Held.GroupsHeld.{descriptor_held}
use Rattle.o2_laws.proofs.Held.BitsHeld.{inode_bit_held}
use Rattle.o2_laws.proofs.Held.OwnInodes.{sysdir_is_inode, sysdir_is_directory, file_is_inode, directory_apart}
use Rattle.o2_laws.proofs.Held.HeldTells.{dinode_same, held_tell_entries}
use Rattle.o2_laws.proofs.SameInodes.{valid_same}

-- ---- the volume's own files
pub held_tell_system_files : (v : Volume) (at : ℕ → List ℕ) → failing v ≡ [] → AgreesOnHeld v at → SameSystemFiles v at
held_tell_system_files v at none agrees = record {
  entries = held_tell_entries v at v.geo.sysdir none agrees (sysdir_is_inode v none) (directory_apart v v.geo.sysdir none (sysdir_is_directory v none));
  dinodes = λ file b is. dinode_same v at b agrees (file_is_inode v file b none is);
}

-- ---- allocators
-- the block is that of one of them
abbrev is_of : ℕ → List Allocator → Bool
is_of b more = list_any (λ a. b == a.block) more

of_named : (v : Volume) (bit_use : BitUse) (slot b : ℕ) (o : Option ℕ) → is_of b (option_map_or (allocator_if v bit_use slot) o []) ≡ true → o ≡ Some b
of_named v bit_use slot b None h = absurd (false≢true h)
of_named v bit_use slot b (Some c) h = elim (cases_Bool (is_allocator v c)) [
  | inr other ↦ absurd (false≢true (rw other at h))
  | inl good ↦ let here : (b == c || false) ≡ true = rw good at h in ⊎_elim (λ same. ap (λ n. Some n) (sym (eqb-true b c same))) (λ e. absurd (false≢true e)) (or_cases (b == c) false here)
]

named_inode : (v : Volume) (bit_use : BitUse) (slot b : ℕ) (file : SystemFile) → failing v ≡ [] → is_of b (allocator_named v bit_use slot file) ≡ true → is_inode v b ≡ true
named_inode v bit_use slot b file none h = file_is_inode v file b none (of_named v bit_use slot b (system_inode v file) h)

slot_inode : (v : Volume) (b slot : ℕ) → failing v ≡ [] → is_of b (slot_allocators v slot) ≡ true → is_inode v b ≡ true
slot_inode v b slot none h =
    ⊎_elim (named_inode v Metadata slot b (OfSlot ExtentAlloc slot) none) (named_inode v Inodes slot b (OfSlot InodeAlloc slot) none)
    (or_cases _ _ (sym (list_any-append (λ a. b == a.block) (allocator_named v Metadata slot (OfSlot ExtentAlloc slot)) (allocator_named v Inodes slot (OfSlot InodeAlloc slot))) ∙ h))

slots_inode : (v : Volume) (b : ℕ) → failing v ≡ [] → is_of b (flat_map (slot_allocators v) (slots v)) ≡ true → is_inode v b ≡ true
slots_inode v b none h =
    let s = passing (λ slot. is_of b (slot_allocators v slot)) (slots v) (sym (any_flat (λ a. b == a.block) (slot_allocators v) (slots v)) ∙ h) in
    slot_inode v b s.item none s.passes

pub allocator_is_inode : (v : Volume) (b : ℕ) → failing v ≡ [] → is_of b (allocators v) ≡ true → is_inode v b ≡ true
unfolding allocators
allocator_is_inode v b none h =
    let bitmap = allocator_named v Clusters no_slot GlobalBitmap in
    let first = allocator_named v Inodes no_slot GlobalInodeAlloc in
    ⊎_elim
    (λ both. ⊎_elim (named_inode v Clusters no_slot b GlobalBitmap none) (named_inode v Inodes no_slot b GlobalInodeAlloc none)
    (or_cases (is_of b bitmap) (is_of b first) (sym (list_any-append (λ a. b == a.block) bitmap first) ∙ both)))
    (slots_inode v b none)
    (or_cases (is_of b (bitmap ++ first)) (is_of b (flat_map (slot_allocators v) (slots v))) (sym (list_any-append (λ a. b == a.block) (bitmap ++ first) (flat_map (slot_allocators v) (slots v))) ∙ h))

allocator_dinodes : (v : Volume) (at : ℕ → List ℕ) → failing v ≡ [] → AgreesOnHeld v at → SameOn (map (λ a. a.block) (allocators v)) v at
allocator_dinodes v at none agrees = record {
  same = λ b h. dinode_same v at b agrees (allocator_is_inode v b none (sym (any_map (λ m. b == m) (λ (a : Allocator). a.block) (allocators v)) ∙ h));
}

-- ---- groups
links_hold : (v : Volume) → failing v ≡ [] → (group_walk v).faults ≡ []
unfolding faults
links_hold v none = no_check_fails v none check.ChainLink

descriptors_same : (v : Volume) (at : ℕ → List ℕ) → AgreesOnHeld v at → SameOn (group_blocks (group_walk v)) v at
descriptors_same v at agrees = record {
  same = λ b h.
      let g = passing (λ (g : Group). b == g.block) (groups v) (sym (any_map (λ m. b == m) (λ (g : Group). g.block) (groups v)) ∙ h) in
      subst (λ x. at x ≡ v.at x) (sym (eqb-true b g.item.block g.passes)) (agrees.same g.item.block (descriptor_held v g.item g.inside));
}

pub held_tell_groups : (v : Volume) (at : ℕ → List ℕ) → failing v ≡ [] → AgreesOnHeld v at → group_walk (over v at) ≡ group_walk v
held_tell_groups v at none agrees =
    groups_keep v at (allocators_same v at (held_tell_system_files v at none agrees)) (allocator_dinodes v at none agrees) (descriptors_same v at agrees) (links_hold v none)

-- ---- inodes
bit_same : (v : Volume) (at : ℕ → List ℕ) (b : ℕ) → AgreesOnHeld v at → (g : Group) → Contains (groups v) g → (are_inodes g.of.bit_use && is_on_set_bit (over v at) b g) ≡ (are_inodes g.of.bit_use && is_on_set_bit v b g)
bit_same v at b agrees g is =
    ap (λ bytes. are_inodes g.of.bit_use && option_map_or (λ k. nat_lt 0 k && is_bit_set_in 0x40 bytes k) (bit_of_block v g b) false) (agrees.same g.block (descriptor_held v g is))

pub bits_same : (v : Volume) (at : ℕ → List ℕ) (b : ℕ) → failing v ≡ [] → AgreesOnHeld v at → has_inode_bit (over v at) b ≡ has_inode_bit v b
bits_same v at b none agrees =
    ap (λ w. list_any (λ g. are_inodes g.of.bit_use && is_on_set_bit (over v at) b g) w.groups) (held_tell_groups v at none agrees)
    ∙ any_agree (λ g. are_inodes g.of.bit_use && is_on_set_bit (over v at) b g) (λ g. are_inodes g.of.bit_use && is_on_set_bit v b g) (groups v) (bit_same v at b agrees)

pub held_tell_inode : (v : Volume) (at : ℕ → List ℕ) (b : ℕ) → failing v ≡ [] → AgreesOnHeld v at → is_inode (over v at) b ≡ is_inode v b
unfolding is_inode
held_tell_inode v at b none agrees = elim (cases_Bool (has_inode_bit v b)) [
  | inl bit ↦ ap (λ x. is_valid (over v at) b && x) (bits_same v at b none agrees) ∙ ap (λ x. x && has_inode_bit v b) (valid_same v at b (agrees.same b (inode_bit_held v b bit)))
  | inr other ↦ and_right (is_valid (over v at) b) (has_inode_bit (over v at) b) (bits_same v at b none agrees ∙ other) ∙ sym (and_right (is_valid v b) (has_inode_bit v b) other)
]

pub held_tell_inodes : (v : Volume) (at : ℕ → List ℕ) → failing v ≡ [] → AgreesOnHeld v at → inodes_of (over v at) ≡ inodes_of v
unfolding inodes_of
held_tell_inodes v at none agrees = filter_agree (is_inode (over v at)) (is_inode v) (λ b. held_tell_inode v at b none agrees) (range_with_len 0 (blocks v))

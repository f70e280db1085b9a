-- Rows of allocators, one more at a time.
use Rattle.std.proofs.Common.{◌≡◌, ℕ, ◌+◌, false, List, [], ◌++◌, refl, sym, ◌∙◌, ap, subst, Some, None}
use Rattle.std.specs.Prelude.{flat_map}
use Rattle.std.specs.List.{range_with_len}
use Rattle.std.specs.Option.{option_map_or}
use Rattle.std.proofs.lemmas.List.{append_assoc}
use Rattle.o2_model.specs.declared.allocator.Allocator.{Allocator}
use Rattle.o2_model.specs.declared.allocator.BitUse.{BitUse}
use Rattle.o2_model.specs.declared.system_file.SystemFile.{SystemFile}
use Rattle.o2_model.specs.Volume.{Volume, is_valid, is_in_range}
use Rattle.o2_model.specs.SystemFiles.{system_inode}
use Rattle.o2_model.specs.Allocators.{chains, is_allocator, is_sound_chain_header, allocator_if, allocator_named, slot_allocators, allocators}
use Rattle.o2_tables.specs.Rows.{IsAllocatorTable}
use Rattle.o2_tables.specs.declared.allocators.AllocatorRow.{AllocatorRow}
use Rattle.o2_survey.specs.AllocatorRows.{AreAllocatorRows, allocators_told, global_allocators}
use Rattle.o2_survey.proofs.SlotLists.{one_slot_more}

-- ---- one dinode
pub none_out_of_range : (v : Volume) (b : ℕ) → is_in_range v b ≡ false → is_allocator v b ≡ false
unfolding is_allocator is_valid
none_out_of_range v b out = rw out refl

pub no_chains : (v : Volume) (a : Allocator) → is_sound_chain_header v a ≡ false → [] ≡ chains v a
unfolding chains
no_chains v a bad = rw bad refl

-- ---- names that tell allocators
pub told_some : (v : Volume) (bit_use : BitUse) (slot b : ℕ) (file : SystemFile) → Some b ≡ system_inode v file
    → allocators_told v (Some (record { bit_use = bit_use; slot = slot; block = b })) ≡ allocator_named v bit_use slot file
told_some v bit_use slot b file is = ap (λ o. option_map_or (allocator_if v bit_use slot) o []) is

pub told_none : (v : Volume) (bit_use : BitUse) (slot : ℕ) (file : SystemFile) → None ≡ system_inode v file → [] ≡ allocator_named v bit_use slot file
told_none v bit_use slot file is = ap (λ o. option_map_or (allocator_if v bit_use slot) o []) is

-- ---- rows
pub none_yet : (v : Volume) (rows : List AllocatorRow) → rows ≡ [] → AreAllocatorRows v [] rows
none_yet v rows none = rw none (record { listed = refl; each = tt })

-- first some, then some more
pub both_told : (v : Volume) (before first second told later : List Allocator) (rows : List AllocatorRow) → first ≡ told → second ≡ later
    → AreAllocatorRows v ((before ++ first) ++ second) rows → AreAllocatorRows v (before ++ (told ++ later)) rows
both_told v before first second told later rows one two are =
    subst (λ those. AreAllocatorRows v those rows) (append_assoc before first second ∙ (ap (λ those. before ++ (those ++ second)) one ∙ ap (λ those. before ++ (told ++ those)) two)) are

pub one_slot_told : (v : Volume) (slot : ℕ) (rows : List AllocatorRow) → AreAllocatorRows v ((global_allocators v ++ flat_map (slot_allocators v) (range_with_len 0 slot)) ++ slot_allocators v slot) rows
    → AreAllocatorRows v (global_allocators v ++ flat_map (slot_allocators v) (range_with_len 0 (slot + 1))) rows
one_slot_told v slot rows are =
    let so_far = flat_map (slot_allocators v) (range_with_len 0 slot) in
    subst (λ those. AreAllocatorRows v those rows)
    (append_assoc (global_allocators v) so_far (slot_allocators v slot) ∙ ap (λ those. global_allocators v ++ those) (sym (one_slot_more (slot_allocators v) slot)))
    are

pub all_told : (v : Volume) (slot : ℕ) (rows table : List AllocatorRow) → AreAllocatorRows v (global_allocators v ++ flat_map (slot_allocators v) (range_with_len 0 slot)) rows
    → slot ≡ v.geo.slots → table ≡ rows → IsAllocatorTable v table
unfolding allocators
all_told v slot rows table are last same = rw same (record {
  allocators = are.listed ∙ ap (λ n. global_allocators v ++ flat_map (slot_allocators v) (range_with_len 0 n)) last;
  each = are.each;
})

-- The global bitmap is the first of the allocators.
use Rattle.std.proofs.Common.{◌≡◌, ℕ, Bool, true, false, List, [], ◌∷◌, ◌++◌, drop, append_assoc, refl, sym, ◌∙◌, ap, subst}
use Rattle.std.specs.Prelude.{flat_map, Option, Some, None, if◌then◌else◌}
use Rattle.std.specs.List.{AllByRecursion}
use Rattle.std.specs.Option.{option_map_or}
use Rattle.std.proofs.lemmas.Bool.{false≢true}
use Rattle.o2_model.specs.declared.allocator.Allocator.{Allocator}
use Rattle.o2_model.specs.declared.allocator.BitUse.{BitUse}
use Rattle.o2_model.specs.declared.allocator.BitUse.TheVariants.{Clusters, Inodes, Metadata}
use Rattle.o2_model.specs.declared.system_file.SlotFile.TheVariants.{ExtentAlloc, InodeAlloc}
use Rattle.o2_model.specs.declared.system_file.SystemFile.{SystemFile}
use Rattle.o2_model.specs.declared.system_file.SystemFile.TheVariants.{GlobalInodeAlloc, GlobalBitmap, OfSlot}
use Rattle.o2_model.specs.Volume.{Volume}
use Rattle.o2_model.specs.SystemFiles.{system_inode, slots}
use Rattle.o2_model.specs.Allocators.{are_clusters, no_slot, is_allocator, allocator_if, allocator_named, slot_allocators, allocators}

abbrev AreSuballocators : List Allocator → Type 0
AreSuballocators some = AllByRecursion (λ a. are_clusters a.bit_use ≡ false) some

-- at most one
abbrev AtMostOne : List Allocator → Type 0
AtMostOne [] = Unit {0}
AtMostOne (a ∷ rest) = rest ≡ []

subs_append : (first later : List Allocator) → AreSuballocators first → AreSuballocators later → AreSuballocators (first ++ later)
subs_append [] later all all_later = all_later
subs_append (a ∷ rest) later all all_later = (all.0, subs_append rest later all.1 all_later)

subs_not : (earlier later : List Allocator) (a : Allocator) → AreSuballocators (earlier ++ a ∷ later) → are_clusters a.bit_use ≡ false
subs_not [] later a all = all.0
subs_not (b ∷ earlier) later a all = subs_not earlier later a all.1

module _ (v : Volume) where
  if_one : (bit_use : BitUse) (slot b : ℕ) → AtMostOne (allocator_if v bit_use slot b)
  if_one bit_use slot b = one (is_allocator v b)
    where
      one : (c : Bool) → AtMostOne (if c then record { bit_use = bit_use; slot = slot; block = b } ∷ [] else [])
      one true = refl
      one false = tt

  if_sub : (bit_use : BitUse) (slot b : ℕ) → are_clusters bit_use ≡ false → AreSuballocators (allocator_if v bit_use slot b)
  if_sub bit_use slot b sub = all (is_allocator v b)
    where
      all : (c : Bool) → AreSuballocators (if c then record { bit_use = bit_use; slot = slot; block = b } ∷ [] else [])
      all true = (sub, tt)
      all false = tt

  named_one : (bit_use : BitUse) (slot : ℕ) (file : SystemFile) → AtMostOne (allocator_named v bit_use slot file)
  named_one bit_use slot file = one (system_inode v file)
    where
      one : (inode : Option ℕ) → AtMostOne (option_map_or (allocator_if v bit_use slot) inode [])
      one None = tt
      one (Some b) = if_one bit_use slot b

  named_sub : (bit_use : BitUse) (slot : ℕ) (file : SystemFile) → are_clusters bit_use ≡ false → AreSuballocators (allocator_named v bit_use slot file)
  named_sub bit_use slot file sub = all (system_inode v file)
    where
      all : (inode : Option ℕ) → AreSuballocators (option_map_or (allocator_if v bit_use slot) inode [])
      all None = tt
      all (Some b) = if_sub bit_use slot b sub

  slots_sub : (some : List ℕ) → AreSuballocators (flat_map (slot_allocators v) some)
  slots_sub [] = tt
  slots_sub (slot ∷ rest) =
      subs_append (slot_allocators v slot) _
      (subs_append (allocator_named v Metadata slot (OfSlot ExtentAlloc slot)) _ (named_sub Metadata slot (OfSlot ExtentAlloc slot) refl) (named_sub Inodes slot (OfSlot InodeAlloc slot) refl))
      (slots_sub rest)

first_of_one : (named rest earlier later : List Allocator) (a : Allocator) → AtMostOne named → AreSuballocators rest → named ++ rest ≡ earlier ++ a ∷ later → are_clusters a.bit_use ≡ true → earlier ≡ []
first_of_one [] rest earlier later a one subs is clusters = absurd (false≢true (sym (subs_not earlier later a (subst AreSuballocators is subs)) ∙ clusters))
first_of_one (x ∷ more) rest [] later a one subs is clusters = refl
first_of_one (x ∷ more) rest (e ∷ earlier) later a one subs is clusters =
    let behind : more ++ rest ≡ earlier ++ a ∷ later = ap (drop 1) is in
    let same : rest ≡ earlier ++ a ∷ later = sym (ap (λ xs. xs ++ rest) one) ∙ behind in
    absurd (false≢true (sym (subs_not earlier later a (subst AreSuballocators same subs)) ∙ clusters))

-- all but the bitmap
abbrev suballocators : Volume → List Allocator
suballocators v = allocator_named v Inodes no_slot GlobalInodeAlloc ++ flat_map (slot_allocators v) (slots v)

are_subs : (v : Volume) → AreSuballocators (suballocators v)
are_subs v = subs_append (allocator_named v Inodes no_slot GlobalInodeAlloc) (flat_map (slot_allocators v) (slots v)) (named_sub v Inodes no_slot GlobalInodeAlloc refl) (slots_sub v (slots v))

bitmap_and_others : (v : Volume) → allocators v ≡ allocator_named v Clusters no_slot GlobalBitmap ++ suballocators v
unfolding allocators
bitmap_and_others v = append_assoc (allocator_named v Clusters no_slot GlobalBitmap) (allocator_named v Inodes no_slot GlobalInodeAlloc) (flat_map (slot_allocators v) (slots v))

pub bitmap_first : (v : Volume) (earlier later : List Allocator) (a : Allocator) → allocators v ≡ earlier ++ a ∷ later → are_clusters a.bit_use ≡ true → earlier ≡ []
bitmap_first v earlier later a is clusters =
    first_of_one (allocator_named v Clusters no_slot GlobalBitmap) (suballocators v) earlier later a (named_one v Clusters no_slot GlobalBitmap) (are_subs v) (sym (bitmap_and_others v) ∙ is) clusters

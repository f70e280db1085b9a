-- The files of slots are among the inodes that the system directory names.
use Rattle.std.proofs.Common.{◌≡◌, inl, inr, ℕ, Bool, true, false, ◌||◌, ◌==◌, List, [], ◌∷◌, bytes_eq, codes, refl, ◌∙◌, ap, Option, Some, None}
use Rattle.std.specs.Prelude.{flat_map}
use Rattle.std.specs.List.{list_all}
use Rattle.std.specs.Option.{option_map_or}
use Rattle.std.proofs.lemmas.Bool.{cases_Bool, or_left, or_right, eq-eqb}
use Rattle.o2_model.specs.declared.entry.Entry.{Entry}
use Rattle.o2_model.specs.declared.system_file.SlotFile.{SlotFile}
use Rattle.o2_model.specs.declared.system_file.SlotFile.TheVariants.{OrphanDir, ExtentAlloc, InodeAlloc, Journal, LocalAlloc, TruncateLog}
use Rattle.o2_model.specs.declared.system_file.SystemFile.TheVariants.{OfSlot}
use Rattle.o2_model.specs.Words.{among}
use Rattle.o2_model.specs.Volume.{Volume}
use Rattle.o2_model.specs.Directories.{directory_entries, is_dot, is_named}
use Rattle.o2_model.specs.Journals.{journals}
use Rattle.o2_model.specs.SystemFiles.{system_inode, system_name, slots}
use Rattle.o2_survey.specs.SystemInodes.{named_by}
use Rattle.o2_survey.specs.SystemNames.{inodes_of_slots}
use Rattle.o2_survey.proofs.FirstNames.{first_inode, first_is}
use Rattle.o2_survey.proofs.NameMaps.{equal_names}

-- ---- names that are no dots
abbrev names_dot : List ℕ → Bool
names_dot name = bytes_eq name (codes ".") || bytes_eq name (codes "..")

no_dot : (file : SlotFile) (slot : ℕ) → names_dot (system_name (OfSlot file slot)) ≡ false
unfolding system_name
no_dot OrphanDir slot = refl
no_dot ExtentAlloc slot = refl
no_dot InodeAlloc slot = refl
no_dot Journal slot = refl
no_dot LocalAlloc slot = refl
no_dot TruncateLog slot = refl

-- ---- one name
first_is_named : (es : List Entry) (name : List ℕ) (b : ℕ) → names_dot name ≡ false → first_inode es name ≡ Some b → among (named_by es) b ≡ true
first_is_named [] name b other is = cc
first_is_named (e ∷ es) name b other is = elim (cases_Bool (is_named name e)) [
  | inl same ↦
      let counts : is_dot e ≡ false = ap names_dot (equal_names e.name name same) ∙ other in
      let one : b ≡ e.inode = let told = rw same at is in cc in
      rw counts (or_left _ _ (eq-eqb b e.inode one))
  | inr different ↦
      let later = first_is_named es name b other (rw different at is) in
      elim (cases_Bool (is_dot e)) [
        | inl dot ↦ rw dot later
        | inr counts ↦ rw counts (or_right (b == e.inode) _ later)
      ]
]

-- ---- all slots
-- whether these files of these slots are all named
abbrev are_all_named : Volume → SlotFile → List ℕ → Bool
are_all_named v file ns = list_all (among (named_by (directory_entries v v.geo.sysdir))) (flat_map (λ slot. option_map_or (λ b. b ∷ []) (system_inode v (OfSlot file slot)) []) ns)

one_slot_named : (v : Volume) (file : SlotFile) (n : ℕ) (ns : List ℕ) (o : Option ℕ) → system_inode v (OfSlot file n) ≡ o → are_all_named v file ns ≡ true → are_all_named v file (n ∷ ns) ≡ true
one_slot_named v file n ns None is rest = rw is rest
one_slot_named v file n ns (Some b) is rest =
    let named = first_is_named (directory_entries v v.geo.sysdir) (system_name (OfSlot file n)) b (no_dot file n) (first_is v (OfSlot file n) ∙ is) in
    rw (is, named) rest

all_named : (v : Volume) (file : SlotFile) (ns : List ℕ) → are_all_named v file ns ≡ true
all_named v file [] = refl
all_named v file (n ∷ ns) = one_slot_named v file n ns (system_inode v (OfSlot file n)) refl (all_named v file ns)

-- All files of slots are named by entries of the system directory, and so are the journals.
pub slot_files_are_named : (v : Volume) (file : SlotFile) → list_all (among (named_by (directory_entries v v.geo.sysdir))) (inodes_of_slots v file) ≡ true
slot_files_are_named v file = all_named v file (slots v)

pub journals_are_named : (v : Volume) → list_all (among (named_by (directory_entries v v.geo.sysdir))) (journals v) ≡ true
unfolding journals
journals_are_named v = slot_files_are_named v Journal

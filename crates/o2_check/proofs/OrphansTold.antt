-- The entries of orphan directories by their rows.
use Rattle.std.proofs.Common.{◌≡◌, inl, inr, ℕ, Bool, true, false, ◌||◌, not, List, [], ◌∷◌, ◌++◌, map, filter, refl, sym, ◌∙◌, ap, Option, Some, None}
use Rattle.std.specs.Prelude.{flat_map, codes, bytes_eq}
use Rattle.std.specs.Option.{option_map_or}
use Rattle.std.proofs.lemmas.Bool.{cases_Bool}
use Rattle.std.proofs.lemmas.List.{map-append, append-nil}
use Rattle.std.proofs.lemmas.Grind.{flat_map-append}
use Rattle.o2_model.specs.declared.entry.Entry.{Entry}
use Rattle.o2_model.specs.declared.system_file.SlotFile.TheVariants.{OrphanDir}
use Rattle.o2_model.specs.declared.system_file.SystemFile.TheVariants.{OfSlot}
use Rattle.o2_model.specs.Volume.{Volume}
use Rattle.o2_model.specs.Directories.{directory_entries, named_entries, is_dot}
use Rattle.o2_model.specs.SystemFiles.{system_inode, slots}
use Rattle.o2_model.specs.Checks.OrphanEntry.{orphan_entries, orphans_of_slot}
use Rattle.o2_survey.specs.SystemNames.{inodes_of_slots}
use Rattle.o2_tree.specs.TreeRows.{row_of, name_of, IsDirectoryAt}
use Rattle.o2_tree.specs.declared.directories.DirectoryRow.{DirectoryRow}
use Rattle.o2_check.specs.OrphanRows.{is_other, is_name, named_rows}

-- an entry is no dot where its row is none
name_is : (name : List ℕ) → is_other (name_of name) ≡ not (bytes_eq name (codes ".") || bytes_eq name (codes ".."))
name_is name = elim (cases_Bool (bytes_eq name (codes "."))) [
  | inl itself ↦ rw itself refl
  | inr not_itself ↦ elim (cases_Bool (bytes_eq name (codes ".."))) [
    | inl parent ↦ rw (not_itself, parent) refl
    | inr other ↦ rw (not_itself, other) refl
  ]
]

-- the rows that are names are those of the entries that are
pub names_are : (es : List Entry) → filter is_name (map row_of es) ≡ map row_of (filter (λ e. not (is_dot e)) es)
names_are [] = refl
names_are (e ∷ es) = elim (cases_Bool (is_dot e)) [
  | inl dot ↦ rw (name_is e.name, dot) (names_are es)
  | inr name ↦ rw (name_is e.name, name) (ap (λ rs. row_of e ∷ rs) (names_are es))
]

pub row_names : (v : Volume) (b : ℕ) (row : DirectoryRow) → IsDirectoryAt v b row → filter is_name row.entries ≡ named_rows v b
row_names v b row at = ap (filter is_name) at.says.entries ∙ (names_are (directory_entries v row.block) ∙ ap (named_rows v) at.block)

-- ---- directory by directory
-- those of the orphan directory that a slot may have
of_slot : (v : Volume) (found : Option ℕ) → flat_map (named_rows v) (option_map_or (λ b. b ∷ []) found []) ≡ map row_of (option_map_or (named_entries v) found [])
of_slot v None = refl
of_slot v (Some b) = append-nil (named_rows v b)

of_slots : (v : Volume) (ns : List ℕ)
    → flat_map (named_rows v) (flat_map (λ slot. option_map_or (λ b. b ∷ []) (system_inode v (OfSlot OrphanDir slot)) []) ns) ≡ map row_of (flat_map (orphans_of_slot v) ns)
of_slots v [] = refl
of_slots v (n ∷ ns) =
    flat_map-append (named_rows v) (option_map_or (λ b. b ∷ []) (system_inode v (OfSlot OrphanDir n)) []) (flat_map (λ slot. option_map_or (λ b. b ∷ []) (system_inode v (OfSlot OrphanDir slot)) []) ns)
    ∙ (ap (λ rs. rs ++ flat_map (named_rows v) (flat_map (λ slot. option_map_or (λ b. b ∷ []) (system_inode v (OfSlot OrphanDir slot)) []) ns)) (of_slot v (system_inode v (OfSlot OrphanDir n)))
    ∙ (ap (λ rs. map row_of (orphans_of_slot v n) ++ rs) (of_slots v ns) ∙ sym (map-append row_of (orphans_of_slot v n) (flat_map (orphans_of_slot v) ns))))

pub orphans_are : (v : Volume) → flat_map (named_rows v) (inodes_of_slots v OrphanDir) ≡ map row_of (orphan_entries v)
unfolding orphan_entries
orphans_are v = of_slots v (slots v)

-- ---- the inodes that they name
pub same_inodes : (es : List Entry) → map (λ e. e.inode) (map row_of es) ≡ map (λ e. e.inode) es
same_inodes [] = refl
same_inodes (e ∷ es) = ap (λ ns. e.inode ∷ ns) (same_inodes es)

-- The form of a directory's index, as its own root, lists and leaves tell it; and what a reader of its entries says.
use Rattle.std.specs.Prelude.{◌≡◌, ℕ, Bool, true, ◌&&◌, List, [], ◌∷◌, ◌++◌, flat_map, Option, Some, None, if◌then◌else◌}
use Rattle.std.specs.List.{list_all}
use Rattle.o2_ondisk.specs.DxRoots.{dx_root_list_place}
use Rattle.o2_ondisk.specs.declared.dx_entry.DxEntry.{DxEntry}
use Rattle.o2_model.specs.declared.check.Check.TheVariants as check
use Rattle.o2_model.specs.declared.leaf.Leaf.{Leaf}
use Rattle.o2_model.specs.Faults.{fails_unless}
use Rattle.o2_model.specs.LeafRecords.{blocks_under}
use Rattle.o2_model.specs.Orders.{is_none_of}
use Rattle.o2_model.specs.Volume.{Volume}
use Rattle.o2_model.specs.Indexes.{is_indexed, index_root, is_index_root, is_inline_index, index_extents, index_leaves, is_sound_dx_list, is_sound_index_leaf, dx_entries_at, index_entries}
use Rattle.o2_view.specs.OwnChecks.{OwnCheck}

-- the list of entries in the root is well formed, or the list of leaves and each leaf
abbrev pub has_sound_lists : Volume → ℕ → Bool
has_sound_lists v d =
    if is_inline_index v (index_root v d)
    then is_sound_dx_list v dx_root_list_place (index_root v d)
    else is_none_of (index_extents v d).faults && list_all (is_sound_index_leaf v) (index_leaves v d)

-- the root is one, and the directory's, and so are its lists
unfoldable pub has_index_form : Volume → ℕ → Bool
has_index_form v d = is_index_root v d (index_root v d) && has_sound_lists v d

-- DX, as far as it speaks of the index's form, at the directory
abbrev pub index_form_faults : Volume → ℕ → List ℕ
index_form_faults v d = if is_indexed v d then fails_unless d (has_index_form v d) else []

-- what a reader of index entries judges
abbrev pub index_checks : ℕ → List OwnCheck
index_checks d = record { check = check.Dx; faults = λ v. index_form_faults v d } ∷ []

-- the index entries of a directory whose index has that form
abbrev pub index_found : Volume → ℕ → Option (List DxEntry)
index_found v d = if has_index_form v d then Some (index_entries v d) else None

-- the entries in an index root, or those of its leaves, where each is a leaf and these are the records of their clusters
abbrev pub found_in_root : Volume → ℕ → List Leaf → Option (List DxEntry)
found_in_root v b leaves =
    let blocks = flat_map (blocks_under v) leaves in
    if is_inline_index v b then Some (dx_entries_at v dx_root_list_place b)
    else if list_all (is_sound_index_leaf v) blocks then Some (flat_map (dx_entries_at v 0x28) blocks)
    else None

-- the index entries of a directory, none where it has no index
abbrev pub entries_of_index : Volume → ℕ → List DxEntry
entries_of_index v d = if is_indexed v d then index_entries v d else []

-- The entries of the leaves in these blocks were put behind those that were there, where each is a leaf.
pub record AddsLeaves (v : Volume) (blocks : List ℕ) (sound : Bool) (before after : List DxEntry) : Type 0 where
  pub all : sound ≡ list_all (is_sound_index_leaf v) blocks
  pub added : sound ≡ true → after ≡ before ++ flat_map (dx_entries_at v 0x28) blocks

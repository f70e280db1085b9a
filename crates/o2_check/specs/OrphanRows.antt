-- The entries of directories but the dots, as rows.
use Rattle.std.specs.Prelude.{ℕ, Bool, true, false, List, map}
use Rattle.o2_model.specs.Volume.{Volume}
use Rattle.o2_model.specs.Directories.{named_entries}
use Rattle.o2_tree.specs.TreeRows.{row_of}
use Rattle.o2_tree.specs.declared.directories.EntryName.{EntryName}
use Rattle.o2_tree.specs.declared.directories.EntryName.TheVariants.{Itself, Parent, Other}
use Rattle.o2_tree.specs.declared.directories.EntryRow.{EntryRow}

-- it is no dot
abbrev pub is_other : EntryName → Bool
is_other Itself = false
is_other Parent = false
is_other Other = true

abbrev pub is_name : EntryRow → Bool
is_name e = is_other e.name

-- the rows of the directory's entries but the dots
abbrev pub named_rows : Volume → ℕ → List EntryRow
named_rows v d = map row_of (named_entries v d)

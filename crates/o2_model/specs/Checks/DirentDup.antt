-- DIRENT_DUP, number 22, at the directory's block that has the later entry: no two live entries but the dots have one name.
use Rattle.std.specs.Prelude.{ℕ, Bool, List, map}
use Rattle.o2_model.specs.Orders.{later_like}
use Rattle.o2_model.specs.Volume.{Volume}
use Rattle.o2_model.specs.declared.entry.Entry.{Entry}
use Rattle.o2_model.specs.Directories.{is_named, named_entries}

-- two entries of one name
abbrev pub are_namesakes : Entry → Entry → Bool
are_namesakes e f = is_named e.name f

-- those of one directory
abbrev pub dirent_dup_faults : Volume → ℕ → List ℕ
dirent_dup_faults v d = map (λ e. e.block) (later_like are_namesakes (named_entries v d))

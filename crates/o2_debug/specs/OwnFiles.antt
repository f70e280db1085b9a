-- What is told of the volume's own files. A sound skeleton has them.
use Rattle.std.specs.Prelude.{ℕ, List, Option, unwrap_or}
use Rattle.o2_model.specs.declared.system_file.SystemFile.{SystemFile}
use Rattle.o2_model.specs.declared.system_file.SystemFile.TheVariants.{GlobalBitmap, SlotMap}
use Rattle.o2_model.specs.Allocators.{used_of}
use Rattle.o2_model.specs.SystemFiles.{system_inode}
use Rattle.o2_model.specs.Volume.{Volume, dinode}
use Rattle.o2_slots.specs.Entries.{nodes}

-- the inode of one of them
abbrev pub own_inode : Volume → SystemFile → ℕ
own_inode v file = unwrap_or (system_inode v file) 0

-- how many clusters are in use, as the global bitmap says (i_used)
abbrev pub clusters_in_use : Volume → ℕ
clusters_in_use v = used_of (dinode v (own_inode v GlobalBitmap)).role_data

-- the node of each slot, as the slot map says
abbrev pub slot_nodes : Volume → List (Option ℕ)
slot_nodes v = nodes v (own_inode v SlotMap)

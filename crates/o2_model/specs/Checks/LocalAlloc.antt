-- LOCAL_ALLOC, number 38, at the dinode of the local alloc: the bitmap fits the dinode; a window that has clusters fits the
-- bitmap and the volume, i_used is the number of its set bits, and no earlier claim has a cluster of a clear one.
use Rattle.std.specs.Prelude.{ℕ, List, [], flat_map}
use Rattle.std.specs.Option.{option_map_or}
use Rattle.o2_model.specs.declared.system_file.SlotFile.TheVariants.{LocalAlloc}
use Rattle.o2_model.specs.declared.system_file.SystemFile.TheVariants.{OfSlot}
use Rattle.o2_model.specs.Faults.{fails_unless}
use Rattle.o2_model.specs.Volume.{Volume}
use Rattle.o2_model.specs.SystemFiles.{system_inode, slots}
use Rattle.o2_model.specs.Windows.{is_sound_window}
use Rattle.o2_model.specs.Claims.{claims_with_windows, claimed_clusters}

-- that of one slot
abbrev pub local_alloc_faults_of : Volume → ℕ → List ℕ
local_alloc_faults_of v slot =
    option_map_or (λ b. fails_unless b (is_sound_window v (claimed_clusters (claims_with_windows v slot)) b)) (system_inode v (OfSlot LocalAlloc slot)) []

abbrev pub local_alloc_faults : Volume → List ℕ
local_alloc_faults v = flat_map (local_alloc_faults_of v) (slots v)

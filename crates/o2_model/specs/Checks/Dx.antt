-- DX, number 34, at the directory: its index is well formed, has its blocks and clusters for itself, each block of the directory
-- has its trailer, and entries and index entries agree in number, by block and by hash.
use Rattle.std.specs.Prelude.{ℕ, Bool, List, filter}
use Rattle.o2_model.specs.Faults.{fails_at}
use Rattle.o2_model.specs.Volume.{Volume}
use Rattle.o2_model.specs.Indexes.{indexed_directories}
use Rattle.o2_model.specs.SoundIndexes.{is_sound_index}
use Rattle.o2_model.specs.Claims.{claims_before_index, claimed_clusters}

-- the index holds, as the claims before it are
unfoldable pub holds_index : Volume → ℕ → Bool
holds_index v d = is_sound_index v (claimed_clusters (claims_before_index v d)) d

-- the directories whose index holds
abbrev pub directories_with_sound_index : Volume → List ℕ
directories_with_sound_index v = filter (holds_index v) (indexed_directories v)

abbrev pub dx_faults : Volume → List ℕ
dx_faults v = fails_at (λ d. d) (holds_index v) (indexed_directories v)

-- META_BLOCK, number 15, at the extent block or refcount block: it is from an extent_alloc, and is used once.
use Rattle.std.specs.Prelude.{ℕ, Bool, ◌&&◌, ◌==◌, List}
use Rattle.o2_model.specs.Faults.{fails_at}
use Rattle.o2_model.specs.Volume.{Volume}
use Rattle.o2_model.specs.Files.{times_in}
use Rattle.o2_model.specs.Metadata.{metadata_blocks, is_on_metadata_bit}

unfoldable pub is_sound_metadata_block : Volume → ℕ → Bool
is_sound_metadata_block v b = is_on_metadata_bit v b && times_in (metadata_blocks v) b == 1

abbrev pub meta_block_faults : Volume → List ℕ
meta_block_faults v = fails_at (λ b. b) (is_sound_metadata_block v) (metadata_blocks v)

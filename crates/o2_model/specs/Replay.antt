-- The image after a replay.
use Rattle.std.specs.Prelude.{ℕ, ◌-◌, ◌*◌, ◌/◌, ◌%◌, List, fold}
use Rattle.std.specs.Option.{option_map_or}
use Rattle.o2_ondisk.specs.Dinodes.{journal_flags_place}
use Rattle.o2_ondisk.specs.Fields.{put_at}
use Rattle.o2_ondisk.specs.Number.{number_at}
use Rattle.o2_disk.specs.Image.{Image, written, block_at}
use Rattle.o2_model.specs.Volume.{Volume, block_size, opened}
use Rattle.o2_model.specs.Logs.{LoggedBlock}
use Rattle.o2_model.specs.Dirty.{slot_journal, dirty_slots, committed_writes}

-- the sector in which block b begins, where a block has `size` bytes
abbrev pub first_sector : ℕ → ℕ → ℕ
first_sector size b = b * size / 512

-- the image with the bytes of a logged block
abbrev pub with_block : ℕ → Image → LoggedBlock → Image
with_block size I w = written I (first_sector size w.block) w.bytes

-- a journal's dinode with JOURNAL_DIRTY clear, the lowest bit of ij_flags
unfoldable pub as_clean : List ℕ → List ℕ
as_clean dinode = put_at journal_flags_place 4 (number_at journal_flags_place 4 dinode - number_at journal_flags_place 4 dinode % 2) dinode

abbrev pub with_clean_journal : ℕ → Image → ℕ → Image
with_clean_journal size I b = with_block size I (record { block = b; bytes = as_clean (block_at size I b) })

-- A slot of the volume is replayed on an image: its committed writes are put, and then its journal's dinode is clean.
abbrev pub replay_slot : Volume → Image → ℕ → Image
replay_slot v I slot =
    let after = fold (with_block (block_size v)) I (committed_writes v slot) in
    option_map_or (with_clean_journal (block_size v) after) (slot_journal v slot) after

-- the image after the replay of all dirty slots of the volume that it has, slots rising
abbrev pub replay_all : Image → Volume → Image
replay_all I v = fold (replay_slot v) I (dirty_slots v)

unfoldable pub replayed : Image → Image
replayed I = option_map_or (replay_all I) (opened I) I

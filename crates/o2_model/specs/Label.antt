-- The volume's label, and the image with another one.
use Rattle.std.specs.Prelude.{ℕ, ◌+◌, ◌-◌, List, ◌++◌, length, replicate}
use Rattle.std.specs.Option.{option_map_or}
use Rattle.o2_ondisk.specs.Dinodes.{last_part_place}
use Rattle.o2_ondisk.specs.Fields.{paste_at}
use Rattle.o2_disk.specs.Image.{Image, sector, written}
use Rattle.o2_model.specs.Superblock.{super_sector, superblock_bits}

-- a label as the superblock has it: 64 bytes, filled up with NUL
unfoldable pub label_field : List ℕ → List ℕ
label_field label = label ++ replicate (64 - length label) 0

-- where the label's first byte stands in block 2
abbrev pub label_place : ℕ
label_place = last_part_place + 0x50

-- the image with these 64 bytes as the label in the superblock of block 2, where a block has 2 ^ bits bytes
unfoldable pub with_label : ℕ → List ℕ → Image → Image
with_label bits field I = written I (super_sector bits) (paste_at label_place field (sector I (super_sector bits)))

-- the volume with this label
abbrev pub relabelled : List ℕ → Image → Image
relabelled label I = option_map_or (λ bits. with_label bits (label_field label) I) (superblock_bits I) I

-- A backup of the superblock, by the bytes of its block.
use Rattle.std.specs.Prelude.{ℕ, Bool, List, drop}
use Rattle.o2_ondisk.specs.Dinodes.{last_part_place}
use Rattle.o2_ondisk.specs.Super.{super_of}
use Rattle.o2_ondisk.specs.declared.superblock.Super.{Super}

-- the superblock's part of a block of these bytes
abbrev pub super_in : List ℕ → Super
super_in bytes = super_of (drop last_part_place bytes)

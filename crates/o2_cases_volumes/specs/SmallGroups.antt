-- Small volumes with groups of allocators.
use Rattle.std.specs.Prelude.{ℕ, ◌==◌, List, [], if◌then◌else◌}
use Rattle.o2_ondisk.specs.Fields.{put_at, put_all}
use Rattle.o2_ondisk.specs.GroupDescs.{group_desc_fields, group_desc_numbers}
use Rattle.o2_ondisk.specs.Signatures.{group_signature}
use Rattle.o2_ondisk.specs.declared.group_desc.GroupDesc.{GroupDesc}
use Rattle.o2_model.specs.declared.allocator.Allocator.{Allocator}
use Rattle.o2_model.specs.declared.allocator.BitUse.TheVariants.{Clusters, Inodes}
use Rattle.o2_model.specs.declared.allocator.Group.{Group}
use Rattle.o2_model.specs.Allocators.{no_slot}
use Rattle.o2_model.specs.Groups.{GroupWalk}
use Rattle.o2_model.specs.Volume.{Volume, over}
use Rattle.o2_cases_volumes.specs.SmallBytes.{zero_bytes}
use Rattle.o2_cases_volumes.specs.SmallVolumes.{large, small_at, small_geo}

-- the global bitmap, in block 40, and an allocator of inodes, in block 41
abbrev pub bitmap : Allocator
bitmap = record { bit_use = Clusters; slot = no_slot; block = 40 }

abbrev pub inode_allocator : Allocator
inode_allocator = record { bit_use = Inodes; slot = no_slot; block = 41 }

-- the descriptor of the bitmap's one group, in block 8, with a bit for each of the 100 clusters
abbrev pub bitmap_desc : GroupDesc
bitmap_desc = record {
  signature = record { 0 = group_signature };
  size = 448;
  bits = 100;
  free_bits_count = 97;
  chain = 0;
  generation = 5;
  next_group = 0;
  parent_dinode = 40;
  blkno = 8;
}

-- the descriptor of a group of 16 inodes, which begins this block and is followed by the group in that one
abbrev pub inode_desc : ℕ → ℕ → GroupDesc
inode_desc block next = record bitmap_desc { bits = 16; free_bits_count = 16; next_group = next; parent_dinode = 41; blkno = block }

-- the bytes of a descriptor and of the first 16 bits behind it
abbrev pub desc_bytes : GroupDesc → ℕ → List ℕ
desc_bytes desc bits = put_at 0x40 2 bits (put_all group_desc_fields (group_desc_numbers desc) (zero_bytes 80))

-- the small volume with this descriptor in this block, and no set bits, and nothing in the other blocks
abbrev pub with_desc : ℕ → GroupDesc → Volume
with_desc block desc = small_at (λ b. if b == block then desc_bytes desc 0 else [])

-- two groups of inodes, in blocks 80 and 96, where the second is followed by the group in this block
abbrev pub two_groups : ℕ → Volume
two_groups next =
    small_at (λ b. if b == 80 then desc_bytes (inode_desc 80 96) 0 else if b == 96 then desc_bytes (inode_desc 96 next) 0 else [])

-- the group of 16 inodes in this block
abbrev pub inode_group : ℕ → Group
inode_group block = record { of = inode_allocator; chain = 0; block = block; bits = 16 }

-- nothing was met yet
abbrev pub nothing_met : GroupWalk
nothing_met = record { groups = []; faults = [] }

-- the same on a volume of 5000 clusters of 1 MiB with backups, whose first group begins block 2048
abbrev pub with_large_desc : ℕ → GroupDesc → Volume
with_large_desc block desc = over (large 2048) (λ b. if b == block then desc_bytes desc 0 else [])

-- the same where a cluster has one block of 4096 bytes
abbrev pub with_plain_desc : ℕ → GroupDesc → Volume
with_plain_desc block desc =
    record (with_desc block desc) { geo = record small_geo { block_bits = 12 } }

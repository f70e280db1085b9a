-- What is known of a group that the walk of an allocator meets.
use Rattle.std.specs.Prelude.{◌≡◌, ◌+◌, ◌*◌, ◌<◌, ◌≤◌, true}
use Rattle.o2_ondisk.specs.Signatures.{group_signature}
use Rattle.o2_model.specs.declared.allocator.Allocator.{Allocator}
use Rattle.o2_model.specs.Volume.{Volume, block_size, blocks}
use Rattle.o2_model.specs.Allocators.{are_clusters}
use Rattle.o2_model.specs.Groups.{group_desc, is_bitmap_group}
use Rattle.o2_chain.specs.declared.group.Group.{Group}

-- its block is in range, its descriptor is a sound one with that many bits, and a group of the global bitmap is in its place
pub record IsMet (v : Volume) (a : Allocator) (g : Group) : Type 0 where
  pub above : 0 < g.block
  pub below : g.block < blocks v
  pub signature : (group_desc v g.block).signature.0 ≡ group_signature
  pub bits : g.bits ≡ (group_desc v g.block).bits
  pub room : 0x40 + (group_desc v g.block).size ≤ block_size v
  pub fits : (group_desc v g.block).bits ≤ 8 * (group_desc v g.block).size
  pub place : are_clusters a.bit_use ≡ true → is_bitmap_group v g.block ≡ true

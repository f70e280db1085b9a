-- Where a volume's superblock is, and what it says.
use Rattle.std.specs.Prelude.{ℕ, ◌*◌, ◌^◌, ◌/◌, Bool, ◌&&◌, ◌==◌, nat_le, List, [], ◌∷◌, length, drop, find, Option}
use Rattle.o2_ondisk.specs.Dinodes.{last_part_place}
use Rattle.o2_ondisk.specs.Number.{number_at}
use Rattle.o2_ondisk.specs.Signatures.{superblock_signature}
use Rattle.o2_ondisk.specs.Super.{super_of}
use Rattle.o2_ondisk.specs.declared.superblock.Super.{Super}
use Rattle.o2_disk.specs.Image.{Image, block_at}

-- the superblock's part of block 2, where a block has 2 ^ bits bytes (struct ocfs2_super_block)
abbrev pub superblock : Image → ℕ → Super
superblock I bits = super_of (drop last_part_place (block_at (2 ^ bits) I 2))

-- the number of the volume's clusters, in the superblock's dinode (i_clusters of struct ocfs2_dinode)
abbrev pub cluster_count : Image → ℕ → ℕ
cluster_count I bits = number_at 0x14 4 (block_at (2 ^ bits) I 2)

-- Block 2 of that size lies within the device, has the signature and tells that size.
unfoldable pub has_super : Image → ℕ → Bool
has_super I bits =
    nat_le (3 * 2 ^ bits) (512 * length I)
    && number_at 0x0 8 (block_at (2 ^ bits) I 2) == superblock_signature
    && (superblock I bits).blocksize_bits == bits

-- the sizes that a block may have, as powers of two
abbrev pub block_sizes : List ℕ
block_sizes = 9 ∷ 10 ∷ 11 ∷ 12 ∷ []

-- the block-size bits under which a superblock is found, the least of them
unfoldable pub superblock_bits : Image → Option ℕ
superblock_bits I = find (has_super I) block_sizes

-- the sector in which block 2 begins
abbrev pub super_sector : ℕ → ℕ
super_sector bits = 2 * 2 ^ bits / 512

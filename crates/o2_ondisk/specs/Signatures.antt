-- The letters that say what a structure is, as the numbers that their 8 bytes are.
use Rattle.std.specs.Prelude.{◌≡◌, ℕ, [], ◌∷◌, ◌++◌, codes, refl}
use Rattle.byteorder.specs.Endian.{little_number}

abbrev pub superblock_signature : ℕ
superblock_signature = 0x32565346434f

-- it is these letters, filled up with NUL
pub signature-is : little_number 8 (codes "OCFSV2" ++ 0 ∷ 0 ∷ []) ≡ superblock_signature
signature-is = refl

abbrev pub inode_signature : ℕ
inode_signature = 0x313045444f4e49

abbrev pub extent_block_signature : ℕ
extent_block_signature = 0x31304b4c425845

abbrev pub group_signature : ℕ
group_signature = 0x313050554f5247

abbrev pub dx_root_signature : ℕ
dx_root_signature = 0x31305249445844

abbrev pub dx_leaf_signature : ℕ
dx_leaf_signature = 0x314641454c5844

abbrev pub refcount_block_signature : ℕ
refcount_block_signature = 0x31544e43464552

abbrev pub dir_trailer_signature : ℕ
dir_trailer_signature = 0x314c5254524944

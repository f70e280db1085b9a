-- A whole disk as the contracts see it: a list of sectors, each a list of 512 bytes.
use Rattle.std.specs.Prelude.{◌≡◌, ◌⊎◌, ℕ, ◌+◌, ◌-◌, ◌*◌, ◌/◌, ◌%◌, ◌^◌, ◌<◌, ◌≤◌, ◌&&◌, List, [], length, map, take, drop, replicate, slice_index, slice_index_or, nat_le, nat_lt, if◌then◌else◌}
use Rattle.std.specs.List.{range_with_len}

abbrev pub Image : Type 0
Image = List (List ℕ)

-- a sector's bytes; past the end there are none
abbrev pub sector : Image → ℕ → List ℕ
sector image s = slice_index_or image s []

-- 512 bytes
pub record IsSector (bytes : List ℕ) : Type 0 where
  pub whole : length bytes ≡ 512
  pub are_bytes : (i : ℕ) → slice_index bytes i < 256

-- What the content of a disk is: whole sectors of bytes, fewer than 2 ^ 64 of them.
pub record IsImage (image : Image) : Type 0 where
  pub few : length image < 2 ^ 64
  pub each : (s : ℕ) → s < length image → IsSector (sector image s)

-- an image that is told sector by sector
abbrev pub image_of : ℕ → (ℕ → List ℕ) → Image
image_of sectors at = map at (range_with_len 0 sectors)

-- how many sectors some bytes fill, and the k-th of them
abbrev pub sectors_in : List ℕ → ℕ
sectors_in bytes = length bytes / 512

abbrev pub piece : List ℕ → ℕ → List ℕ
piece bytes k = take 512 (drop (512 * k) bytes)

-- the sector s is one of those that these bytes fill from `at` on
abbrev pub InRange : ℕ → List ℕ → ℕ → Type 0
InRange at bytes s = (at ≤ s) × (s < at + sectors_in bytes)

-- the image with these bytes from sector `at` on
unfoldable pub written : Image → ℕ → List ℕ → Image
written image at bytes =
    image_of (length image) (λ s. if nat_le at s && nat_lt s (at + sectors_in bytes) then piece bytes (s - at) else sector image s)

-- byte i of the image, counted from its beginning
abbrev pub byte : Image → ℕ → ℕ
byte image i = slice_index (sector image (i / 512)) (i % 512)

-- `count` bytes of the image, from byte `start` on
abbrev pub bytes_from : Image → ℕ → ℕ → List ℕ
bytes_from image start count = map (byte image) (range_with_len start count)

-- the bytes of block b, where a block has `size` bytes
abbrev pub block_at : ℕ → Image → ℕ → List ℕ
block_at size image b = bytes_from image (size * b) size

-- a sector of zeros (opened, it computes to its 512 cells)
unfoldable pub zero_sector : List ℕ
zero_sector = replicate 512 0

-- a disk of zeros
unfoldable pub zeros : ℕ → Image
zeros sectors = image_of sectors (λ s. zero_sector)

-- After a write that a crash may have torn: each sector of the range has its old bytes or the new ones.
pub record Torn (at : ℕ) (bytes : List ℕ) (old new : Image) : Type 0 where
  pub size : length new ≡ length old
  pub each : (s : ℕ) → (sector new s ≡ sector old s) ⊎ (InRange at bytes s × (sector new s ≡ piece bytes (s - at)))

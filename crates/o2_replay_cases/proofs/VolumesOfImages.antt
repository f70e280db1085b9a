-- The image that has the blocks of a small volume, a sector each, is that volume.
use Rattle.std.proofs.Common.{◌≡◌, inl, inr, ℕ, ◌*◌, ◌/◌, ◌^◌, ◌<◌, ◌≤◌, true, ◌&&◌, ◌==◌, nat_le, List, [], length, drop, replicate, refl, sym, ◌∙◌, ap, Some, None}
use Rattle.std.proofs.lemmas.Bool.{cases_lt, le-ltb}
use Rattle.o2_ondisk.specs.Number.{number_at}
use Rattle.o2_ondisk.specs.Signatures.{superblock_signature}
use Rattle.o2_ondisk.specs.Super.{super_of}
use Rattle.o2_disk.specs.Image.{sector, bytes_from, block_at}
use Rattle.o2_disk.proofs.Images.{length-image_of, sector-image_of, sector_past, bytes_from-sector, bytes_from-same}
use Rattle.o2_model.specs.Features.{unsupported_in, unsupported_feature}
use Rattle.o2_model.specs.Geometry.{geometry_in_block}
use Rattle.o2_model.specs.Superblock.{has_super, superblock_bits}
use Rattle.o2_model.specs.Volume.{volume_of, opened}
use Rattle.o2_cases_volumes.specs.WholeVolume.{on_device, whole_geo, volume_with}
use Rattle.o2_replay_cases.specs.WholeImages.{IsVolume, image_with}
use Rattle.o2_replay_cases.proofs.Fullness.{full_blocks}

-- ---- blocks
pub length-image_with : (blocks : ℕ → List ℕ) → length (image_with blocks) ≡ 128
unfolding image_with
length-image_with blocks = length-image_of 128 (on_device blocks)

pub sector-image_with : (blocks : ℕ → List ℕ) (s : ℕ) → s < 128 → sector (image_with blocks) s ≡ on_device blocks s
unfolding image_with
sector-image_with blocks s low = sector-image_of 128 (on_device blocks) s low

-- nothing but zeros is read where there are no sectors
no_sector : (b : ℕ) → bytes_from [] (512 * b) 512 ≡ replicate 512 0
no_sector b = refl

behind : (blocks : ℕ → List ℕ) (b : ℕ) → 128 ≤ b → on_device blocks b ≡ replicate 512 0
unfolding on_device
behind blocks b high = rw (le-ltb b 128 high) refl

pub block_at-image_with : (blocks : ℕ → List ℕ) → IsVolume blocks → (b : ℕ) → block_at 512 (image_with blocks) b ≡ on_device blocks b
block_at-image_with blocks is b = elim (cases_lt b 128) [
  | inl low ↦ bytes_from-sector (image_with blocks) b (on_device blocks b) (full_blocks blocks is.full b low) (sector-image_with blocks b low)
  | inr high ↦ bytes_from-same (image_with blocks) [] b (sector_past (image_with blocks) b (rw (length-image_with blocks) high)) ∙ (no_sector b ∙ sym (behind blocks b high))
]

-- ---- the volume
is_found : (sectors : ℕ) (bytes : List ℕ) → sectors ≡ 128 → number_at 0x0 8 bytes ≡ superblock_signature → (super_of (drop 0xc0 bytes)).blocksize_bits ≡ 9
    → (nat_le (3 * 2 ^ 9) (512 * sectors) && number_at 0x0 8 bytes == superblock_signature && (super_of (drop 0xc0 bytes)).blocksize_bits == 9) ≡ true
is_found sectors bytes size signature bits = rw (size, signature, bits) refl

has_super_there : (blocks : ℕ → List ℕ) → IsVolume blocks → has_super (image_with blocks) 9 ≡ true
unfolding has_super
has_super_there blocks is =
    let at = block_at-image_with blocks is 2 in
    is_found (length (image_with blocks)) (block_at 512 (image_with blocks) 2) (length-image_with blocks) (ap (number_at 0x0 8) at ∙ is.signature)
    (ap (λ bytes. (super_of (drop 0xc0 bytes)).blocksize_bits) at ∙ is.bits)

bits_found : (blocks : ℕ → List ℕ) → IsVolume blocks → superblock_bits (image_with blocks) ≡ Some 9
unfolding superblock_bits
bits_found blocks is = rw (has_super_there blocks is) refl

same_volume : (blocks : ℕ → List ℕ) → IsVolume blocks → volume_of (image_with blocks) 9 ≡ volume_with blocks
same_volume blocks is =
    let at = block_at-image_with blocks is in
    let geometry : geometry_in_block (block_at 512 (image_with blocks) 2) ≡ whole_geo = ap geometry_in_block (at 2) ∙ is.geometry in
    let size : 512 * length (image_with blocks) / 512 ≡ 128 = ap (λ n. 512 * n / 512) (length-image_with blocks) in
    λ i. record { geo = geometry i; at = λ b. at b i; on_device = size i }

-- The image has the volume.
pub opened-image_with : (blocks : ℕ → List ℕ) → IsVolume blocks → opened (image_with blocks) ≡ Some (volume_with blocks)
opened-image_with blocks is = rw (bits_found blocks is) (ap (λ v. Some v) (same_volume blocks is))

-- Its features are in the profile.
pub supported-image_with : (blocks : ℕ → List ℕ) → IsVolume blocks → unsupported_feature (image_with blocks) ≡ None
supported-image_with blocks is =
    rw (bits_found blocks is) (ap (λ bytes. unsupported_in (super_of (drop 0xc0 bytes)) (number_at 0x14 4 bytes)) (block_at-image_with blocks is 2) ∙ is.supported)

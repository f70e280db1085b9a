-- Block 2 by its first sector, which has all that is looked at.
use Rattle.std.proofs.Common.{◌≡◌, ℕ, ◌+◌, ◌-◌, ◌*◌, ◌/◌, ◌^◌, ◌<◌, ◌≤◌, List, length, take, drop, Bool, true, false, ◌&&◌, refl, sym, ◌∙◌, ap, arith}
use Rattle.std.proofs.lemmas.List.{ext_get_or, get_or-take, length-take, drop-take}
use Rattle.std.proofs.lemmas.List.FromFn.{length-map-range_with_len, get_or-map-range_with_len}
use Rattle.std.proofs.lemmas.Nat.{pow-add, pow_pos}
use Rattle.std.proofs.lemmas.Bool.Decides.{nat_tests}
use Rattle.std.specs.Prelude.{nat_le, ◌==◌}
use Rattle.o2_ondisk.specs.Number.{number_at}
use Rattle.o2_ondisk.specs.Super.{super_of}
use Rattle.o2_ondisk.specs.declared.superblock.Super.{Super}
use Rattle.o2_ondisk.proofs.NumberLaws.{number_at-take}
use Rattle.o2_ondisk.proofs.SuperLaws.{super_of-take}
use Rattle.o2_ondisk.specs.Signatures.{superblock_signature}
use Rattle.o2_disk.specs.Image.{Image, byte, bytes_from, block_at}
use Rattle.o2_model.specs.Superblock.{superblock, cluster_count, super_sector, has_super}
use Rattle.o2_model.specs.Geometry.{geometry_in, geometry_at}

-- the first bytes of some bytes of an image
pub bytes_from-take : (I : Image) (start n count : ℕ) → n ≤ count → take n (bytes_from I start count) ≡ bytes_from I start n
bytes_from-take I start n count le = ext_get_or 0 (take n (bytes_from I start count)) (bytes_from I start n) (long ∙ sym (length-map-range_with_len (byte I) start n)) (λ i h.
    let low : i < n = omega (arith, h, long) in
    let within : i < count = omega (arith, low, le) in
    get_or-take n (bytes_from I start count) i 0 low
    ∙ get_or-map-range_with_len (byte I) start count i (start + i) 0 within refl
    ∙ sym (get_or-map-range_with_len (byte I) start n i (start + i) 0 low refl))
  where
    long : length (take n (bytes_from I start count)) ≡ n
    long = omega (arith, le, length-take n (bytes_from I start count), length-map-range_with_len (byte I) start count)

-- a block's first sector, where a block has k of them
pub first_sector : (I : Image) (k b : ℕ) → 1 ≤ k → take 512 (block_at (512 * k) I b) ≡ bytes_from I (512 * (k * b)) 512
first_sector I k b some = bytes_from-take I (512 * k * b) 512 (512 * k) (omega (arith, some)) ∙ ap (λ (start : ℕ). bytes_from I start 512) place
  where
    place : 512 * k * b ≡ 512 * (k * b)
    place = omega arith

-- a block is some whole sectors
module _ (bits : ℕ) (least : 9 ≤ bits) where
  pub size-is : 2 ^ bits ≡ 512 * 2 ^ (bits - 9)
  size-is = ap (λ (n : ℕ). 2 ^ n) sum ∙ pow-add 2 9 (bits - 9)
    where
      sum : bits ≡ 9 + (bits - 9)
      sum = omega (arith, least)

  pub some_sectors : 1 ≤ 2 ^ (bits - 9)
  some_sectors = pow_pos (bits - 9)

  pub super_sector-is : super_sector bits ≡ 2 * 2 ^ (bits - 9)
  super_sector-is = ap (λ (n : ℕ). 2 * n / 512) size-is ∙ place (2 ^ (bits - 9))
    where
      place : (k : ℕ) → 2 * (512 * k) / 512 ≡ 2 * k
      place k = omega arith

  -- block 2's first sector lies within a disk that has the block
  pub super_sector-within : (sectors : ℕ) → 3 * 2 ^ (bits - 9) ≤ sectors → super_sector bits < sectors
  super_sector-within sectors fits = omega (arith, super_sector-is, some_sectors, fits)

  module _ (I : Image) (bytes : List ℕ) (is : bytes ≡ bytes_from I (512 * super_sector bits) 512) where
    is_first : bytes ≡ take 512 (block_at (2 ^ bits) I 2)
    is_first =
        is
        ∙ ap (λ (s : ℕ). bytes_from I (512 * s) 512) (super_sector-is ∙ twice)
        ∙ sym (first_sector I (2 ^ (bits - 9)) 2 some_sectors)
        ∙ ap (λ (n : ℕ). take 512 (block_at n I 2)) (sym size-is)
      where
        twice : 2 * 2 ^ (bits - 9) ≡ 2 ^ (bits - 9) * 2
        twice = omega arith

    pub number_at-first : (at width : ℕ) → at + width ≤ 512 → number_at at width bytes ≡ number_at at width (block_at (2 ^ bits) I 2)
    number_at-first at width fits = ap (number_at at width) is_first ∙ number_at-take at width 512 (block_at (2 ^ bits) I 2) fits

    pub superblock-first : super_of (drop 0xc0 bytes) ≡ superblock I bits
    superblock-first =
        ap (λ (l : List ℕ). super_of (drop 0xc0 l)) is_first
        ∙ ap super_of (drop-take 0xc0 320 (block_at (2 ^ bits) I 2))
        ∙ super_of-take 320 (drop 0xc0 (block_at (2 ^ bits) I 2)) (omega arith)

    pub cluster_count-first : number_at 0x14 4 bytes ≡ cluster_count I bits
    cluster_count-first = number_at-first 0x14 4 (omega arith)

    -- the numbers that the first sector tells are those of the volume
    pub geometry-first : (part : Super) (clusters generation : ℕ) → part ≡ superblock I bits → clusters ≡ cluster_count I bits → generation ≡ number_at 0x60 4 bytes → geometry_in part clusters generation ≡ geometry_at I bits
    geometry-first part clusters generation super_is clusters_are generation_is =
        ap (λ (s : Super). geometry_in s clusters generation) super_is
        ∙ ap (λ (n : ℕ). geometry_in (superblock I bits) n generation) clusters_are
        ∙ ap (λ (n : ℕ). geometry_in (superblock I bits) (cluster_count I bits) n) (generation_is ∙ number_at-first 0x60 4 (omega arith))

    -- what the first sector says of a superblock
    pub has_super-first : 3 * 2 ^ (bits - 9) ≤ length I → has_super I bits ≡ (number_at 0x0 8 bytes == superblock_signature && (super_of (drop 0xc0 bytes)).blocksize_bits == bits)
    unfolding has_super
    has_super-first fits =
        ap (λ (b : Bool). b && number_at 0x0 8 (block_at (2 ^ bits) I 2) == superblock_signature && (superblock I bits).blocksize_bits == bits) room
        ∙ ap (λ (n : ℕ). n == superblock_signature && (superblock I bits).blocksize_bits == bits) (sym (number_at-first 0x0 8 (omega arith)))
        ∙ ap (λ (s : Super). number_at 0x0 8 bytes == superblock_signature && s.blocksize_bits == bits) (sym superblock-first)
      where
        enough : (k n : ℕ) → 3 * k ≤ n → nat_le (3 * (512 * k)) (512 * n) ≡ true
        enough k n le = grind (arith, nat_tests)

        room : nat_le (3 * 2 ^ bits) (512 * length I) ≡ true
        room = ap (λ (n : ℕ). nat_le (3 * n) (512 * length I)) size-is ∙ enough (2 ^ (bits - 9)) (length I) fits

  -- a disk that ends before block 2 does
  pub has_super-short : (I : Image) → length I < 3 * 2 ^ (bits - 9) → has_super I bits ≡ false
  unfolding has_super
  has_super-short I short = ap (λ (b : Bool). b && number_at 0x0 8 (block_at (2 ^ bits) I 2) == superblock_signature && (superblock I bits).blocksize_bits == bits) room
    where
      less : (k n : ℕ) → n < 3 * k → nat_le (3 * (512 * k)) (512 * n) ≡ false
      less k n lt = grind (arith, nat_tests)

      room : nat_le (3 * 2 ^ bits) (512 * length I) ≡ false
      room = ap (λ (n : ℕ). nat_le (3 * n) (512 * length I)) size-is ∙ less (2 ^ (bits - 9)) (length I) short

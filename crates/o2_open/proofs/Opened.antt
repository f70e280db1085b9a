-- The volume that a superblock opens.
use Rattle.std.proofs.Common.{◌≡◌, ℕ, ◌*◌, ◌/◌, ◌^◌, length, Option, Some, sym, ◌∙◌, ap}
use Rattle.std.specs.Prelude.{option_and_then}
use Rattle.std.specs.Option.{option_map}
use Rattle.o2_ondisk.specs.declared.superblock.Super.{Super}
use Rattle.o2_disk.specs.Image.{Image, block_at}
use Rattle.o2_model.specs.declared.geo.Geo.{Geo}
use Rattle.o2_model.specs.declared.oddity.Oddity.{Oddity}
use Rattle.o2_model.specs.Superblock.{superblock, superblock_bits, cluster_count}
use Rattle.o2_model.specs.Geometry.{geometry_at, geometry_in_block}
use Rattle.o2_model.specs.Features.{unsupported_in, unsupported_feature}
use Rattle.o2_model.specs.Volume.{Volume, opened, volume_of}
use Rattle.o2_open.specs.Devices.{volume_on}
use Rattle.o2_view.specs.SuperSector.{IsSuperSector, TellsSuper}
use Rattle.o2_view.specs.declared.superblock.SuperSector.{SuperSector}

module _ (I : Image) (s : SuperSector) (found : (superblock_bits I ≡ Some s.bits) × IsSuperSector I s) where
  -- its first feature outside the profile
  pub feature_read : (what : Option Oddity) (part : Super) (clusters : ℕ) → ((J : Image) → IsSuperSector J s → part ≡ superblock J s.bits) → ((J : Image) → IsSuperSector J s → clusters ≡ cluster_count J s.bits) → what ≡ unsupported_in part clusters → unsupported_feature I ≡ what
  feature_read what part clusters part_is clusters_are is =
      ap (λ (o : Option ℕ). option_and_then (λ bits. unsupported_in (superblock I bits) (cluster_count I bits)) o) found.0
      ∙ sym (is ∙ ap (λ (p : Super). unsupported_in p clusters) (part_is I found.1) ∙ ap (λ (n : ℕ). unsupported_in (superblock I s.bits) n) (clusters_are I found.1))

  abbrev seen_by_bits : (geo : Geo) (b : ℕ) → Volume
  seen_by_bits geo b = record { geo = geo; at = block_at (2 ^ b) I; on_device = 512 * length I / 2 ^ b }

  -- the volume of the numbers that it tells
  pub opened_read : (geo : Geo) → geo ≡ geometry_in_block s.bytes → ((J : Image) → IsSuperSector J s → geo ≡ geometry_at J s.bits) → TellsSuper s → opened I ≡ Some (volume_on geo I)
  opened_read geo told volume tells =
      let size : geo.block_bits ≡ s.bits = ap (λ (g : Geo). g.block_bits) told ∙ tells.size in
      ap (λ (o : Option ℕ). option_map (volume_of I) o) found.0
      ∙ ap (λ (b : ℕ). Some (seen_by_bits (geometry_at I s.bits) b)) (sym size)
      ∙ ap (λ (g : Geo). Some (seen_by_bits g geo.block_bits)) (sym (volume I found.1))

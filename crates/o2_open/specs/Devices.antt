-- The volume on a device.
use Rattle.std.specs.Prelude.{◌≡◌, ◌*◌, ◌/◌, ◌^◌, length, Some}
use Rattle.o2_disk.specs.Device.{DiskState}
use Rattle.o2_disk.specs.Image.{Image, block_at}
use Rattle.o2_model.specs.Volume.{Volume}
use Rattle.o2_model.specs.declared.geo.Geo.{Geo}

-- the volume of these numbers on an image, where nothing is planned
abbrev pub volume_on : Geo → Image → Volume
volume_on geo I = record { geo = geo; at = block_at (2 ^ geo.block_bits) I; on_device = 512 * length I / 2 ^ geo.block_bits }

-- the device tells its content, and this is the volume of these numbers on it
pub record IsOn (d : DiskState) (geo : Geo) (v : Volume) : Type 0 where
  pub image : Image
  pub told : d.content ≡ Some image
  pub is : v ≡ volume_on geo image

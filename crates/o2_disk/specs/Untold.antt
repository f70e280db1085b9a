-- A disk that tells no content: for all that is known, a crash may leave anything.
use Rattle.std.specs.Prelude.{◌≡◌, ℕ, List, Option, None, Some}
use Rattle.o2_disk.specs.Image.{Image}
use Rattle.o2_disk.specs.Attaches.{Attachment}
use Rattle.o2_disk.specs.Device.{DiskState}
use Rattle.o2_disk.specs.declared.disk.How.{How}

abbrev pub untold : List Attachment → Option How → ℕ → ℕ → DiskState
untold attaches attached sectors faults = record {
  attaches = attaches;
  attached = attached;
  sectors = sectors;
  content = None;
  may_leave = λ X. Unit {0};
  left_since = λ t X. Unit {0};
  moment = 0;
  faults = faults;
}

-- what would be said of a told content
pub nothing_told : {P : Type 0} (I : Image) → ◌≡◌ {A = Option Image} None (Some I) → P
nothing_told I told = cc

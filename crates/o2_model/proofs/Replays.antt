-- A torn replay may leave an image as it was.
use Rattle.std.proofs.Common.{◌≡◌, inl, refl, Some}
use Rattle.o2_disk.specs.Image.{Image}
use Rattle.o2_model.specs.Volume.{Volume, opened}
use Rattle.o2_model.specs.TornReplays.{IsPartialReplay}
use Rattle.o2_model.specs.Recoverable.{IsReplayable, IsReplayStable}

-- An image is one that a torn replay of it leaves.
pub partial_self : (I : Image) (v : Volume) → opened I ≡ Some v → IsPartialReplay I I
partial_self I v is = record {
  volume = v;
  is_opened = is;
  torn = record { size = refl; each = λ s low. inl refl; own = λ b dirty. refl };
}

pub stable_self : (I : Image) (h : IsReplayStable I) → IsReplayable h.volume I
stable_self I h = h.each I (partial_self I h.volume h.is_opened)

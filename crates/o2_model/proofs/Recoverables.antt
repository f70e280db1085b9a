-- A recoverable image is repairable.
use Rattle.o2_disk.specs.Image.{Image}
use Rattle.o2_model.specs.Consistent.{IsConsistent, HasSoundSkeleton}
use Rattle.o2_model.specs.Recoverable.{IsRecoverable, IsRepairable}
use Rattle.o2_model.proofs.Skeletons.{none_of_both}

consistent_skeleton : (I : Image) → IsConsistent I → HasSoundSkeleton I
consistent_skeleton I h = record { volume = h.volume; is_opened = h.is_opened; none_fails = (none_of_both h.volume h.none_fails).0 }

pub recoverable_repairable : (I : Image) → IsRecoverable I → IsRepairable I
recoverable_repairable I h = record { stable = h.stable; skeleton = consistent_skeleton _ h.consistent }

use Rattle.o2_laws.proofs.Kept.ConsistentImages.{consistent_opened, consistent_alike, contents_alike, geometry_alike}
use Rattle.o2_laws.proofs.Held.HeldBlocks.{on_held}
use Rattle.o2_laws.proofs.Kept.JournalSupers.{sound_supers}
use Rattle.o2_disk.specs.Image.{block_at}
use Rattle.o2_model.specs.Volume.{block_size}
use Rattle.o2_laws.proofs.alike_laws.images_alike_are_consistent.Goals as goal

pub returns-clause-opened : goal.returns-clause-opened
returns-clause-opened c = λ I X h size agrees. consistent_opened I X h size (on_held h.volume (block_at (block_size h.volume) X) agrees)

pub returns-clause-consistent : goal.returns-clause-consistent
returns-clause-consistent c = λ I X h size agrees. consistent_alike I X h size (on_held h.volume (block_at (block_size h.volume) X) agrees) (sound_supers h.volume (block_at (block_size h.volume) X) h.none_fails agrees)

pub returns-clause-contents : goal.returns-clause-contents
returns-clause-contents c = λ I X h size agrees. contents_alike I X h size (on_held h.volume (block_at (block_size h.volume) X) agrees)

pub returns-clause-geometry : goal.returns-clause-geometry
returns-clause-geometry c = λ I X h size agrees. geometry_alike I X h size (on_held h.volume (block_at (block_size h.volume) X) agrees)

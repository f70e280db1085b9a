use Rattle.o2_cases_volumes.specs.WholeVolume.{whole_block}
use Rattle.o2_replay_cases.proofs.VolumesOfImages.{opened-image_with}
use Rattle.o2_replay_cases.proofs.RecoverableImages.{consistent_of}
use Rattle.o2_replay_cases.proofs.images.whole_image_is_consistent.Goals as goal

pub returns-clause-opened : goal.returns-clause-opened
returns-clause-opened c = opened-image_with whole_block c.blocks_are_volumes.ensures.whole

pub returns-clause-consistent : goal.returns-clause-consistent
returns-clause-consistent c = consistent_of whole_block c.blocks_are_volumes.ensures.whole c.whole_volume_is_sound.ensures.none_fails c.whole_volume_is_sound.ensures.supported

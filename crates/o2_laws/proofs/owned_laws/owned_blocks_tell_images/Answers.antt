use Rattle.o2_laws.proofs.Held.HeldImages.{super_held, held_tell_volume, held_tell_image_tree, held_tell_image_files}
use Rattle.o2_laws.proofs.Held.HeldBlocks.{held_owned, on_held}
use Rattle.std.proofs.Common.{◌^◌}
use Rattle.o2_disk.specs.Image.{block_at}
use Rattle.o2_model.specs.Volume.{volume_of}
use Rattle.o2_laws.proofs.owned_laws.owned_blocks_tell_images.Goals as goal

pub returns-clause-first : goal.returns-clause-first
returns-clause-first c = λ v b none low. held_owned v b (super_held v b none low)

pub returns-clause-volume : goal.returns-clause-volume
returns-clause-volume c = λ I X bits none size agrees. held_tell_volume I X bits none size (on_held (volume_of I bits) (block_at (2 ^ bits) X) agrees)

pub returns-clause-tree : goal.returns-clause-tree
returns-clause-tree c = λ I X bits none size agrees. held_tell_image_tree I X bits none size (on_held (volume_of I bits) (block_at (2 ^ bits) X) agrees)

pub returns-clause-files : goal.returns-clause-files
returns-clause-files c = λ I X bits none size agrees. held_tell_image_files I X bits none size (on_held (volume_of I bits) (block_at (2 ^ bits) X) agrees)

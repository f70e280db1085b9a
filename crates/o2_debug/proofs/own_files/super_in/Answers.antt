-- The bytes from the superblock's part on.
use Rattle.std.proofs.Common.{◌∙◌, ap}
use Rattle.std.proofs.lemmas.List.{take_rest}
use Rattle.o2_ondisk.specs.Super.{super_of}
use Rattle.o2_ondisk.specs.Dinodes.{last_part_place}
use Rattle.o2_debug.proofs.own_files.super_in.Goals as goal

pub returns : goal.returns
returns c = c.read_super.ensures ∙ ap super_of (take_rest c.args.bytes.now last_part_place)

-- The bytes from the header on.
use Rattle.std.proofs.Common.{◌∙◌, ap}
use Rattle.std.proofs.lemmas.List.{take_rest}
use Rattle.o2_ondisk.specs.LocalAllocHeaders.{local_alloc_header_of}
use Rattle.o2_ondisk.specs.Dinodes.{last_part_place}
use Rattle.o2_slots.proofs.window.header_of.Goals as goal

pub returns : goal.returns
returns c = c.read_local_alloc_header.ensures ∙ ap local_alloc_header_of (take_rest c.args.bytes.now last_part_place)

-- The bytes from the header on.
use Rattle.std.proofs.Common.{◌∙◌, ap}
use Rattle.std.proofs.lemmas.List.{take_rest}
use Rattle.o2_ondisk.specs.TruncateLogHeaders.{truncate_log_header_of}
use Rattle.o2_ondisk.specs.Dinodes.{last_part_place}
use Rattle.o2_slots.proofs.truncation.header_of.Goals as goal

pub returns : goal.returns
returns c = c.read_truncate_log_header.ensures ∙ ap truncate_log_header_of (take_rest c.args.bytes.now last_part_place)

-- The bytes from the list on.
use Rattle.std.proofs.Common.{◌∙◌, ap}
use Rattle.std.proofs.lemmas.List.{take_rest}
use Rattle.o2_ondisk.specs.ExtentListHeaders.{extent_list_header_of}
use Rattle.o2_survey.proofs.discontiguous.list_header.Goals as goal

pub returns : goal.returns
returns c = c.read_extent_list_header.ensures ∙ ap extent_list_header_of (take_rest c.args.bytes.now 0x140)

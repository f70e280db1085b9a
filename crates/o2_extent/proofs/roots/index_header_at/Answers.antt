-- The rest of the bytes is taken whole.
use Rattle.std.proofs.Common.{◌∙◌, ap}
use Rattle.std.proofs.lemmas.List.{take_rest}
use Rattle.o2_ondisk.specs.DxListHeaders.{dx_list_header_of}
use Rattle.o2_extent.proofs.roots.index_header_at.Goals as goal

pub returns : goal.returns
returns c = c.read_dx_list_header.ensures ∙ ap dx_list_header_of (take_rest c.args.bytes.now c.args.at)

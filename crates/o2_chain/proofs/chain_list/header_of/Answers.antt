-- The bytes from the list on.
use Rattle.std.proofs.Common.{◌∙◌, ap}
use Rattle.std.proofs.lemmas.List.{take_rest}
use Rattle.o2_ondisk.specs.ChainListHeaders.{chain_list_header_of}
use Rattle.o2_ondisk.specs.Dinodes.{last_part_place}
use Rattle.o2_chain.proofs.chain_list.header_of.Goals as goal

pub returns : goal.returns
returns c = c.read_chain_list_header.ensures ∙ ap chain_list_header_of (take_rest c.args.bytes.now last_part_place)

-- The rest of the bytes is taken whole.
use Rattle.std.proofs.Common.{◌∙◌, ap}
use Rattle.std.proofs.lemmas.List.{take_rest}
use Rattle.o2_ondisk.specs.RefcountListHeaders.{refcount_list_header_of}
use Rattle.o2_refcount.proofs.block_records.header_of.Goals as goal

pub returns : goal.returns
returns c = c.read_refcount_list_header.ensures ∙ ap refcount_list_header_of (take_rest c.args.bytes.now 0x80)

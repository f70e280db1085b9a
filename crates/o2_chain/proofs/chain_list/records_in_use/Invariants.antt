-- The records so far are the list's first ones.
use Rattle.std.proofs.Common.{◌≡◌}
use Rattle.o2_ondisk.specs.ChainRecs.{chain_rec_of}
use Rattle.o2_ondisk.specs.Dinodes.{list_records_place}
use Rattle.o2_model.specs.Words.{table}
use Rattle.o2_chain.proofs.chain_list.records_in_use.Given as goal

abbrev pub invariant-loop-k : goal.invariant-loop-k
invariant-loop-k l = l.records.items ≡ table chain_rec_of 16 list_records_place l.k l.bytes

-- The nodes so far are those of the first entries.
use Rattle.std.proofs.Common.{◌≡◌}
use Rattle.o2_model.specs.Words.{table}
use Rattle.o2_slots.specs.Entries.{entry_size, node_of}
use Rattle.o2_slots.proofs.entries.nodes_in.Given as goal

abbrev pub invariant-loop-k : goal.invariant-loop-k
invariant-loop-k l = l.nodes.items ≡ table (node_of l.geo) (entry_size l.geo) 0 l.k l.bytes

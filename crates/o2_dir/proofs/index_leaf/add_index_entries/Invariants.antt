-- The first entries were put at the end.
use Rattle.std.proofs.Common.{◌≡◌, ◌+◌, ◌++◌}
use Rattle.o2_ondisk.specs.DxEntries.{dx_entry_of}
use Rattle.o2_model.specs.Words.{table}
use Rattle.o2_dir.proofs.index_leaf.add_index_entries.Given as goal

abbrev pub invariant-loop-k : goal.invariant-loop-k
invariant-loop-k l = l.entries.items ≡ l.fn.entries.items ++ table dx_entry_of 16 (l.at + 0x8) l.k l.bytes

-- The counts of the blocks that the entries so far name.
use Rattle.std.proofs.Common.{map, take}
use Rattle.o2_tally.specs.Gathered.{IsCount}
use Rattle.o2_indexes.proofs.block_counts.count_indexed.Given as goal

abbrev pub invariant-loop-entry : goal.invariant-loop-entry
invariant-loop-entry l = IsCount (map (λ x. x.dirent_blk) (take l.entry-index l.index)) l.counts

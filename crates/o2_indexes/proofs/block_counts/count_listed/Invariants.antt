-- The counts of the blocks of the entries so far.
use Rattle.std.proofs.Common.{map, take}
use Rattle.o2_tally.specs.Gathered.{IsCount}
use Rattle.o2_indexes.proofs.block_counts.count_listed.Given as goal

abbrev pub invariant-loop-entry : goal.invariant-loop-entry
invariant-loop-entry l = IsCount (map (λ e. e.block) (take l.entry-index l.entries)) l.counts

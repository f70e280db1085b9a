-- The uses so far were counted.
use Rattle.std.proofs.Common.{take}
use Rattle.o2_tally.specs.Gathered.{IsCount}
use Rattle.o2_judges_alloc.proofs.metadata_blocks.counts_of.Given as goal

abbrev pub invariant-loop-block : goal.invariant-loop-block
invariant-loop-block l = IsCount (take l.block-index l.uses) l.counts

-- The uses so far were counted.
use Rattle.std.proofs.Common.{take}
use Rattle.o2_tally.specs.Gathered.{IsCount}
use Rattle.o2_judges_index.proofs.block_uses.counts_of.Given as goal

abbrev pub invariant-loop-number : goal.invariant-loop-number
invariant-loop-number l = IsCount (take l.number-index l.numbers) l.counts

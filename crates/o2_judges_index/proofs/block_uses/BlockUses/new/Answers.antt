-- The rows tell the uses.
use Rattle.std.proofs.Common.{subst}
use Rattle.o2_tally.specs.Gathered.{IsCount}
use Rattle.o2_judges_index.proofs.BlocksTold.{all_uses}
use Rattle.o2_judges_index.proofs.block_uses.BlockUses.new.Goals as goal

pub returns : goal.returns
returns c = λ v groups inodes trees indexes. record {
  placed = c.in_ok-placed.ensures v groups;
  counts = subst (λ ns. IsCount ns c.in_ok-counts.counts) (all_uses v _ _ _ inodes trees indexes) c.in_ok-counts.ensures;
}

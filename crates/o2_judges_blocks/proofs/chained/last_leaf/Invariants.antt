-- The blocks from this one on are left.
use Rattle.std.proofs.Common.{◌≡◌, fold, drop}
use Rattle.o2_judges_blocks.specs.LeafRows.{leaf_rows, last_of}
use Rattle.o2_judges_blocks.proofs.chained.last_leaf.Given as goal

abbrev pub invariant-loop-row : goal.invariant-loop-row
invariant-loop-row l = fold (λ _ leaf. leaf.block) l.last (leaf_rows (drop l.row-index l.blocks)) ≡ last_of (leaf_rows l.blocks)

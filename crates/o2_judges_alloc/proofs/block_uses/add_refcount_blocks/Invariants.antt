-- The blocks so far were put.
use Rattle.std.proofs.Common.{◌≡◌, ◌++◌, map, take}
use Rattle.o2_judges_alloc.proofs.block_uses.add_refcount_blocks.Given as goal

abbrev pub invariant-loop-row : goal.invariant-loop-row
invariant-loop-row l = l.uses.items ≡ l.fn.uses.items ++ map (λ r. r.block) (take l.row-index l.rows)

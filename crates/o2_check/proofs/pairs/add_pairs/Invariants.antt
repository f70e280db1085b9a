-- The blocks so far are told.
use Rattle.std.proofs.Common.{◌≡◌, ◌++◌, map, take}
use Rattle.o2_check.proofs.pairs.add_pairs.Given as goal

abbrev pub invariant-loop-block : goal.invariant-loop-block
invariant-loop-block l = l.told.items ≡ l.fn.told.items ++ map (λ b. (l.check, b)) (take l.block-index l.blocks)

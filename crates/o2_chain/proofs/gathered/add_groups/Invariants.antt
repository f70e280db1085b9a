-- The groups so far were added.
use Rattle.std.proofs.Common.{◌≡◌, ◌++◌, map, take}
use Rattle.o2_chain.specs.Walks.{group_in}
use Rattle.o2_chain.proofs.gathered.add_groups.Given as goal

abbrev pub invariant-loop-group : goal.invariant-loop-group
invariant-loop-group l = l.groups.items ≡ l.fn.groups.items ++ map (group_in l.a) (take l.group-index l.met)

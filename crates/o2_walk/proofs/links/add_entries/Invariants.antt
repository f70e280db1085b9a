-- The entries so far were counted.
use Rattle.std.proofs.Common.{ℕ, List, ◌++◌, map, take}
use Rattle.o2_tally.specs.Gathered.{IsCount}
use Rattle.o2_walk.proofs.links.add_entries.Given as goal

abbrev pub invariant-loop-entry : goal.invariant-loop-entry
invariant-loop-entry l = (ns : List ℕ) → IsCount ns l.fn.links → IsCount (ns ++ map (λ e. e.inode) (take l.entry-index l.entries)) l.links

-- What was told, and what is told of the entries that are left.
use Rattle.std.proofs.Common.{◌≡◌, ◌++◌, drop}
use Rattle.o2_judges_tree.specs.EntryFaults.{rows_named, not_once_of, not_once_left}
use Rattle.o2_judges_tree.proofs.dots.judge_name.Given as goal

abbrev pub invariant-loop-entry : goal.invariant-loop-entry
invariant-loop-entry l =
    l.blocks.items ++ not_once_left l.is_met l.inode (rows_named l.name (drop l.entry-index l.entries))
    ≡ l.fn.blocks.items ++ not_once_of l.inode (rows_named l.name l.entries)

-- What is read so far, and what the rest gives, are what the whole gives.
use Rattle.std.proofs.Common.{length, ◌-◌, ◌≡◌, ◌≤◌, take, drop, option_map}
use Rattle.o2_model.specs.Directories.{entries_in, behind, live_from}
use Rattle.o2_dir.proofs.entries_in_block.add_while_filled.Given as goal

abbrev pub invariant-loop-at : goal.invariant-loop-at
invariant-loop-at l = record {
  read : behind l.entries.items (option_map (live_from l.block l.at) (entries_in (drop l.at l.bytes))) ≡ behind l.initial.entries.items (option_map (live_from l.block 0) (entries_in l.bytes));
  kept : take (length l.initial.entries.items) l.entries.items ≡ l.initial.entries.items;
  within : l.at ≤ length l.bytes;
}

abbrev pub decreases-loop-at : goal.decreases-loop-at
decreases-loop-at l = length l.bytes - l.at

-- The pieces so far, in front of those of any packing of the rest, are those of a packing of all.
use Rattle.std.proofs.Common.{◌≡◌, ◌-◌, ◌≤◌, List, ◌++◌, length, drop, map, Some}
use Rattle.o2_model.specs.Directories.{entries_in}
use Rattle.o2_model.specs.declared.entry.Entry.{Entry}
use Rattle.o2_dir.specs.Packings.{IsPacking, piece_bytes, piece_entries}
use Rattle.o2_dir.proofs.packing.pieces_of.Given as goal

abbrev pub invariant-loop-at : goal.invariant-loop-at
invariant-loop-at l = record {
  groups : List (List Entry);
  bytes : l.blocks.items ≡ map (piece_bytes l.room) groups;
  read : map entries_in l.blocks.items ≡ map (λ group. Some (piece_entries l.room group)) groups;
  packs : (later : List (List Entry)) → IsPacking l.room (drop l.at l.entries) later → IsPacking l.room l.entries (groups ++ later);
  within : l.at ≤ length l.entries;
}

abbrev pub decreases-loop-at : goal.decreases-loop-at
decreases-loop-at l = length l.entries - l.at

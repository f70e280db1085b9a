-- The names so far are sound.
use Rattle.std.proofs.Common.{◌≡◌, true, take}
use Rattle.o2_skeleton.proofs.EntryLists.{all_sound}
use Rattle.o2_skeleton.proofs.entry_names.are_sound_names.Given as goal

abbrev pub invariant-loop-entry : goal.invariant-loop-entry
invariant-loop-entry l = all_sound (take l.entry-index l.entries) ≡ true

-- The inodes so far are those of the first entries.
use Rattle.std.proofs.Common.{◌≡◌, not, filter, take}
use Rattle.std.specs.List.{range_with_len}
use Rattle.o2_model.specs.Directories.{is_dot}
use Rattle.o2_model.specs.Faults.{fails_at}
use Rattle.o2_model.specs.Groups.{has_inode_bit}
use Rattle.o2_model.specs.Volume.{Volume, blocks}
use Rattle.o2_model.specs.Checks.Sysfile.{is_sound_system_entry}
use Rattle.o2_survey.specs.SystemInodes.{AreSystemInodes, named_by}
use Rattle.o2_judges_system.proofs.whole.bad_entries.Given as goal

abbrev pub invariant-loop-entry : goal.invariant-loop-entry
invariant-loop-entry l = (v : Volume) → v.geo ≡ l.geo → AreSystemInodes v (named_by l.entries) l.inodes → l.blocks ≡ filter (has_inode_bit v) (range_with_len 0 (blocks v))
    → l.found.items ≡ fails_at (λ e. e.inode) (is_sound_system_entry v) (filter (λ e. not (is_dot e)) (take l.entry-index l.entries))

-- The journals so far are the dirty ones of the first.
use Rattle.std.proofs.Common.{◌≡◌, ℕ, true, List, ◌&&◌, filter, take}
use Rattle.std.specs.List.{list_all}
use Rattle.o2_model.specs.Words.{among}
use Rattle.o2_model.specs.Volume.{Volume, is_in_range}
use Rattle.o2_model.specs.Journals.{is_dirty}
use Rattle.o2_survey.specs.SystemInodes.{AreSystemInodes}
use Rattle.o2_survey.proofs.dirty.dirty_journals.Given as goal

abbrev pub invariant-loop-inode : goal.invariant-loop-inode
invariant-loop-inode l = (v : Volume) (named : List ℕ) → AreSystemInodes v named l.inodes → list_all (among named) l.journals ≡ true
    → l.found.items ≡ filter (λ b. is_in_range v b && is_dirty v b) (take l.inode-index l.journals)

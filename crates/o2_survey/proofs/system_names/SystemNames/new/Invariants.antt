-- The map, or else the entries that are left, have the inode of each name.
use Rattle.std.proofs.Common.{◌≡◌, ℕ, List, drop}
use Rattle.std.specs.Option.{option_or}
use Rattle.o2_survey.specs.SystemNames.{inode_at}
use Rattle.o2_survey.proofs.FirstNames.{first_inode}
use Rattle.o2_survey.proofs.system_names.SystemNames.new.Given as goal

abbrev pub invariant-loop-entry : goal.invariant-loop-entry
invariant-loop-entry l = (name : List ℕ) → option_or (inode_at l.inodes name) (first_inode (drop l.entry-index l.entries) name) ≡ first_inode l.entries name

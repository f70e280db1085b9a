-- The inodes so far: the system directory, and those of the first entries.
use Rattle.std.proofs.Common.{◌≡◌, ℕ, ◌∷◌, map, filter, not, take}
use Rattle.o2_model.specs.Words.{among}
use Rattle.o2_model.specs.Directories.{is_dot}
use Rattle.o2_tally.specs.Again.{has_number}
use Rattle.o2_survey.proofs.own_inode_list.own_inodes.Given as goal

abbrev pub invariant-loop-entry : goal.invariant-loop-entry
invariant-loop-entry l = (b : ℕ) → has_number l.found b ≡ among (l.geo.sysdir ∷ map (λ e. e.inode) (filter (λ e. not (is_dot e)) (take l.entry-index l.entries))) b

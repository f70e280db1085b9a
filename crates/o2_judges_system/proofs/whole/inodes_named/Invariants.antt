-- The inodes so far are those of the first entries.
use Rattle.std.proofs.Common.{◌≡◌, map, not, filter, take}
use Rattle.o2_model.specs.Directories.{is_dot}
use Rattle.o2_judges_system.proofs.whole.inodes_named.Given as goal

abbrev pub invariant-loop-entry : goal.invariant-loop-entry
invariant-loop-entry l = l.named.items ≡ map (λ e. record { number = e.inode; place = e.inode }) (filter (λ e. not (is_dot e)) (take l.entry-index l.entries))

use Rattle.std.proofs.Common.{◌≡◌, ℕ, false, nat_cmp}
use Rattle.std.specs.Ordering.{eq_by_cmp}
use Rattle.std.specs.List.{list_any}
use Rattle.o2_disk.specs.Stored.{stored}
use Rattle.o2_disk.specs.Calls.{run, start, chosen}
use Rattle.o2_disk.proofs.stopped.stopped.Given as goal

abbrev pub invariant-loop-s : goal.invariant-loop-s
invariant-loop-s l = (q : ℕ) → list_any (eq_by_cmp nat_cmp q) l.s-iterator ≡ false → stored l.maps.base q ≡ chosen l.choice q (run (start l.base) l.calls q)

use Rattle.std.proofs.Common.{◌≡◌, ℕ, ◌≤◌, false, nat_cmp}
use Rattle.std.specs.Prelude.{nat_lt, if◌then◌else◌}
use Rattle.std.specs.Ordering.{eq_by_cmp}
use Rattle.std.specs.List.{list_any}
use Rattle.o2_disk.specs.Image.{zero_sector}
use Rattle.o2_disk.specs.Stored.{stored}
use Rattle.o2_disk.proofs.stopped.first.Given as goal

abbrev pub invariant-loop-s : goal.invariant-loop-s
invariant-loop-s l = record {
  past : (q : ℕ) → list_any (eq_by_cmp nat_cmp q) l.s-iterator ≡ false → stored l.maps.base q ≡ (if nat_lt q l.limit then stored l.held q else zero_sector);
  beyond : (q : ℕ) → l.limit ≤ q → stored l.maps.base q ≡ zero_sector;
}

-- Inodes that the system directory names, as they are found out.
use Rattle.std.specs.Prelude.{ℕ, Bool, ◌&&◌, not, ◌==◌, nat_lt}
use Rattle.std.specs.BTreeSet.{BTreeSet}
use Rattle.o2_model.specs.declared.geo.Geo.{Geo}
use Rattle.o2_tally.specs.Again.{has_number}
use Rattle.o2_view.specs.Geos.{blocks_of}

-- it is in range, and one of these numbers but not the system directory
abbrev pub is_given_by : Geo → BTreeSet ℕ → ℕ → Bool
is_given_by geo own b = (nat_lt 0 b && nat_lt b (blocks_of geo)) && (not (b == geo.sysdir) && has_number own b)

-- A sparse map of sectors.
use Rattle.std.specs.Prelude.{ℕ, List, unwrap_or}
use Rattle.std.specs.Ordering.{nat_cmp}
use Rattle.std.specs.BTreeMap.{BTreeMap, get}
use Rattle.o2_disk.specs.Image.{zero_sector}

-- what a sparse map holds: zeros where it has no sector
abbrev pub stored : BTreeMap ℕ (List ℕ) → ℕ → List ℕ
stored map s = unwrap_or (get nat_cmp map s) zero_sector

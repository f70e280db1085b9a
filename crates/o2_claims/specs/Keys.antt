-- Which clusters a map of owners may have.
use Rattle.std.specs.Prelude.{◌≡◌, ℕ, ◌≤◌, false, is_some}
use Rattle.std.specs.BTreeMap.{BTreeMap, get}
use Rattle.std.specs.Ordering.{nat_cmp}
use Rattle.o2_model.specs.declared.claim.Owner.{Owner}

-- every cluster that has an owner lies below this number
abbrev pub LieBelow : ℕ → BTreeMap ℕ Owner → Type 0
LieBelow clusters first = (c : ℕ) → clusters ≤ c → is_some (get nat_cmp first c) ≡ false

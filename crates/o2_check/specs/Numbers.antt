-- Numbers that are kept as a set.
use Rattle.std.specs.Prelude.{◌≡◌, ℕ, List}
use Rattle.std.specs.BTreeSet.{BTreeSet}
use Rattle.o2_model.specs.Words.{among}
use Rattle.o2_tally.specs.Again.{has_number}

-- The set has just these numbers.
pub record AreNumbers (ns : List ℕ) (set : BTreeSet ℕ) : Type 0 where
  pub each : (n : ℕ) → has_number set n ≡ among ns n

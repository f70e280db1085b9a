-- A check of one block fails at it, or holds.
use Rattle.std.proofs.Common.{◌≡◌, ℕ, Bool, true, false, [], refl}
use Rattle.o2_model.specs.Faults.{fails_unless}

pub holds_unless : (b : ℕ) (holds : Bool) → fails_unless b holds ≡ [] → holds ≡ true
holds_unless b true none = refl
holds_unless b false none = cc

pub fails_nowhere : (b : ℕ) (holds : Bool) → holds ≡ true → fails_unless b holds ≡ []
fails_nowhere b holds is = rw is refl

-- Claims that are added behind others.
use Rattle.std.specs.Prelude.{List, ◌++◌}
use Rattle.o2_model.specs.declared.claim.Claim.{Claim}
use Rattle.o2_claims.specs.Owners.{AreOwners}
use Rattle.o2_claims.specs.declared.claims.Claims.{Claims}

-- these claims were made behind those that were made before, whichever they are
abbrev pub AddsClaims : List Claim → Claims → Claims → Type 0
AddsClaims more old new = (before : List Claim) → AreOwners before old → AreOwners (before ++ more) new

-- Where nothing fails, neither a check of the skeleton does nor another one.
use Rattle.std.proofs.Common.{◌≡◌, ℕ, List, [], ◌∷◌, refl}
use Rattle.o2_model.specs.declared.check.Check.{Check}
use Rattle.o2_model.specs.Volume.{Volume}
use Rattle.o2_model.specs.Failing.{skeleton, further, pairs, first_or_else, failing}

both_none : (xs ys : List (Check × ℕ)) → first_or_else xs ys ≡ [] → (xs ≡ []) × (ys ≡ [])
both_none [] ys h = (refl, h)
both_none (x ∷ xs) ys h = cc

-- neither of the skeleton nor of the others
pub none_of_both : (v : Volume) → failing v ≡ [] → (pairs v skeleton ≡ []) × (pairs v further ≡ [])
unfolding failing
none_of_both v h = both_none (pairs v skeleton) (pairs v further) h

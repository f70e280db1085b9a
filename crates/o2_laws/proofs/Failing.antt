-- Where nothing fails, each check's list is empty; and a check whose items keep their condition keeps its list.
use Rattle.std.proofs.Common.{◌≡◌, inl, inr, ℕ, ◌^◌, Bool, true, List, [], ◌∷◌, map, length, refl}
use Rattle.std.specs.List.{AllByRecursion}
use Rattle.std.proofs.lemmas.Bool.{cases_Bool}
use Rattle.o2_laws.proofs.Found.{append_nothing, map_none}
use Rattle.o2_laws.proofs.Rising.{none_rising}
use Rattle.o2_disk.specs.Image.{Image, block_at}
use Rattle.o2_model.specs.Faults.{fails_at, those_not}
use Rattle.o2_model.specs.Orders.{rising}
use Rattle.o2_model.specs.Volume.{Volume, over, volume_of}
use Rattle.o2_model.specs.declared.check.Check.{Check}
use Rattle.o2_model.specs.Failing.{faults, pairs, Holds}

-- ---- nothing fails

-- where no pair fails, each check's list is empty
pub each_none : (v : Volume) (checks : List Check) → pairs v checks ≡ [] → AllByRecursion (λ check. faults v check ≡ []) checks
each_none v [] h = tt
each_none v (check ∷ checks) h =
    let parts = append_nothing (map (λ b. (check, b)) (rising (faults v check))) (pairs v checks) h in
    (none_rising (faults v check) (map_none _ (rising (faults v check)) parts.0), each_none v checks parts.1)

-- and the check holds at each block
pub holds_everywhere : (v : Volume) (check : Check) → faults v check ≡ [] → (b : ℕ) → Holds v check b
holds_everywhere v check none b = rw none refl

-- ---- the items of a check

-- where no place fails, each item has what is asked
pub none_fails : {A : Type 0} (place : A → ℕ) (holds : A → Bool) (items : List A) → fails_at place holds items ≡ [] → AllByRecursion (λ x. holds x ≡ true) items
none_fails place holds [] h = tt
none_fails place holds (x ∷ xs) h = elim (cases_Bool (holds x)) [
  | inl good ↦ (good, none_fails place holds xs (rw good at h))
  | inr bad ↦ let e : map place (x ∷ those_not holds xs) ≡ [] = rw bad at h in cc
]

pub all_hold : {A : Type 0} (place : A → ℕ) (holds : A → Bool) (items : List A) → AllByRecursion (λ x. holds x ≡ true) items → fails_at place holds items ≡ []
all_hold place holds [] h = refl
all_hold place holds (x ∷ xs) h = rw h.0 (all_hold place holds xs h.1)

-- ---- from volumes to images

-- an image of the same length with the same block 2 is the same volume over other blocks
pub volume_of-over : (I X : Image) (bits : ℕ) → length X ≡ length I → block_at (2 ^ bits) X 2 ≡ block_at (2 ^ bits) I 2 → volume_of X bits ≡ over (volume_of I bits) (block_at (2 ^ bits) X)
volume_of-over I X bits size super = rw (size, super) refl

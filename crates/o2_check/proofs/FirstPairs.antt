-- What fails where the skeleton does not hold, and where it does.
use Rattle.std.proofs.Common.{◌≡◌, ◌⊎◌, inl, inr, ℕ, ◌≤◌, Bool, true, false, ◌||◌, ◌==◌, nat_lt, List, [], ◌∷◌, ◌++◌, map, refl, sym, ◌∙◌, ap, subst, arith, All}
use Rattle.std.specs.Prelude.{flat_map}
use Rattle.std.specs.List.{list_any}
use Rattle.std.proofs.lemmas.Bool.{cases_Bool, eqb-true, false≢true}
use Rattle.std.proofs.lemmas.Bool.Decides.{nat_tests}
use Rattle.std.proofs.lemmas.List.Elements.{All-weaker}
use Rattle.std.proofs.lemmas.List.Folds.{list_any_none}
use Rattle.o2_model.specs.declared.check.Check.{Check}
use Rattle.o2_model.specs.declared.check.Check.TheVariants as check
use Rattle.o2_model.specs.Orders.{rising, with_number}
use Rattle.o2_model.specs.Volume.{Volume}
use Rattle.o2_model.specs.Failing.{faults, pairs, skeleton, further, first_or_else, failing}
use Rattle.o2_tally.proofs.Sames.{any_rising}
use Rattle.o2_view.specs.OwnChecks.{OwnCheck, NoneFails, FailsFirst}
use Rattle.o2_skeleton.specs.Skeleton.{HasSkeleton, skeleton_checks}

-- ---- the least of some numbers
-- a number below none of them comes first
comes_first : (b : ℕ) (ms : List ℕ) → list_any (λ m. nat_lt m b) ms ≡ false → (rest : List ℕ) × (with_number b ms ≡ b ∷ rest)
comes_first b [] none = ([], refl)
comes_first b (m ∷ ms) none = elim (cases_Bool (nat_lt b m)) [
  | inl below ↦ (m ∷ ms, rw below refl)
  | inr not_below ↦ elim (cases_Bool (b == m)) [
    | inl same ↦ (ms, rw (not_below, same) (ap (λ n. n ∷ ms) (sym (eqb-true b m same))))
    | inr other ↦ absurd (false≢true (sym none ∙ ap (λ t. t || list_any (λ n. nat_lt n b) ms) (above b m not_below other)))
  ]
]
  where
    above : (b m : ℕ) → nat_lt b m ≡ false → (b == m) ≡ false → nat_lt m b ≡ true
    above b m p q = grind (arith, nat_tests)

-- the one of them that none is below is the first in order
least_first : (b : ℕ) (ns : List ℕ) → list_any (λ m. b == m) ns ≡ true → list_any (λ m. nat_lt m b) ns ≡ false → (rest : List ℕ) × (rising ns ≡ b ∷ rest)
least_first b [] is none = absurd (false≢true is)
least_first b (n ∷ ns) is none = elim (cases_Bool (nat_lt n b)) [
  | inl below ↦ absurd (false≢true (sym none ∙ ap (λ t. t || list_any (λ m. nat_lt m b) ns) below))
  | inr not_below ↦
      let later : list_any (λ m. nat_lt m b) ns ≡ false = rw not_below at none in
      elim (cases_Bool (b == n)) [
        | inl same ↦ subst (λ k. (rest : List ℕ) × (with_number k (rising ns) ≡ b ∷ rest)) (eqb-true b n same) (comes_first b (rising ns) (any_rising (λ m. nat_lt m b) ns ∙ later))
        | inr other ↦
            let rest = least_first b ns (rw other at is) later in
            (with_number n rest.0, ap (with_number n) rest.1 ∙ rw (not_below, turned n b other) refl)
      ]
]
  where
    turned : (n b : ℕ) → (b == n) ≡ false → (n == b) ≡ false
    turned n b p = grind (arith, nat_tests)

none_below : (b : ℕ) (ns : List ℕ) → All (λ m. b ≤ m) ns → list_any (λ m. nat_lt m b) ns ≡ false
none_below b ns all = list_any_none (λ m. nat_lt m b) ns (All-weaker (λ m. b ≤ m) (λ m. nat_lt m b ≡ false) above ns all)
  where
    above : (m : ℕ) → b ≤ m → nat_lt m b ≡ false
    above m high = grind (arith, nat_tests, high)

-- ---- pairs of checks with their own lists
abbrev own_pairs : Volume → List OwnCheck → List (Check × ℕ)
own_pairs v cs = flat_map (λ o. map (λ b. (o.check, b)) (rising (o.faults v))) cs

first_own : (v : Volume) (cs : List OwnCheck) (c : Check) (b : ℕ) → FailsFirst cs v c b → (rest : List (Check × ℕ)) × (own_pairs v cs ≡ (c, b) ∷ rest)
first_own v [] c b fails = absurd fails
first_own v (o ∷ os) c b fails = elim fails [
  | inl here ↦
      let rest = least_first b (o.faults v) here.1.is_among (none_below b (o.faults v) here.1.each) in (
        map (λ n. (o.check, n)) rest.0 ++ own_pairs v os,
        ap (λ ns. map (λ n. (o.check, n)) ns ++ own_pairs v os) rest.1 ∙ ap (λ k. (k, b) ∷ (map (λ n. (o.check, n)) rest.0 ++ own_pairs v os)) (sym here.0),
      )
  | inr later ↦
      let rest = first_own v os c b later.1 in
      (rest.0, ap (λ ns. map (λ n. (o.check, n)) (rising ns) ++ own_pairs v os) later.0 ∙ rest.1)
]

none_own : (v : Volume) (cs : List OwnCheck) → NoneFails cs v → own_pairs v cs ≡ []
none_own v [] none = refl
none_own v (o ∷ os) none = ap (λ ns. map (λ n. (o.check, n)) (rising ns) ++ own_pairs v os) none.0 ∙ none_own v os none.1

skeleton_pairs : (v : Volume) → pairs v skeleton ≡ own_pairs v skeleton_checks
unfolding faults
skeleton_pairs v = refl

-- ---- what fails
pub first_fails : (v : Volume) (c : Check) (b : ℕ) → FailsFirst skeleton_checks v c b → (c, b) ∷ [] ≡ failing v
unfolding failing
first_fails v c b fails = ap (λ ps. first_or_else ps (pairs v further)) (sym (skeleton_pairs v ∙ (first_own v skeleton_checks c b fails).1))

pub further_fail : (v : Volume) → HasSkeleton v → pairs v further ≡ failing v
unfolding failing
further_fail v holds = ap (λ ps. first_or_else ps (pairs v further)) (sym (skeleton_pairs v ∙ none_own v skeleton_checks holds))

pub not_both : (v : Volume) (c : Check) (b : ℕ) → FailsFirst skeleton_checks v c b → HasSkeleton v → ⊥
not_both v c b fails holds = let both = sym (none_own v skeleton_checks holds) ∙ (first_own v skeleton_checks c b fails).1 in cc

-- ---- where nothing fails
some_with : (n : ℕ) (ms : List ℕ) → with_number n ms ≡ [] → ⊥
some_with n [] none = cc none
some_with n (m ∷ ms) none = elim (cases_Bool (nat_lt n m)) [
  | inl below ↦ let e = rw below at none in cc e
  | inr not_below ↦ elim (cases_Bool (n == m)) [
    | inl same ↦ let e = rw (not_below, same) at none in cc e
    | inr other ↦ let e = rw (not_below, other) at none in cc e
  ]
]

none_rising : (ns : List ℕ) → rising ns ≡ [] → ns ≡ []
none_rising [] none = refl
none_rising (n ∷ ns) none = absurd (some_with n (rising ns) none)

none_mapped : {X Y : Type 0} (f : X → Y) (xs : List X) (ys : List Y) → map f xs ++ ys ≡ [] → (xs ≡ []) × (ys ≡ [])
none_mapped f [] ys none = (refl, none)
none_mapped f (x ∷ xs) ys none = absurd (let no : ⊥ = cc none in no)

own_hold : (v : Volume) (cs : List OwnCheck) → own_pairs v cs ≡ [] → NoneFails cs v
own_hold v [] none = tt
own_hold v (o ∷ os) none = let both = none_mapped (λ b. (o.check, b)) (rising (o.faults v)) (own_pairs v os) none in (none_rising (o.faults v) both.0, own_hold v os both.1)

none_first : (ps os : List (Check × ℕ)) → first_or_else ps os ≡ [] → ps ≡ []
none_first [] os none = refl
none_first (p ∷ ps) os none = absurd (let no : ⊥ = cc none in no)

-- the skeleton holds
pub skeleton_of_none : (v : Volume) → failing v ≡ [] → HasSkeleton v
unfolding failing
skeleton_of_none v none = own_hold v skeleton_checks (sym (skeleton_pairs v) ∙ none_first (pairs v skeleton) (pairs v further) none)

-- ---- a check of the skeleton
none_at : (v : Volume) (k c : Check) → k ≡ c → faults v c ≡ [] → rising [] ≡ rising (faults v k)
none_at v k c same none = ap rising (sym none) ∙ ap (λ d. rising (faults v d)) (sym same)

abbrev pub IsOfSkeleton : Check → Type 0
IsOfSkeleton k =
    (k ≡ check.Super) ⊎ ((k ≡ check.Sysdir) ⊎ ((k ≡ check.Sysfile) ⊎ ((k ≡ check.Root) ⊎ ((k ≡ check.ChainHeader) ⊎ ((k ≡ check.Journal) ⊎ (k ≡ check.SlotMap))))))

pub skeleton_none : (v : Volume) (k : Check) → IsOfSkeleton k → HasSkeleton v → rising [] ≡ rising (faults v k)
unfolding faults
skeleton_none v k (inl same) holds = none_at v k check.Super same holds.0
skeleton_none v k (inr (inl same)) holds = none_at v k check.Sysdir same holds.1.0
skeleton_none v k (inr (inr (inl same))) holds = none_at v k check.Sysfile same holds.1.1.0
skeleton_none v k (inr (inr (inr (inl same)))) holds = none_at v k check.Root same holds.1.1.1.0
skeleton_none v k (inr (inr (inr (inr (inl same))))) holds = none_at v k check.ChainHeader same holds.1.1.1.1.0
skeleton_none v k (inr (inr (inr (inr (inr (inl same)))))) holds = none_at v k check.Journal same holds.1.1.1.1.1.0
skeleton_none v k (inr (inr (inr (inr (inr (inr same)))))) holds = none_at v k check.SlotMap same holds.1.1.1.1.1.1.0

-- A list that strictly rises and has the same numbers is the list in order.
use Rattle.std.proofs.Common.{◌≡◌, inl, inr, eqb, ℕ, Bool, true, false, cond, ◌||◌, ◌&&◌, ◌==◌, nat_lt, List, [], ◌∷◌, map, refl, sym, ◌∙◌, ap, subst, Some, None}
use Rattle.std.specs.List.{list_any, AllByRecursion, dedup, dedup_from}
use Rattle.std.specs.List.Sorted.{IsStrictlySortedBy, IsSorted, IsPermutation}
use Rattle.std.proofs.lemmas.List.Sorted.{list_any-IsPermutation}
use Rattle.std.proofs.lemmas.Map.Keys.{sorted_from_strictly_increasing, IsStrictlyIncreasing-dedup}
use Rattle.std.specs.FinMap as finite
use Rattle.std.specs.FinMap.Entries.{below_all, by_order, put}
use Rattle.std.specs.declared.cmp.Ordering.TheVariants.{Less, Equal, Greater}
use Rattle.std.specs.Ordering.{nat_cmp, eq_by_cmp, is_lt}
use Rattle.std.specs.Cmp.{nat_cmp_total}
use lib.Dec.{T}
use Rattle.std.proofs.lemmas.Bool.{cases_Bool, eqb-true}
use Rattle.o2_model.specs.Orders.{with_number, rising}
use Rattle.o2_laws.proofs.Found.{none_of_length, either}

abbrev pub marks : List ℕ → List (ℕ × Unit {0})
marks ns = map (λ n. (n, tt {0})) ns

-- ---- as the keys of a finite map

-- three cases by two tests
by_tests : {A : Type 0} (f : A → List ℕ) (below same : Bool) (x y z : A) → f (by_order (cond below Less (cond same Equal Greater)) x y z) ≡ cond below (f x) (cond same (f y) (f z))
by_tests f true same x y z = refl
by_tests f false true x y z = refl
by_tests f false false x y z = refl

keys-put : (n : ℕ) (es : List (ℕ × Unit {0})) → map (λ e. e.0) (put nat_cmp n (tt {0}) es) ≡ with_number n (map (λ e. e.0) es)
keys-put n [] = refl
keys-put n (e ∷ es) =
    by_tests (map (λ (x : ℕ × Unit {0}). x.0)) (nat_lt n e.0) (n == e.0) ((n, tt {0}) ∷ e ∷ es) ((e.0, tt {0}) ∷ es) (e ∷ put nat_cmp n (tt {0}) es)
    ∙ ap (λ ms. cond (nat_lt n e.0) (n ∷ e.0 ∷ map (λ (x : ℕ × Unit {0}). x.0) es) (cond (n == e.0) (e.0 ∷ map (λ (x : ℕ × Unit {0}). x.0) es) (e.0 ∷ ms))) (keys-put n es)

-- numbers in order are the keys of a finite map
rising-keys : (ns : List ℕ) → rising ns ≡ finite.keys (finite.from_entries {R = nat_cmp} (marks ns))
rising-keys [] = ap (map (λ (e : ℕ × Unit {0}). e.0)) (sym (none_of_length _ (sym (finite.len-entries finite.empty) ∙ finite.len-empty nat_cmp (Unit {0}))))
rising-keys (n ∷ ns) =
    let m = finite.from_entries {R = nat_cmp} (marks ns) in
    ap (with_number n) (rising-keys ns)
    ∙ (sym (keys-put n (finite.entries m)) ∙ ap (map (λ (e : ℕ × Unit {0}). e.0)) (sym (finite.entries-insert nat_cmp_total m n (tt {0}))))

-- ---- what they are

keys-marks : (ns : List ℕ) → map (λ e. e.0) (marks ns) ≡ ns
keys-marks [] = refl
keys-marks (n ∷ ns) = ap (λ x. n ∷ x) (keys-marks ns)

find-marks : (ns : List ℕ) (q : ℕ) → finite.find nat_cmp q (marks ns) ≡ cond (list_any (eq_by_cmp nat_cmp q) ns) (Some (tt {0})) None
find-marks [] q = refl
find-marks (n ∷ ns) q = either (eq_by_cmp nat_cmp q n) (list_any (eq_by_cmp nat_cmp q) ns) (tt {0}) _ (find-marks ns q)

below : (n : ℕ) (ns : List ℕ) → AllByRecursion (λ m. nat_cmp n m ≡ Less) ns → T (below_all nat_cmp n (marks ns))
below n [] h = tt
below n (m ∷ ns) h = subst (λ o. T (is_lt o && below_all nat_cmp n (marks ns))) (sym h.0) (below n ns h.1)

both : (a b : Bool) → T a → T b → T (a && b)
both true b x y = y
both false b x y = absurd x

is_sorted-marks : (ns : List ℕ) → IsStrictlySortedBy nat_cmp ns → T (finite.is_sorted nat_cmp (marks ns))
unfolding IsStrictlySortedBy
is_sorted-marks [] h = tt
is_sorted-marks (n ∷ ns) h = both _ _ (below n ns h.0) (is_sorted-marks ns h.1)

-- A list that strictly rises and has the same numbers.
pub rising_is : (ns ms : List ℕ) → IsStrictlySortedBy nat_cmp ms → ((q : ℕ) → list_any (eq_by_cmp nat_cmp q) ms ≡ list_any (eq_by_cmp nat_cmp q) ns) → rising ns ≡ ms
rising_is ns ms sorted same =
    let h = is_sorted-marks ms sorted in
    let one : finite.from_entries {R = nat_cmp} (marks ns) ≡ finite.from_sorted {R = nat_cmp} (marks ms)
    = finite.same_map nat_cmp_total finite.nat_cmp-IsAntisymmetric _ _ (λ q.
    finite.get-from_entries nat_cmp_total (marks ns) q ∙ (find-marks ns q ∙ (ap (λ b. cond b (Some (tt {0})) None) (sym (same q)) ∙ (sym (find-marks ms q) ∙ sym (finite.get-from_sorted nat_cmp (marks ms) q h))))) in
    rising-keys ns ∙ (ap finite.keys one ∙ (ap (map (λ (e : ℕ × Unit {0}). e.0)) (finite.entries-from_sorted nat_cmp (marks ms) h) ∙ keys-marks ms))

some_number : (n : ℕ) (ms : List ℕ) → with_number n ms ≡ [] → ⊥
some_number n [] h = cc
some_number n (m ∷ ms) h = elim (cases_Bool (nat_lt n m)) [
  | inl first ↦ let e = rw first at h in cc
  | inr later ↦ elim (cases_Bool (n == m)) [
    | inl again ↦ let e = rw (later, again) at h in cc
    | inr new ↦ let e = rw (later, new) at h in cc
  ]
]

-- None rises where there is none.
pub none_rising : (ns : List ℕ) → rising ns ≡ [] → ns ≡ []
none_rising [] h = refl
none_rising (n ∷ ns) h = absurd (some_number n (rising ns) h)

-- What holds of all of them holds of all of them in order.
all_with : (P : ℕ → Type 0) (n : ℕ) (ms : List ℕ) → P n → AllByRecursion P ms → AllByRecursion P (with_number n ms)
all_with P n [] is all = (is, tt)
all_with P n (m ∷ ms) is all = elim (cases_Bool (nat_lt n m)) [
  | inl first ↦ rw first (is, all)
  | inr later ↦ elim (cases_Bool (n == m)) [
    | inl again ↦ rw (later, again) all
    | inr new ↦ rw (later, new) (all.0, all_with P n ms is all.1)
  ]
]

pub all_rising : (P : ℕ → Type 0) (ns : List ℕ) → AllByRecursion P ns → AllByRecursion P (rising ns)
all_rising P [] all = tt
all_rising P (n ∷ ns) all = all_with P n (rising ns) all.0 (all_rising P ns all.1)

-- ---- by a sort and a `dedup`
-- ---- what is among them

or_twice : (a b : Bool) → (a || b) ≡ (a || (a || b))
or_twice true b = refl
or_twice false b = refl

or_turned : (a b c : Bool) → (a || (b || c)) ≡ (b || (a || c))
or_turned true true c = refl
or_turned true false c = refl
or_turned false b c = refl

any_with_number : (p : ℕ → Bool) (n : ℕ) (ms : List ℕ) → list_any p (with_number n ms) ≡ (p n || list_any p ms)
any_with_number p n [] = refl
any_with_number p n (m ∷ ms) = elim (cases_Bool (nat_lt n m)) [
  | inl first ↦ rw first refl
  | inr later ↦ elim (cases_Bool (n == m)) [
    | inl same ↦ rw (later, same, eqb-true n m same) (or_twice (p m) (list_any p ms))
    | inr other ↦ rw (later, other, any_with_number p n ms) (or_turned (p m) (p n) (list_any p ms))
  ]
]

-- a test finds one in order where it found one
pub any_rising : (p : ℕ → Bool) (ns : List ℕ) → list_any p (rising ns) ≡ list_any p ns
any_rising p [] = refl
any_rising p (n ∷ ns) = any_with_number p n (rising ns) ∙ ap (λ b. p n || b) (any_rising p ns)

-- ---- by a sort and a `dedup`

any_dedup_from : (p : ℕ → Bool) (k : ℕ) (xs : List ℕ) → list_any p (dedup_from eqb k xs) ≡ (p k || list_any p xs)
any_dedup_from p k [] = refl
any_dedup_from p k (x ∷ xs) = elim (cases_Bool (eqb x k)) [
  | inl same ↦ rw (same, any_dedup_from p k xs, eqb-true x k same) (or_twice (p k) (list_any p xs))
  | inr other ↦ rw (other, any_dedup_from p x xs) refl
]

any_dedup : (p : ℕ → Bool) (xs : List ℕ) → list_any p (dedup eqb xs) ≡ list_any p xs
any_dedup p [] = refl
any_dedup p (x ∷ xs) = any_dedup_from p x xs

pub rising_sorted : (ns ms : List ℕ) → IsPermutation ns ms → IsSorted nat_cmp ms → rising ns ≡ dedup eqb ms
rising_sorted ns ms moved sorted =
    rising_is ns (dedup eqb ms) (sorted_from_strictly_increasing _ (IsStrictlyIncreasing-dedup ms sorted))
    (λ q. any_dedup (eq_by_cmp nat_cmp q) ms ∙ sym (list_any-IsPermutation (eq_by_cmp nat_cmp q) ns ms moved))

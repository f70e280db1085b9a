-- Numbers in order are told by what is among them.
use Rattle.std.proofs.Common.{◌≡◌, inl, inr, eqb, ℕ, Bool, true, false, ◌||◌, ◌&&◌, not, ◌==◌, nat_lt, List, [], ◌∷◌, map, refl, sym, ◌∙◌, ap, subst, arith}
use Rattle.std.specs.List.{list_any, AllByRecursion, dedup, dedup_from}
use Rattle.std.specs.List.Sorted.{IsStrictlySortedBy, IsSorted, IsPermutation}
use Rattle.std.specs.declared.cmp.Ordering.TheVariants.{Less}
use Rattle.std.specs.Ordering.{nat_cmp}
use Rattle.std.proofs.lemmas.Bool.{cases_Bool, eqb-true, eq-eqb, false≢true}
use Rattle.std.proofs.lemmas.Bool.Decides.{nat_tests}
use Rattle.std.proofs.lemmas.List.Sorted.{list_any-IsPermutation}
use Rattle.std.proofs.lemmas.Map.Keys.{sorted_from_strictly_increasing, IsStrictlyIncreasing-dedup}
use Rattle.o2_model.specs.Orders.{with_number, rising}

-- ---- the order of numbers
is_less : (a b : ℕ) → nat_lt a b ≡ true → nat_cmp a b ≡ Less
is_less a b h = rw h refl

less_is : (a b : ℕ) → nat_cmp a b ≡ Less → nat_lt a b ≡ true
less_is a b h = elim (cases_Bool (nat_lt a b)) [
  | inl below ↦ below
  | inr not_below ↦ elim (cases_Bool (a == b)) [
    | inl same ↦ let e = rw (not_below, same) at h in cc
    | inr other ↦ let e = rw (not_below, other) at h in cc
  ]
]

behind : (n m : ℕ) → nat_lt n m ≡ false → (n == m) ≡ false → nat_lt m n ≡ true
behind n m p q = grind (arith, nat_tests)

neither_below : (n m : ℕ) → nat_lt n m ≡ false → nat_lt m n ≡ false → n ≡ m
neither_below n m p q = grind (arith, nat_tests)

above_differs : (n m : ℕ) → nat_lt n m ≡ true → (m == n) ≡ false
above_differs n m p = grind (arith, nat_tests)

-- a number below the first is below all of them
below_all : (n m : ℕ) (ms : List ℕ) → nat_lt n m ≡ true → AllByRecursion (λ y. nat_cmp m y ≡ Less) ms → AllByRecursion (λ y. nat_cmp n y ≡ Less) ms
below_all n m [] h all = tt
below_all n m (y ∷ ys) h all = (is_less n y (both n m y h (less_is m y all.0)), below_all n m ys h all.1)
  where
    both : (a b c : ℕ) → nat_lt a b ≡ true → nat_lt b c ≡ true → nat_lt a c ≡ true
    both a b c p q = grind (arith, nat_tests)

-- ---- numbers in order rise
all_with : (P : ℕ → Type 0) (n : ℕ) (ms : List ℕ) → P n → AllByRecursion P ms → AllByRecursion P (with_number n ms)
all_with P n [] is all = (is, tt)
all_with P n (m ∷ ms) is all = elim (cases_Bool (nat_lt n m)) [
  | inl first ↦ rw first (is, all)
  | inr later ↦ elim (cases_Bool (n == m)) [
    | inl again ↦ rw (later, again) all
    | inr new ↦ rw (later, new) (all.0, all_with P n ms is all.1)
  ]
]

sorted_with : (n : ℕ) (ms : List ℕ) → IsStrictlySortedBy nat_cmp ms → IsStrictlySortedBy nat_cmp (with_number n ms)
unfolding IsStrictlySortedBy
sorted_with n [] h = (tt, tt)
sorted_with n (m ∷ ms) h = elim (cases_Bool (nat_lt n m)) [
  | inl first ↦ rw first ((is_less n m first, below_all n m ms first h.0), h)
  | inr later ↦ elim (cases_Bool (n == m)) [
    | inl again ↦ rw (later, again) h
    | inr new ↦ rw (later, new) (all_with (λ y. nat_cmp m y ≡ Less) n ms (is_less m n (behind n m later new)) h.0, sorted_with n ms h.1)
  ]
]

pub rising_rises : (ns : List ℕ) → IsStrictlySortedBy nat_cmp (rising ns)
unfolding IsStrictlySortedBy
rising_rises [] = tt
rising_rises (n ∷ ns) = sorted_with n (rising ns) (rising_rises ns)

-- ---- what is among them
or_twice : (a b : Bool) → (a || b) ≡ (a || (a || b))
or_twice true b = refl
or_twice false b = refl

pub or_turned : (a b c : Bool) → (a || (b || c)) ≡ (b || (a || c))
or_turned true true c = refl
or_turned true false c = refl
or_turned false b c = refl

any_with_number : (p : ℕ → Bool) (n : ℕ) (ms : List ℕ) → list_any p (with_number n ms) ≡ (p n || list_any p ms)
any_with_number p n [] = refl
any_with_number p n (m ∷ ms) = elim (cases_Bool (nat_lt n m)) [
  | inl first ↦ rw first refl
  | inr later ↦ elim (cases_Bool (n == m)) [
    | inl same ↦ rw (later, same, eqb-true n m same) (or_twice (p m) (list_any p ms))
    | inr other ↦ rw (later, other, any_with_number p n ms) (or_turned (p m) (p n) (list_any p ms))
  ]
]

-- A test finds one in order where it found one.
pub any_rising : (p : ℕ → Bool) (ns : List ℕ) → list_any p (rising ns) ≡ list_any p ns
any_rising p [] = refl
any_rising p (n ∷ ns) = any_with_number p n (rising ns) ∙ ap (λ b. p n || b) (any_rising p ns)

-- A test finds one of the mapped items where it finds one mapped.
pub any_map : {A : Type 0} (f : A → ℕ) (p : ℕ → Bool) (xs : List A) → list_any p (map f xs) ≡ list_any (λ x. p (f x)) xs
any_map f p [] = refl
any_map f p (x ∷ xs) = ap (λ b. p (f x) || b) (any_map f p xs)

-- ---- two lists that rise
-- a number below all is not among them
not_above : (n : ℕ) (ms : List ℕ) → AllByRecursion (λ y. nat_cmp n y ≡ Less) ms → list_any (λ y. y == n) ms ≡ false
not_above n [] all = refl
not_above n (y ∷ ys) all = rw (above_differs n y (less_is n y all.0)) (not_above n ys all.1)

-- and a test finds the same without it
without : (p : ℕ → Bool) (n : ℕ) (ms : List ℕ) → AllByRecursion (λ y. nat_cmp n y ≡ Less) ms → list_any (λ y. not (y == n) && p y) ms ≡ list_any p ms
without p n [] all = refl
without p n (y ∷ ys) all = rw (above_differs n y (less_is n y all.0)) (ap (λ b. p y || b) (without p n ys all.1))

-- of the same numbers none comes before the least
none_before : (n m : ℕ) (ns ms : List ℕ) → AllByRecursion (λ y. nat_cmp m y ≡ Less) ms → ((p : ℕ → Bool) → list_any p (n ∷ ns) ≡ list_any p (m ∷ ms)) → nat_lt n m ≡ false
none_before n m ns ms all same = elim (cases_Bool (nat_lt n m)) [
  | inl below ↦ absurd (false≢true (sym (not_above n (m ∷ ms) (is_less n m below, below_all n m ms below all)) ∙ (sym (same (λ y. y == n)) ∙ ap (λ b. b || list_any (λ y. y == n) ns) (eq-eqb n n refl))))
  | inr not_below ↦ not_below
]

-- those behind the first are the same too
same_behind : (n : ℕ) (ns ms : List ℕ) → AllByRecursion (λ y. nat_cmp n y ≡ Less) ns → AllByRecursion (λ y. nat_cmp n y ≡ Less) ms
    → ((p : ℕ → Bool) → list_any p (n ∷ ns) ≡ list_any p (n ∷ ms)) → (p : ℕ → Bool) → list_any p ns ≡ list_any p ms
same_behind n ns ms first second same p =
    sym (without p n ns first) ∙ (sym (less_one ns) ∙ (same (λ y. not (y == n) && p y) ∙ (less_one ms ∙ without p n ms second)))
  where
    less_one : (xs : List ℕ) → list_any (λ y. not (y == n) && p y) (n ∷ xs) ≡ list_any (λ y. not (y == n) && p y) xs
    less_one xs = rw (eq-eqb n n refl) refl

-- Two lists that rise and have the same numbers are the same.
pub sorted_same : (ns ms : List ℕ) → IsStrictlySortedBy nat_cmp ns → IsStrictlySortedBy nat_cmp ms → ((p : ℕ → Bool) → list_any p ns ≡ list_any p ms) → ns ≡ ms
unfolding IsStrictlySortedBy
sorted_same [] [] first second same = refl
sorted_same [] (m ∷ ms) first second same = absurd (false≢true (same (λ y. true)))
sorted_same (n ∷ ns) [] first second same = absurd (false≢true (sym (same (λ y. true))))
sorted_same (n ∷ ns) (m ∷ ms) first second same =
    let one : n ≡ m = neither_below n m (none_before n m ns ms second.0 same) (none_before m n ms ns first.0 (λ p. sym (same p))) in
    let behind_first = subst (λ k. AllByRecursion (λ y. nat_cmp k y ≡ Less) ms) (sym one) second.0 in
    let alike = λ (p : ℕ → Bool). same p ∙ ap (λ k. p k || list_any p ms) (sym one) in
    ap (λ k. k ∷ ns) one ∙ ap (λ ks. m ∷ ks) (sorted_same ns ms first.1 second.1 (same_behind n ns ms first.0 behind_first alike))

-- Two lists of the same numbers are the same in order.
pub rising_same : (ns ms : List ℕ) → ((p : ℕ → Bool) → list_any p ns ≡ list_any p ms) → rising ns ≡ rising ms
rising_same ns ms same = sorted_same (rising ns) (rising ms) (rising_rises ns) (rising_rises ms) (λ p. any_rising p ns ∙ (same p ∙ sym (any_rising p ms)))

-- ---- by a sort and a removal of repetitions
any_dedup_from : (p : ℕ → Bool) (k : ℕ) (xs : List ℕ) → list_any p (dedup_from eqb k xs) ≡ (p k || list_any p xs)
any_dedup_from p k [] = refl
any_dedup_from p k (x ∷ xs) = elim (cases_Bool (eqb x k)) [
  | inl same ↦ rw (same, any_dedup_from p k xs, eqb-true x k same) (or_twice (p k) (list_any p xs))
  | inr other ↦ rw (other, any_dedup_from p x xs) refl
]

any_dedup : (p : ℕ → Bool) (xs : List ℕ) → list_any p (dedup eqb xs) ≡ list_any p xs
any_dedup p [] = refl
any_dedup p (x ∷ xs) = any_dedup_from p x xs

pub rising_sorted : (ns ms : List ℕ) → IsPermutation ns ms → IsSorted nat_cmp ms → rising ns ≡ dedup eqb ms
rising_sorted ns ms moved sorted =
    sorted_same (rising ns) (dedup eqb ms) (rising_rises ns) (sorted_from_strictly_increasing _ (IsStrictlyIncreasing-dedup ms sorted))
    (λ p. any_rising p ns ∙ (list_any-IsPermutation p ns ms moved ∙ sym (any_dedup p ms)))

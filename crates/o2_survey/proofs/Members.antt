-- Lists that rise, told by what is among them.
use Rattle.std.proofs.Common.{◌≡◌, inl, inr, ℕ, zero, suc, ◌+◌, ◌<◌, ◌≤◌, Bool, true, false, ◌||◌, ◌&&◌, ◌==◌, nat_lt, List, [], ◌∷◌, filter, refl, sym, ◌∙◌, ap, arith}
use Rattle.std.specs.Prelude.{flat_map}
use Rattle.std.specs.List.{range_with_len, list_any, AllByRecursion}
use Rattle.std.specs.List.Sorted.{IsStrictlySortedBy}
use Rattle.std.specs.Ordering.{nat_cmp}
use Rattle.std.specs.declared.cmp.Ordering.TheVariants.{Less}
use Rattle.std.proofs.lemmas.Bool.{cases_Bool, cases_eq, eqb-true, eq-eqb}
use Rattle.std.proofs.lemmas.Bool.Decides.{nat_tests}
use Rattle.std.proofs.lemmas.List.Concat.{flat_map-cons}
use Rattle.std.proofs.lemmas.List.Folds.{list_any-append}
use Rattle.std.proofs.lemmas.List.Kept.{IsStrictlySortedBy-filter}
use Rattle.o2_model.specs.Words.{among}
use Rattle.o2_model.specs.Orders.{rising}
use Rattle.o2_tally.proofs.Sames.{rising_rises, any_rising, sorted_same}

-- ---- tests over some items
pub or_true : (a b : Bool) → b ≡ true → (a || b) ≡ true
or_true true b h = refl
or_true false b h = h

pub any_filter : {A : Type 0} (p q : A → Bool) (xs : List A) → list_any q (filter p xs) ≡ list_any (λ x. q x && p x) xs
any_filter p q [] = refl
any_filter p q (x ∷ xs) = elim (cases_Bool (p x)) [
  | inl holds ↦ rw holds (kept (q x) (any_filter p q xs))
  | inr fails ↦ rw fails (left_out (q x) (any_filter p q xs))
]
  where
    kept : (b : Bool) {c d : Bool} → c ≡ d → (b || c) ≡ ((b && true) || d)
    kept true e = refl
    kept false e = e

    left_out : (b : Bool) {c d : Bool} → c ≡ d → c ≡ ((b && false) || d)
    left_out true e = e
    left_out false e = e

pub any_flat_map : {A : Type 0} (f : A → List ℕ) (q : ℕ → Bool) (xs : List A) → list_any q (flat_map f xs) ≡ list_any (λ x. list_any q (f x)) xs
any_flat_map f q [] = refl
any_flat_map f q (x ∷ xs) =
    ap (list_any q) (flat_map-cons f x xs) ∙ (list_any-append q (f x) (flat_map f xs) ∙ ap (λ b. list_any q (f x) || b) (any_flat_map f q xs))

-- ---- a range, and those of it that pass
test_below : (a b : ℕ) → a < b → nat_cmp a b ≡ Less
test_below a b h = let test : nat_lt a b ≡ true = grind (arith, nat_tests) in rw test refl

all_above : (a b n : ℕ) → a < b → AllByRecursion (λ y. nat_cmp a y ≡ Less) (range_with_len b n)
all_above a b zero h = tt
all_above a b (suc n) h = (test_below a b h, all_above a (b + 1) n (omega (arith, h)))

range_rises : (a n : ℕ) → IsStrictlySortedBy nat_cmp (range_with_len a n)
unfolding IsStrictlySortedBy
range_rises a zero = tt
range_rises a (suc n) = (all_above a (a + 1) n (omega arith), range_rises (a + 1) n)

passes : (p : ℕ → Bool) (b : ℕ) (xs : List ℕ) → list_any (λ x. (b == x) && p x) xs ≡ true → p b ≡ true
passes p b [] h = cc
passes p b (x ∷ xs) h = elim (cases_Bool (b == x)) [
  | inl same ↦ elim (cases_Bool (p b)) [
    | inl holds ↦ holds
    | inr fails ↦ passes p b xs (rw (same, ap p (sym (eqb-true b x same)) ∙ fails) at h)
  ]
  | inr other ↦ passes p b xs (rw other at h)
]

is_there : (p : ℕ → Bool) (b a n : ℕ) → p b ≡ true → a ≤ b → b < a + n → list_any (λ x. (b == x) && p x) (range_with_len a n) ≡ true
is_there p b a zero holds low high = absurd (omega (arith, low, high))
is_there p b a (suc n) holds low high = elim (cases_eq b a) [
  | inl same ↦ rw (eq-eqb b a same, ap p (sym same) ∙ holds) refl
  | inr other ↦ or_true ((b == a) && p a) _ (is_there p b (a + 1) n holds (omega (arith, low, other)) (omega (arith, high)))
]

both_ways : (a b : Bool) → (a ≡ true → b ≡ true) → (b ≡ true → a ≡ true) → a ≡ b
both_ways true b there back = sym (there refl)
both_ways false true there back = back refl
both_ways false false there back = refl

-- those below n that pass, where none passes from n on
pub among_range : (p : ℕ → Bool) (n b : ℕ) → (p b ≡ true → b < n) → among (filter p (range_with_len 0 n)) b ≡ p b
among_range p n b few =
    any_filter p (λ m. b == m) (range_with_len 0 n)
    ∙ both_ways _ (p b) (passes p b (range_with_len 0 n)) (λ holds. is_there p b 0 n holds (omega arith) (omega (arith, few holds)))

-- ---- lists of the same numbers
found_at : (p : ℕ → Bool) (ms : List ℕ) (n : ℕ) → among ms n ≡ true → p n ≡ true → list_any p ms ≡ true
found_at p [] n is holds = cc
found_at p (m ∷ ms) n is holds = elim (cases_Bool (n == m)) [
  | inl same ↦ rw (ap p (sym (eqb-true n m same)) ∙ holds) refl
  | inr other ↦ or_true (p m) _ (found_at p ms n (rw other at is) holds)
]

found_too : (p : ℕ → Bool) (ns ms : List ℕ) → ((n : ℕ) → among ns n ≡ true → among ms n ≡ true) → list_any p ns ≡ true → list_any p ms ≡ true
found_too p [] ms all h = cc
found_too p (n ∷ ns) ms all h = elim (cases_Bool (p n)) [
  | inl here ↦ found_at p ms n (all n (rw (eq-eqb n n refl) refl)) here
  | inr later ↦ found_too p ns ms (λ m is. all m (or_true (m == n) _ is)) (rw later at h)
]

-- Numbers in order are the numbers below n that pass, where the same are among them.
pub rising_is : (p : ℕ → Bool) (n : ℕ) (ns : List ℕ) → ((b : ℕ) → p b ≡ true → b < n) → ((b : ℕ) → among ns b ≡ p b) → rising ns ≡ filter p (range_with_len 0 n)
rising_is p n ns few same =
    let ms = filter p (range_with_len 0 n) in
    let alike = λ (b : ℕ). same b ∙ sym (among_range p n b (few b)) in
    sorted_same (rising ns) ms (rising_rises ns) (IsStrictlySortedBy-filter nat_cmp p (range_with_len 0 n) (range_rises 0 n))
    (λ q. any_rising q ns ∙ both_ways _ _ (found_too q ns ms (λ b is. sym (alike b) ∙ is)) (found_too q ms ns (λ b is. alike b ∙ is)))

-- Numbers that rise: the keys of a map.
use Rattle.std.proofs.Common.{◌≡◌, inl, inr, ℕ, zero, suc, ◌+◌, ◌<◌, ◌≤◌, Bool, true, false, cond, ◌||◌, ◌==◌, nat_lt, List, [], ◌∷◌, length, count_by, is_some, refl, sym, ◌∙◌, ap, arith}
use Rattle.std.specs.List.{range_with_len, AllByRecursion}
use Rattle.std.specs.List.Sorted.{IsStrictlySortedBy}
use Rattle.std.specs.Map.{lookup, keys_of}
use Rattle.std.specs.BTreeMap.{is_at}
use Rattle.std.specs.Ordering.{nat_cmp}
use Rattle.std.specs.declared.cmp.Ordering.TheVariants.{Less}
use Rattle.std.proofs.lemmas.List.Sums.{sum_by-cons}
use Rattle.std.proofs.lemmas.Bool.{cases_Bool}
use Rattle.std.proofs.lemmas.Bool.Decides.{nat_tests}
use Rattle.o2_model.specs.Words.{among}
use Rattle.o2_claims.proofs.Numbers.{is_eq_number, less_is}

-- these numbers rise, the first is `low` or more, and the last below `end`
abbrev pub Between : ℕ → ℕ → List ℕ → Type 0
Between low end [] = low ≤ end
Between low end (k ∷ ks) = (low ≤ k) × Between (k + 1) end ks

pub low_below : (low end : ℕ) (ks : List ℕ) → Between low end ks → low ≤ end
low_below low end [] h = h
low_below low end (k ∷ ks) h = let later = low_below (k + 1) end ks h.1 in let first = h.0 in omega arith

-- ---- the numbers below and at the first
pub none_below : (c low end : ℕ) (ks : List ℕ) → Between low end ks → c < low → among ks c ≡ false
none_below c low end [] h below = refl
none_below c low end (k ∷ ks) h below =
    let first = h.0 in
    let other : (c == k) ≡ false = grind (arith, nat_tests, first, below) in
    rw other (none_below c (k + 1) end ks h.1 (omega arith))

same_number : (k : ℕ) → (k == k) ≡ true
same_number k = grind (arith, nat_tests)

pub first_among : (k : ℕ) (ks : List ℕ) → among (k ∷ ks) k ≡ true
first_among k ks = ap (λ b. b || among ks k) (same_number k)

pub not_first : (c k : ℕ) (ks : List ℕ) → k + 1 ≤ c → among (k ∷ ks) c ≡ among ks c
not_first c k ks behind = let other : (c == k) ≡ false = grind (arith, nat_tests, behind) in ap (λ b. b || among ks c) other

-- ---- sorted numbers
later_among : (x : Bool) (ks : List ℕ) (c : ℕ) → among ks c ≡ true → (x || among ks c) ≡ true
later_among true ks c h = refl
later_among false ks c h = h

above : (k : ℕ) (ks : List ℕ) → AllByRecursion (λ y. nat_cmp k y ≡ Less) ks → AllByRecursion (λ y. k + 1 ≤ y) ks
above k [] all = tt
above k (y ∷ ys) all = (less_is k y all.0, above k ys all.1)

pub between : (low end : ℕ) (ks : List ℕ) → low ≤ end → AllByRecursion (λ y. low ≤ y) ks → IsStrictlySortedBy nat_cmp ks → ((c : ℕ) → among ks c ≡ true → c < end) → Between low end ks
unfolding IsStrictlySortedBy
between low end [] order all sorted below = order
between low end (k ∷ ks) order all sorted below =
    let last : k < end = below k (first_among k ks) in
    (all.0, between (k + 1) end ks (omega arith) (above k ks sorted.0) sorted.1 (λ c has. below c (later_among (c == k) ks c has)))

pub from_zero : (ks : List ℕ) → AllByRecursion (λ y. 0 ≤ y) ks
from_zero [] = tt
from_zero (k ∷ ks) = (omega arith, from_zero ks)

-- ---- how many there are
count_as : (p q : ℕ → Bool) (low n : ℕ) → ((c : ℕ) → low ≤ c → p c ≡ q c) → count_by p (range_with_len low n) ≡ count_by q (range_with_len low n)
count_as p q low zero same = refl
count_as p q low (suc n) same =
    sum_by-cons (λ c. cond (p c) 1 0) low (range_with_len (low + 1) n)
    ∙ (ap (λ b. cond b 1 0 + count_by p (range_with_len (low + 1) n)) (same low (omega arith))
    ∙ (ap (λ m. cond (q low) 1 0 + m) (count_as p q (low + 1) n (λ c behind. same c (omega arith)))
    ∙ sym (sum_by-cons (λ c. cond (q c) 1 0) low (range_with_len (low + 1) n))))

with_first : (p : ℕ → Bool) (low n m : ℕ) → p low ≡ true → count_by p (range_with_len (low + 1) n) ≡ m → count_by p (range_with_len low (suc n)) ≡ suc m
with_first p low n m has later =
    let all = sum_by-cons (λ c. cond (p c) 1 0) low (range_with_len (low + 1) n) ∙ ap (λ b. cond b 1 0 + count_by p (range_with_len (low + 1) n)) has in
    all ∙ omega (arith, later)

without_first : (p : ℕ → Bool) (low n m : ℕ) → p low ≡ false → count_by p (range_with_len (low + 1) n) ≡ m → count_by p (range_with_len low (suc n)) ≡ m
without_first p low n m none later =
    let all = sum_by-cons (λ c. cond (p c) 1 0) low (range_with_len (low + 1) n) ∙ ap (λ b. cond b 1 0 + count_by p (range_with_len (low + 1) n)) none in
    all ∙ omega (arith, later)

count_between : (low n end : ℕ) (ks : List ℕ) → low + n ≡ end → Between low end ks → count_by (among ks) (range_with_len low n) ≡ length ks
count_between low zero end [] is h = refl
count_between low zero end (k ∷ ks) is h = let first = h.0 in let last = low_below (k + 1) end ks h.1 in absurd (omega arith)
count_between low (suc n) end [] is h = count_between (low + 1) n end [] (omega arith) (omega arith)
count_between low (suc n) end (k ∷ ks) is h = elim (cases_Bool (low == k)) [
  | inl same ↦
      let at : low ≡ k = grind (arith, nat_tests, same) in
      let later = count_as (among (k ∷ ks)) (among ks) (low + 1) n (λ c behind. not_first c k ks (omega arith)) in
      let rest = count_between (low + 1) n end ks (omega arith) (rw at h.1) in
      with_first (among (k ∷ ks)) low n (length ks) (ap (λ b. b || among ks low) same) (later ∙ rest)
  | inr other ↦
      let first = h.0 in
      let behind : low + 1 ≤ k = grind (arith, nat_tests, other, first) in
      without_first (among (k ∷ ks)) low n (length (k ∷ ks)) (none_below low k end (k ∷ ks) (omega arith, h.1) (omega arith)) (count_between (low + 1) n end (k ∷ ks) (omega arith) (behind, h.1))
]

length_between : (low end : ℕ) (ks : List ℕ) → Between low end ks → low + length ks ≤ end
length_between low end [] h = omega (arith, h)
length_between low end (k ∷ ks) h = let later = length_between (k + 1) end ks h.1 in let first = h.0 in omega arith

module _ {X : Type 0} where
  -- ---- the keys of entries
  pub key_among : (es : List (ℕ × X)) (c : ℕ) → is_some (lookup (is_at (nat_cmp c)) es) ≡ among (keys_of es) c
  key_among [] c = refl
  key_among (e ∷ es) c = elim (cases_Bool (c == e.0)) [
    | inl same ↦ rw (is_eq_number c e.0, same) refl
    | inr other ↦ rw (is_eq_number c e.0, other) (key_among es c)
  ]

  length_keys : (es : List (ℕ × X)) → length (keys_of es) ≡ length es
  length_keys [] = refl
  length_keys (e ∷ es) = ap suc (length_keys es)

  module _ (es : List (ℕ × X)) (end : ℕ) (sorted : IsStrictlySortedBy nat_cmp (keys_of es)) (below : (c : ℕ) → end ≤ c → is_some (lookup (is_at (nat_cmp c)) es) ≡ false) where
    low_key : (c : ℕ) → among (keys_of es) c ≡ true → c < end
    low_key c has = elim (cases_Bool (nat_lt c end)) [
      | inl low ↦ grind (arith, nat_tests, low)
      | inr high ↦
          let behind : end ≤ c = grind (arith, nat_tests, high) in
          let none = sym (key_among es c) ∙ below c behind in
          cc
    ]

    pub keys_between : Between 0 end (keys_of es)
    keys_between = between 0 end (keys_of es) (omega arith) (from_zero (keys_of es)) sorted low_key

    pub few_keys : length es ≤ end
    few_keys = omega (arith, length_keys es, length_between 0 end (keys_of es) keys_between)

    pub count_keys : length es ≡ count_by (λ c. is_some (lookup (is_at (nat_cmp c)) es)) (range_with_len 0 end)
    count_keys = sym (count_as (λ c. is_some (lookup (is_at (nat_cmp c)) es)) (among (keys_of es)) 0 end (λ c _. key_among es c) ∙ (count_between 0 end end (keys_of es) (omega arith) keys_between ∙ length_keys es))

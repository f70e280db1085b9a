-- What is a member of a list that is filtered, joined or put in order.
use Rattle.std.proofs.Common.{◌≡◌, ◌⊎◌, inl, inr, ℕ, zero, suc, Bool, true, ◌==◌, List, [], ◌∷◌, refl, sym, subst, arith, ◌++◌, ◌∙◌}
use Rattle.std.specs.Prelude.{filter, flat_map}
use Rattle.std.specs.List.{Contains}
use Rattle.std.proofs.lemmas.Bool.{cases_Bool, eq-eqb, eqb-true, or_left, or_right}
use Rattle.std.proofs.lemmas.List.Elements.{Contains-append_left, Contains-append_right, Contains-append_cases}
use Rattle.o2_model.specs.Words.{among}
use Rattle.o2_laws.proofs.Found.{contains_first, contains_later, found, passing}
use Rattle.std.proofs.lemmas.List.Folds.{list_any-append}

-- it is the first, or one of the others
pub contains_cases : {A : Type 0} (y x : A) (ys : List A) → Contains (y ∷ ys) x → (y ≡ x) ⊎ Contains ys x
contains_cases y x ys (zero, within, is) = inl is
contains_cases y x ys (suc k, within, is) = inr (k, omega (arith, within), is)

pub contains_one : {A : Type 0} (y x : A) → Contains (y ∷ []) x → y ≡ x
contains_one y x is = elim (contains_cases y x [] is) [ inl same ↦ same | inr there ↦ absurd (omega (arith, there.1)) ]

-- what a filter keeps was there, and passes
pub contains_filter : {A : Type 0} (p : A → Bool) (xs : List A) (x : A) → Contains (filter p xs) x → Contains xs x × (p x ≡ true)
contains_filter p [] x is = absurd (omega (arith, is.1))
contains_filter p (y ∷ ys) x is = elim (cases_Bool (p y)) [
  | inr bad ↦ let later = contains_filter p ys x (rw bad at is) in (contains_later y x ys later.0, later.1)
  | inl good ↦ elim (contains_cases y x (filter p ys) (rw good at is)) [
    | inl here ↦ rw (← here) (contains_first y ys, good)
    | inr there ↦ let later = contains_filter p ys x there in (contains_later y x ys later.0, later.1)
  ]
]

-- what a part of a joined list has is of the whole
pub contains_flat : {A B : Type 0} (f : A → List B) (xs : List A) (x : A) (y : B) → Contains xs x → Contains (f x) y → Contains (flat_map f xs) y
contains_flat f [] x y is inside = absurd (omega (arith, is.1))
contains_flat f (z ∷ zs) x y is inside = elim (contains_cases z x zs is) [
  | inl same ↦ Contains-append_left (f z) (flat_map f zs) y (subst (λ w. Contains (f w) y) (sym same) inside)
  | inr there ↦ Contains-append_right (f z) (flat_map f zs) y (contains_flat f zs x y there inside)
]

-- The part that an item of a joined list is from.
pub record PartWith {A B : Type 0} (f : A → List B) (xs : List A) (y : B) : Type 0 where
  pub item : A
  pub inside : Contains xs item
  pub has : Contains (f item) y

pub flat_contains : {A B : Type 0} (f : A → List B) (xs : List A) (y : B) → Contains (flat_map f xs) y → PartWith f xs y
flat_contains f [] y is = absurd (omega (arith, is.1))
flat_contains f (x ∷ xs) y is = elim (Contains-append_cases (f x) (flat_map f xs) y is) [
  | inl here ↦ record { item = x; inside = contains_first x xs; has = here }
  | inr there ↦
      let later = flat_contains f xs y there in
      record { item = later.item; inside = contains_later x later.item xs later.inside; has = later.has }
]

-- ---- numbers of lists
pub contains_among : (ns : List ℕ) (n : ℕ) → Contains ns n → among ns n ≡ true
contains_among ns n is = found (λ m. n == m) ns n is (eq-eqb n n refl)

pub among_contains : (ns : List ℕ) (n : ℕ) → among ns n ≡ true → Contains ns n
among_contains ns n h =
    let at = passing (λ m. n == m) ns h in
    subst (Contains ns) (sym (eqb-true n at.item at.passes)) at.inside

pub among_one : (b d : ℕ) → among (d ∷ []) b ≡ true → (b == d) ≡ true
among_one b d h = grind arith

pub among_left : (xs ys : List ℕ) (b : ℕ) → among xs b ≡ true → among (xs ++ ys) b ≡ true
among_left xs ys b h = list_any-append (λ m. b == m) xs ys ∙ or_left _ _ h

pub among_right : (xs ys : List ℕ) (b : ℕ) → among ys b ≡ true → among (xs ++ ys) b ≡ true
among_right xs ys b h = list_any-append (λ m. b == m) xs ys ∙ or_right _ _ h

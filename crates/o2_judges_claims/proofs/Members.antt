-- What is a member of a list that is filtered, joined or mapped.
use Rattle.std.proofs.Common.{◌≡◌, ◌⊎◌, inl, inr, zero, suc, Bool, true, List, [], ◌∷◌, ◌++◌, map, filter, refl, sym, ◌∙◌, ap, subst, arith}
use Rattle.std.specs.Prelude.{flat_map}
use Rattle.std.specs.List.{Contains, AllByRecursion}
use Rattle.std.proofs.lemmas.Bool.{cases_Bool}
use Rattle.std.proofs.lemmas.List.Elements.{Contains-append_left, Contains-append_right}

pub contains_first : {A : Type 0} (x : A) (xs : List A) → Contains (x ∷ xs) x
contains_first x xs = (0, omega arith, refl)

pub contains_later : {A : Type 0} (y x : A) (xs : List A) → Contains xs x → Contains (y ∷ xs) x
contains_later y x xs is = (suc is.0, omega (arith, is.1), is.2)

-- it is the first, or one of the others
pub contains_cases : {A : Type 0} (y x : A) (ys : List A) → Contains (y ∷ ys) x → (y ≡ x) ⊎ Contains ys x
contains_cases y x ys (zero, within, is) = inl is
contains_cases y x ys (suc k, within, is) = inr (k, omega (arith, within), is)

-- what a part of a joined list has is of the whole
pub contains_flat : {A B : Type 0} (f : A → List B) (xs : List A) (x : A) (y : B) → Contains xs x → Contains (f x) y → Contains (flat_map f xs) y
contains_flat f [] x y is inside = absurd (omega (arith, is.1))
contains_flat f (z ∷ zs) x y is inside = elim (contains_cases z x zs is) [
  | inl same ↦ Contains-append_left (f z) (flat_map f zs) y (subst (λ w. Contains (f w) y) (sym same) inside)
  | inr there ↦ Contains-append_right (f z) (flat_map f zs) y (contains_flat f zs x y there inside)
]

pub kept_in : {A : Type 0} (p : A → Bool) (xs : List A) (z : A) → Contains xs z → p z ≡ true → Contains (filter p xs) z
kept_in p [] z is h = absurd (omega (arith, is.1))
kept_in p (x ∷ xs) z is h = elim (contains_cases x z xs is) [
  | inl here ↦ rw (ap p here ∙ h) (subst (λ y. Contains (y ∷ filter p xs) z) (sym here) (contains_first z (filter p xs)))
  | inr there ↦ elim (cases_Bool (p x)) [
    | inl good ↦ rw good (contains_later x z (filter p xs) (kept_in p xs z there h))
    | inr bad ↦ rw bad (kept_in p xs z there h)
  ]
]

pub mapped_in : {A B : Type 0} (f : A → B) (xs : List A) (z : A) → Contains xs z → Contains (map f xs) (f z)
mapped_in f [] z is = absurd (omega (arith, is.1))
mapped_in f (x ∷ xs) z is = elim (contains_cases x z xs is) [
  | inl here ↦ subst (λ y. Contains (map f (x ∷ xs)) (f y)) here (contains_first (f x) (map f xs))
  | inr there ↦ contains_later (f x) (f z) (map f xs) (mapped_in f xs z there)
]

-- ---- what holds of each
pub each_has : {A : Type 0} (P : A → Type 0) (xs : List A) (z : A) → AllByRecursion P xs → Contains xs z → P z
each_has P [] z all is = absurd (omega (arith, is.1))
each_has P (x ∷ xs) z all is = elim (contains_cases x z xs is) [
  | inl here ↦ subst P here all.0
  | inr there ↦ each_has P xs z all.1 there
]

pub each_append : {A : Type 0} (P : A → Type 0) (xs ys : List A) → AllByRecursion P xs → AllByRecursion P ys → AllByRecursion P (xs ++ ys)
each_append P [] ys first second = second
each_append P (x ∷ xs) ys first second = (first.0, each_append P xs ys first.1 second)

pub each_flat : {A B : Type 0} (P : B → Type 0) (f : A → List B) (xs : List A) → AllByRecursion (λ x. AllByRecursion P (f x)) xs → AllByRecursion P (flat_map f xs)
each_flat P f [] all = tt
each_flat P f (x ∷ xs) all = each_append P (f x) (flat_map f xs) all.0 (each_flat P f xs all.1)

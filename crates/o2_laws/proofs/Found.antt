-- Where a list is mapped, joined or filtered, a test finds what it found before.
use Rattle.std.proofs.Common.{◌≡◌, inl, inr, ℕ, zero, suc, ◌+◌, ◌-◌, ◌<◌, ◌≤◌, Bool, true, ◌&&◌, ◌||◌, List, [], ◌∷◌, ◌++◌, map, length, refl, sym, ◌∙◌, ap, arith, Some, cond, Option, None, false}
use Rattle.std.specs.Prelude.{flat_map, filter, find, slice_get}
use Rattle.std.specs.List.{list_any, list_all, AllByRecursion, Contains, range_with_len}
use Rattle.std.proofs.lemmas.Bool.{cases_Bool, false≢true}
use Rattle.std.proofs.lemmas.List.Folds.{list_any-append, list_any_at, list_all_at}
use Rattle.std.proofs.lemmas.List.FromFn.{length-range_with_len, get_or-range_with_len}
use Rattle.o2_model.specs.Words.{push}
use Rattle.o2_model.specs.Orders.{is_none_of}
use Rattle.std.specs.Option.{option_map}

pub found : {A : Type 0} (p : A → Bool) (xs : List A) (x : A) → Contains xs x → p x ≡ true → list_any p xs ≡ true
found p xs x is h = list_any_at p xs is.0 x is.1 (ap p is.2 ∙ h)

pub any_map : {A B : Type 0} (p : B → Bool) (f : A → B) (xs : List A) → list_any p (map f xs) ≡ list_any (λ x. p (f x)) xs
any_map p f [] = refl
any_map p f (x ∷ xs) = ap (λ b. p (f x) || b) (any_map p f xs)

pub any_flat : {A B : Type 0} (p : B → Bool) (f : A → List B) (xs : List A) → list_any p (flat_map f xs) ≡ list_any (λ x. list_any p (f x)) xs
any_flat p f [] = refl
any_flat p f (x ∷ xs) = list_any-append p (f x) (flat_map f xs) ∙ ap (λ b. list_any p (f x) || b) (any_flat p f xs)

pub any_filter : {A : Type 0} (p q : A → Bool) (xs : List A) → list_any p (filter q xs) ≡ list_any (λ x. q x && p x) xs
any_filter p q [] = refl
any_filter p q (x ∷ xs) = elim (cases_Bool (q x)) [
  | inl good ↦ rw good (ap (λ b. p x || b) (any_filter p q xs))
  | inr bad ↦ rw bad (any_filter p q xs)
]

-- a number of a range that passes
pub any_range : (p : ℕ → Bool) (a n b : ℕ) → a ≤ b → b < a + n → p b ≡ true → list_any p (range_with_len a n) ≡ true
any_range p a n b low high h =
    list_any_at p (range_with_len a n) (b - a) 0 (omega (arith, low, high, length-range_with_len a n))
    (ap p (omega (arith, low, high, get_or-range_with_len a n (b - a) 0 (omega (arith, low, high)))) ∙ h)

-- the test finds an element
pub record Passing {A : Type 0} (p : A → Bool) (xs : List A) : Type 0 where
  pub item : A
  pub inside : Contains xs item
  pub passes : p item ≡ true

pub contains_first : {A : Type 0} (x : A) (xs : List A) → Contains (x ∷ xs) x
contains_first x xs = (0, omega arith, refl)

pub contains_later : {A : Type 0} (y x : A) (xs : List A) → Contains xs x → Contains (y ∷ xs) x
contains_later y x xs is = (suc is.0, omega (arith, is.1), is.2)

pub passing : {A : Type 0} (p : A → Bool) (xs : List A) → list_any p xs ≡ true → Passing p xs
passing p [] h = absurd (false≢true h)
passing p (x ∷ xs) h = elim (cases_Bool (p x)) [
  | inl good ↦ record { item = x; inside = contains_first x xs; passes = good }
  | inr bad ↦
      let later = passing p xs (rw bad at h) in
      record { item = later.item; inside = contains_later x later.item xs later.inside; passes = later.passes }
]

-- what `find` finds
pub find_passing : {A : Type 0} (p : A → Bool) (xs : List A) (x : A) → find p xs ≡ Some x → Contains xs x × (p x ≡ true)
find_passing p [] x h = cc
find_passing p (y ∷ ys) x h = elim (cases_Bool (p y)) [
  | inl good ↦
      let same : y ≡ x = let e : Some y ≡ Some x = rw good at h in cc in
      rw (← same) (contains_first y ys, good)
  | inr bad ↦
      let later = find_passing p ys x (rw bad at h) in
      (contains_later y x ys later.0, later.1)
]

-- of a range: the number is in it
pub range_bounds : (a n b : ℕ) → Contains (range_with_len a n) b → (a ≤ b) × (b < a + n)
range_bounds a n b is =
    let k = is.0 in
    let inside : k < n = omega (arith, is.1, length-range_with_len a n) in
    let at = get_or-range_with_len a n k b inside in
    (omega (arith, is.2, at, inside), omega (arith, is.2, at, inside))

-- each element has what all have
pub each_of : {A : Type 0} (P : A → Type 0) (xs : List A) (x : A) → AllByRecursion P xs → Contains xs x → P x
each_of P [] x all is = absurd (omega (arith, is.1))
each_of P (y ∷ ys) x all (zero, within, is) = rw (← is) all.0
each_of P (y ∷ ys) x all (suc k, within, is) = each_of P ys x all.1 (k, omega (arith, within), is)

-- where all pass, each does
pub passes_of_all : {A : Type 0} (p : A → Bool) (xs : List A) (x : A) → list_all p xs ≡ true → Contains xs x → p x ≡ true
passes_of_all p xs x all is = elim (cases_Bool (p x)) [
  | inl good ↦ good
  | inr bad ↦ absurd (false≢true (sym (list_all_at p xs is.0 x is.1 (ap p is.2 ∙ bad)) ∙ all))
]

-- ---- lists with nothing in them
pub append_nothing : {A : Type 0} (xs ys : List A) → xs ++ ys ≡ [] → (xs ≡ []) × (ys ≡ [])
append_nothing [] ys h = (refl, h)
append_nothing (x ∷ xs) ys h = cc

pub map_none : {A B : Type 0} (f : A → B) (xs : List A) → map f xs ≡ [] → xs ≡ []
map_none f [] h = refl
map_none f (x ∷ xs) h = cc

-- by the test of it
pub none_of : {A : Type 0} (xs : List A) → is_none_of xs ≡ true → xs ≡ []
none_of [] h = refl
none_of (x ∷ xs) h = absurd (false≢true h)

pub none_of_length : {A : Type 0} (xs : List A) → length xs ≡ 0 → xs ≡ []
none_of_length [] h = refl
none_of_length (x ∷ xs) h = absurd (omega arith)

-- ---- what all elements have
pub all_map : {A B : Type 0} (P : B → Type 0) (f : A → B) (xs : List A) → AllByRecursion (λ x. P (f x)) xs → AllByRecursion P (map f xs)
all_map P f [] all = tt
all_map P f (x ∷ xs) all = (all.0, all_map P f xs all.1)

pub all_push : {A : Type 0} (P : A → Type 0) (xs : List A) (x : A) → AllByRecursion P xs → P x → AllByRecursion P (push xs x)
all_push P [] x all is = (is, tt)
all_push P (y ∷ ys) x all is = (all.0, all_push P ys x all.1 is)

-- what is read at a place is of the list
pub all_get : {A : Type 0} (P : A → Type 0) (xs : List A) (k : ℕ) (x : A) → AllByRecursion P xs → slice_get xs k ≡ Some x → P x
all_get P [] k x all is = cc
all_get P (y ∷ ys) zero x all is = let same : y ≡ x = cc in rw (← same) all.0
all_get P (y ∷ ys) (suc k) x all is = all_get P ys k x all.1 is

-- ---- what is found first
-- one test more: the first that passes either is found where the other one is not
pub either : {A : Type 0} (a b : Bool) (x : A) (o : Option A) → o ≡ cond b (Some x) None → cond a (Some x) o ≡ cond (a || b) (Some x) None
either true b x o h = refl
either false b x o h = h

-- what is found of something, where there is that
pub mapped_some : {A B : Type 0} (f : A → B) (o : Option A) (y : B) → option_map f o ≡ Some y → (x : A) × (o ≡ Some x) × (f x ≡ y)
mapped_some f None y h = cc
mapped_some f (Some x) y h = (x, refl, cc)

-- Functions that agree on the members of a list give the same over the list.
use Rattle.std.proofs.Common.{◌≡◌, ℕ, ◌+◌, Bool, not, cond, List, [], ◌∷◌, map, ap, refl, Option, Some, None}
use Rattle.std.specs.Prelude.{filter, flat_map, fold, find, count_by, sum_by}
use Rattle.std.specs.List.{Contains, list_any, list_all}
use Rattle.std.specs.Option.{option_map_or}
use Rattle.o2_model.specs.Faults.{fails_at}
use Rattle.o2_laws.proofs.Found.{contains_first, contains_later}

pub map_agree : {A B : Type 0} (f g : A → B) (xs : List A) → ((x : A) → Contains xs x → f x ≡ g x) → map f xs ≡ map g xs
map_agree f g [] same = refl
map_agree f g (x ∷ xs) same = rw (same x (contains_first x xs), map_agree f g xs (λ y is. same y (contains_later x y xs is))) refl

pub flat_map_agree : {A B : Type 0} (f g : A → List B) (xs : List A) → ((x : A) → Contains xs x → f x ≡ g x) → flat_map f xs ≡ flat_map g xs
flat_map_agree f g [] same = refl
flat_map_agree f g (x ∷ xs) same = rw (same x (contains_first x xs), flat_map_agree f g xs (λ y is. same y (contains_later x y xs is))) refl

pub filter_agree_on : {A : Type 0} (p q : A → Bool) (xs : List A) → ((x : A) → Contains xs x → p x ≡ q x) → filter p xs ≡ filter q xs
filter_agree_on p q [] same = refl
filter_agree_on p q (x ∷ xs) same = rw (same x (contains_first x xs), filter_agree_on p q xs (λ y is. same y (contains_later x y xs is))) refl

pub any_agree : {A : Type 0} (p q : A → Bool) (xs : List A) → ((x : A) → Contains xs x → p x ≡ q x) → list_any p xs ≡ list_any q xs
any_agree p q [] same = refl
any_agree p q (x ∷ xs) same = rw (same x (contains_first x xs), any_agree p q xs (λ y is. same y (contains_later x y xs is))) refl

pub all_agree : {A : Type 0} (p q : A → Bool) (xs : List A) → ((x : A) → Contains xs x → p x ≡ q x) → list_all p xs ≡ list_all q xs
all_agree p q [] same = refl
all_agree p q (x ∷ xs) same = rw (same x (contains_first x xs), all_agree p q xs (λ y is. same y (contains_later x y xs is))) refl

pub find_agree : {A : Type 0} (p q : A → Bool) (xs : List A) → ((x : A) → Contains xs x → p x ≡ q x) → find p xs ≡ find q xs
find_agree p q [] same = refl
find_agree p q (x ∷ xs) same = rw (same x (contains_first x xs), find_agree p q xs (λ y is. same y (contains_later x y xs is))) refl

pub fold_agree : {A S : Type 0} (f g : S → A → S) (start : S) (xs : List A) → ((s : S) (x : A) → Contains xs x → f s x ≡ g s x) → fold f start xs ≡ fold g start xs
fold_agree f g start [] same = refl
fold_agree f g start (x ∷ xs) same = rw (same start x (contains_first x xs)) (fold_agree f g (g start x) xs (λ s y is. same s y (contains_later x y xs is)))

pub sum_by_agree : {A : Type 0} (f g : A → ℕ) (xs : List A) → ((x : A) → Contains xs x → f x ≡ g x) → sum_by f xs ≡ sum_by g xs
sum_by_agree f g xs same = fold_agree (λ n x. n + f x) (λ n x. n + g x) 0 xs (λ n x is. ap (λ m. n + m) (same x is))

pub count_by_agree : {A : Type 0} (p q : A → Bool) (xs : List A) → ((x : A) → Contains xs x → p x ≡ q x) → count_by p xs ≡ count_by q xs
count_by_agree p q xs same = sum_by_agree (λ x. cond (p x) 1 0) (λ x. cond (q x) 1 0) xs (λ x is. ap (λ b. cond b 1 0) (same x is))

-- the places of those that lack something
pub fails_agree : {A : Type 0} (place : A → ℕ) (p q : A → Bool) (xs : List A) → ((x : A) → Contains xs x → p x ≡ q x) → fails_at place p xs ≡ fails_at place q xs
fails_agree place p q xs same = ap (map place) (filter_agree_on (λ x. not (p x)) (λ x. not (q x)) xs (λ x is. ap not (same x is)))

-- of an option: functions that agree on what it has
pub option_agree : {A B : Type 0} (f g : A → B) (o : Option A) (none : B) → ((x : A) → o ≡ Some x → f x ≡ g x) → option_map_or f o none ≡ option_map_or g o none
option_agree f g None none same = refl
option_agree f g (Some x) none same = same x refl

-- Rows tell of their items what the definitions ask.
use Rattle.std.proofs.Common.{◌≡◌, inl, inr, ℕ, Bool, true, false, ◌&&◌, ◌||◌, not, ◌==◌, List, [], ◌∷◌, ◌++◌, map, filter, flat_map, refl, sym, ◌∙◌, ap, if◌then◌else◌}
use Rattle.std.specs.List.{AllByRecursion, list_all, list_any}
use Rattle.std.proofs.lemmas.Bool.{cases_Bool, eq-eqb}
use Rattle.std.proofs.lemmas.List.Concat.{flat_map-cons}
use Rattle.o2_model.specs.Faults.{fails_at, fails_unless, those_not}

pub each_is : {A : Type 0} {P Q : A → Type 0} → ((x : A) → P x → Q x) → (xs : List A) → AllByRecursion P xs → AllByRecursion Q xs
each_is so [] all = tt
each_is so (x ∷ xs) all = (so x all.0, each_is so xs all.1)

pub each_both : {A : Type 0} {P Q S : A → Type 0} → ((x : A) → P x → Q x → S x) → (xs : List A) → AllByRecursion P xs → AllByRecursion Q xs → AllByRecursion S xs
each_both so [] all also = tt
each_both so (x ∷ xs) all also = (so x all.0 also.0, each_both so xs all.1 also.1)

-- each row is found by its own number
pub each_there : {A : Type 0} (key : A → ℕ) (all rows : List A) → ((k : ℕ) → list_any (λ r. key r == k) rows ≡ true → list_any (λ r. key r == k) all ≡ true)
    → AllByRecursion (λ r. list_any (λ other. key other == key r) all ≡ true) rows
each_there key all [] so = tt
each_there key all (r ∷ rs) so = (
  so (key r) (ap (λ b. b || list_any (λ other. key other == key r) rs) (eq-eqb (key r) (key r) refl)),
  each_there key all rs (λ k there. so k (ap (λ b. key r == k || b) there ∙ or_true (key r == k))),
)
  where
    or_true : (b : Bool) → (b || true) ≡ true
    or_true true = refl
    or_true false = refl

-- Of the rows that are asked, those that lack something are where a check of their items fails.
pub rows_tell : {A B : Type 0} (item : A → B) (place : B → ℕ) (asks : A → Bool) (asked : B → Bool) (ok : A → Bool) (holds : B → Bool) (rows : List A) (items : List B)
    → map item rows ≡ items → AllByRecursion (λ r. (asks r ≡ asked (item r)) × (asks r ≡ true → ok r ≡ holds (item r))) rows
    → map (λ r. place (item r)) (filter (λ r. asks r && not (ok r)) rows) ≡ fails_at place holds (filter asked items)
rows_tell {A = A} {B = B} item place asks asked ok holds rows items are each = go rows each ∙ ap (λ xs. fails_at place holds (filter asked xs)) are
  where
    go : (rs : List A) → AllByRecursion (λ r. (asks r ≡ asked (item r)) × (asks r ≡ true → ok r ≡ holds (item r))) rs
        → map (λ r. place (item r)) (filter (λ r. asks r && not (ok r)) rs) ≡ fails_at place holds (filter asked (map item rs))
    go [] all = refl
    go (r ∷ rs) all = elim (cases_Bool (asks r)) [
      | inl is ↦ elim (cases_Bool (holds (item r))) [
        | inl good ↦ rw (is, sym all.0.0 ∙ is, all.0.1 is ∙ good, good) (go rs all.1)
        | inr bad ↦ rw (is, sym all.0.0 ∙ is, all.0.1 is ∙ bad, bad) (ap (λ ns. place (item r) ∷ ns) (go rs all.1))
      ]
      | inr other ↦ rw (other, sym all.0.0 ∙ other) (go rs all.1)
    ]

-- The same where each row that is asked gives a list.
pub rows_give : {A B : Type 0} (item : A → B) (asks : A → Bool) (asked : B → Bool) (gives : A → List ℕ) (told : B → List ℕ) (rows : List A) (items : List B)
    → map item rows ≡ items → AllByRecursion (λ r. (asks r ≡ asked (item r)) × (asks r ≡ true → gives r ≡ told (item r))) rows
    → flat_map (λ r. if asks r then gives r else []) rows ≡ flat_map told (filter asked items)
rows_give {A = A} {B = B} item asks asked gives told rows items are each = go rows each ∙ ap (λ xs. flat_map told (filter asked xs)) are
  where
    go : (rs : List A) → AllByRecursion (λ r. (asks r ≡ asked (item r)) × (asks r ≡ true → gives r ≡ told (item r))) rs
        → flat_map (λ r. if asks r then gives r else []) rs ≡ flat_map told (filter asked (map item rs))
    go [] all = refl
    go (r ∷ rs) all = flat_map-cons (λ x. if asks x then gives x else []) r rs ∙ elim (cases_Bool (asks r)) [
      | inl is ↦ rw (is, sym all.0.0 ∙ is) (ap (λ ns. ns ++ flat_map (λ x. if asks x then gives x else []) rs) (all.0.1 is)
          ∙ (ap (λ ns. told (item r) ++ ns) (go rs all.1) ∙ sym (flat_map-cons told (item r) (filter asked (map item rs)))))
      | inr other ↦ rw (other, sym all.0.0 ∙ other) (go rs all.1)
    ]

-- the items that lack something, one by one
pub one_by_one : {A : Type 0} (place : A → ℕ) (holds : A → Bool) (xs : List A) → flat_map (λ x. fails_unless (place x) (holds x)) xs ≡ fails_at place holds xs
one_by_one place holds [] = refl
one_by_one place holds (x ∷ xs) = flat_map-cons (λ y. fails_unless (place y) (holds y)) x xs ∙ elim (cases_Bool (holds x)) [
  | inl is ↦ rw is (one_by_one place holds xs)
  | inr fails ↦ rw fails (ap (λ ns. place x ∷ ns) (one_by_one place holds xs))
]

-- ---- the same by another test
pub same_those : {A : Type 0} (p q : A → Bool) → ((x : A) → p x ≡ q x) → (xs : List A) → those_not p xs ≡ those_not q xs
same_those p q same [] = refl
same_those p q same (x ∷ xs) = rw (same x, same_those p q same xs) refl

pub same_all : {A : Type 0} (p q : A → Bool) → ((x : A) → p x ≡ q x) → (xs : List A) → list_all p xs ≡ list_all q xs
same_all p q same [] = refl
same_all p q same (x ∷ xs) = rw (same x, same_all p q same xs) refl

-- ---- tests of lists that are joined
pub all_append : {A : Type 0} (p : A → Bool) (xs ys : List A) → list_all p (xs ++ ys) ≡ (list_all p xs && list_all p ys)
all_append p [] ys = refl
all_append p (x ∷ xs) ys = ap (λ b. p x && b) (all_append p xs ys) ∙ assoc (p x) (list_all p xs) (list_all p ys)
  where
    assoc : (a b c : Bool) → (a && (b && c)) ≡ ((a && b) && c)
    assoc true b c = refl
    assoc false b c = refl

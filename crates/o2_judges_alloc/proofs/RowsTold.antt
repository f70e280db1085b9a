-- Rows tell of their items what the definitions ask.
use Rattle.std.proofs.Common.{◌≡◌, inl, inr, ℕ, ◌+◌, Bool, true, ◌&&◌, not, List, [], ◌∷◌, map, filter, sum_by, refl, sym, ◌∙◌, ap, subst}
use Rattle.std.specs.List.{AllByRecursion, list_all}
use Rattle.std.proofs.lemmas.Bool.{cases_Bool}
use Rattle.std.proofs.lemmas.List.Sums.{sum_by-cons}
use Rattle.o2_model.specs.Faults.{fails_at, those_not}

-- What rows tell of the items that pass, one by one, is where a check of these items fails.
pub rows_tell : {A B : Type 0} (item : A → B) (place : B → ℕ) (asked holds : B → Bool) (ok : A → Bool) (rows : List A) (items : List B)
    → map item rows ≡ items → AllByRecursion (λ r. asked (item r) ≡ true → ok r ≡ holds (item r)) rows
    → map (λ r. place (item r)) (filter (λ r. asked (item r) && not (ok r)) rows) ≡ fails_at place holds (filter asked items)
rows_tell {A = A} {B = B} item place asked holds ok rows items are each = go rows each ∙ ap (λ xs. fails_at place holds (filter asked xs)) are
  where
    go : (rs : List A) → AllByRecursion (λ r. asked (item r) ≡ true → ok r ≡ holds (item r)) rs
        → map (λ r. place (item r)) (filter (λ r. asked (item r) && not (ok r)) rs) ≡ fails_at place holds (filter asked (map item rs))
    go [] all = refl
    go (r ∷ rs) all = elim (cases_Bool (asked (item r))) [
      | inl is ↦ elim (cases_Bool (holds (item r))) [
        | inl good ↦ rw (is, good, all.0 is ∙ good) (go rs all.1)
        | inr bad ↦ rw (is, bad, all.0 is ∙ bad) (ap (λ ns. place (item r) ∷ ns) (go rs all.1))
      ]
      | inr other ↦ rw other (go rs all.1)
    ]

pub all_kept : {A : Type 0} (xs : List A) → filter (λ x. true) xs ≡ xs
all_kept [] = refl
all_kept (x ∷ xs) = ap (λ ys. x ∷ ys) (all_kept xs)

pub each_is : {A : Type 0} {P Q : A → Type 0} → ((x : A) → P x → Q x) → (xs : List A) → AllByRecursion P xs → AllByRecursion Q xs
each_is so [] all = tt
each_is so (x ∷ xs) all = (so x all.0, each_is so xs all.1)

-- the same where every item is asked
pub all_rows_tell : {A B : Type 0} (item : A → B) (place : B → ℕ) (holds : B → Bool) (ok : A → Bool) (rows : List A) (items : List B)
    → map item rows ≡ items → AllByRecursion (λ r. ok r ≡ holds (item r)) rows
    → fails_at (λ r. place (item r)) ok rows ≡ fails_at place holds items
all_rows_tell item place holds ok rows items are each =
    rows_tell item place (λ x. true) holds ok rows items are (each_is (λ r is asked. is) rows each) ∙ ap (fails_at place holds) (all_kept items)

-- ---- each of some items
pub each_both : {A : Type 0} {P Q S : A → Type 0} → ((x : A) → P x → Q x → S x) → (xs : List A) → AllByRecursion P xs → AllByRecursion Q xs → AllByRecursion S xs
each_both so [] all also = tt
each_both so (x ∷ xs) all also = (so x all.0 also.0, each_both so xs all.1 also.1)

-- what holds of each item holds of each row's
pub each_row : {A B : Type 0} (item : A → B) (P : B → Type 0) (rows : List A) (items : List B) → map item rows ≡ items → AllByRecursion P items → AllByRecursion (λ r. P (item r)) rows
each_row {A = A} item P rows items are all = go rows (subst (AllByRecursion P) (sym are) all)
  where
    go : (rs : List A) → AllByRecursion P (map item rs) → AllByRecursion (λ r. P (item r)) rs
    go [] all = tt
    go (r ∷ rs) all = (all.0, go rs all.1)

-- ---- the same by another test
pub same_those : {A : Type 0} (p q : A → Bool) → ((x : A) → p x ≡ q x) → (xs : List A) → those_not p xs ≡ those_not q xs
same_those p q same [] = refl
same_those p q same (x ∷ xs) = rw (same x, same_those p q same xs) refl

pub same_all : {A : Type 0} (p q : A → Bool) → ((x : A) → p x ≡ q x) → (xs : List A) → list_all p xs ≡ list_all q xs
same_all p q same [] = refl
same_all p q same (x ∷ xs) = rw (same x, same_all p q same xs) refl

-- ---- items of rows
pub places_of : {A B : Type 0} (item : A → B) (place : B → ℕ) (asked : B → Bool) (rows : List A)
    → map (λ r. place (item r)) (filter (λ r. asked (item r)) rows) ≡ map place (filter asked (map item rows))
places_of item place asked [] = refl
places_of item place asked (r ∷ rs) = elim (cases_Bool (asked (item r))) [
  | inl is ↦ rw is (ap (λ ns. place (item r) ∷ ns) (places_of item place asked rs))
  | inr other ↦ rw other (places_of item place asked rs)
]

-- a sum over the rows whose items pass two tests
pub sums_of_rows : {A B : Type 0} (item : A → B) (amount : A → ℕ) (told : B → ℕ) (p q : B → Bool) (rows : List A)
    → AllByRecursion (λ r. amount r ≡ told (item r)) rows
    → sum_by amount (filter (λ r. p (item r) && q (item r)) rows) ≡ sum_by told (filter q (filter p (map item rows)))
sums_of_rows item amount told p q [] each = refl
sums_of_rows {A = A} {B = B} item amount told p q (r ∷ rs) each =
    let rest = sums_of_rows item amount told p q rs each.1 in
    elim (cases_Bool (p (item r))) [
      | inr other ↦ rw other rest
      | inl first ↦ elim (cases_Bool (q (item r))) [
        | inr none ↦ rw (first, none) rest
        | inl second ↦ rw (first, second)
            (sum_by-cons amount r (filter (λ r. p (item r) && q (item r)) rs)
            ∙ (ap (λ n. n + sum_by amount (filter (λ r. p (item r) && q (item r)) rs)) each.0
            ∙ (ap (λ n. told (item r) + n) rest
            ∙ sym (sum_by-cons told (item r) (filter q (filter p (map item rs)))))))
      ]
    ]

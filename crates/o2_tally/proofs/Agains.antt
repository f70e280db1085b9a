-- Items that come again: told as one goes along, they are those that the definition tells.
use Rattle.std.proofs.Common.{◌≡◌, inl, inr, ℕ, Bool, true, false, cond, ◌||◌, not, List, [], ◌∷◌, ◌++◌, map, filter, refl, sym, ◌∙◌, ap}
use Rattle.std.specs.List.{list_any}
use Rattle.std.proofs.Math.Bool.{or_assoc}
use Rattle.std.proofs.lemmas.Bool.{cases_Bool}
use Rattle.std.proofs.lemmas.List.{append_assoc}
use Rattle.std.proofs.lemmas.List.Folds.{list_any-append}
use Rattle.o2_model.specs.Orders.{rising, later_like}
use Rattle.o2_tally.specs.Again.{those_again}
use Rattle.o2_tally.proofs.Sames.{rising_same, any_map, or_turned}

-- ---- step by step
-- What was met decides.
pub same_again : {A : Type 0} (alike : A → A → Bool) (m n : A → Bool) → ((x : A) → m x ≡ n x) → (xs : List A) → those_again alike m xs ≡ those_again alike n xs
same_again alike m n same [] = refl
same_again alike m n same (x ∷ xs) =
    let later = same_again alike (λ y. alike x y || m y) (λ y. alike x y || n y) (λ y. ap (λ b. alike x y || b) (same y)) xs in
    ap (λ b. cond b (x ∷ those_again alike (λ y. alike x y || m y) xs) (those_again alike (λ y. alike x y || m y) xs)) (same x)
    ∙ ap (λ ys. cond (n x) (x ∷ ys) ys) later

-- An item that was met is told.
pub step_met : {A : Type 0} (alike : A → A → Bool) (place : A → ℕ) (met now : A → Bool) (x : A) (xs : List A) (front : List ℕ)
    → met x ≡ true → ((y : A) → now y ≡ (alike x y || met y))
    → (front ++ place x ∷ []) ++ map place (those_again alike now xs) ≡ front ++ map place (those_again alike met (x ∷ xs))
step_met alike place met now x xs front is next =
    rw (is, append_assoc) (ap (λ ys. front ++ place x ∷ map place ys) (same_again alike now (λ y. alike x y || met y) next xs))

-- One that was not is not.
pub step_new : {A : Type 0} (alike : A → A → Bool) (place : A → ℕ) (met now : A → Bool) (x : A) (xs : List A) (front : List ℕ)
    → met x ≡ false → ((y : A) → now y ≡ (alike x y || met y))
    → front ++ map place (those_again alike now xs) ≡ front ++ map place (those_again alike met (x ∷ xs))
step_new alike place met now x xs front is next =
    rw is (ap (λ ys. front ++ map place ys) (same_again alike now (λ y. alike x y || met y) next xs))

-- what is told of a number tells whether it was met
pub was_new : (is_new met : Bool) → is_new ≡ not met → is_new ≡ true → met ≡ false
was_new is_new true told is = cc
was_new is_new false told is = refl

pub was_met : (is_new met : Bool) → is_new ≡ not met → is_new ≡ false → met ≡ true
was_met is_new true told is = refl
was_met is_new false told is = cc

-- ---- the same items
or_shared : (a b c : Bool) → (a || (b || c)) ≡ ((a || b) || (a || c))
or_shared true b c = refl
or_shared false b c = refl

or_regrouped : (a b c d : Bool) → (a || ((b || c) || d)) ≡ ((a || c) || (b || d))
or_regrouped true b c d = refl
or_regrouped false true true d = refl
or_regrouped false true false d = refl
or_regrouped false false c d = refl

any_either : {A : Type 0} (p f g : A → Bool) (xs : List A) → list_any p (filter (λ y. f y || g y) xs) ≡ (list_any p (filter f xs) || list_any p (filter g xs))
any_either p f g [] = refl
any_either p f g (x ∷ xs) = elim (cases_Bool (f x)) [
  | inl first ↦ elim (cases_Bool (g x)) [
    | inl both ↦ rw (first, both, any_either p f g xs) (or_shared (p x) (list_any p (filter f xs)) (list_any p (filter g xs)))
    | inr alone ↦ rw (first, alone, any_either p f g xs) (sym (or_assoc (p x) (list_any p (filter f xs)) (list_any p (filter g xs))))
  ]
  | inr not_first ↦ elim (cases_Bool (g x)) [
    | inl second ↦ rw (not_first, second, any_either p f g xs) (or_turned (p x) (list_any p (filter f xs)) (list_any p (filter g xs)))
    | inr neither ↦ rw (not_first, neither) (any_either p f g xs)
  ]
]

-- A test finds one of those told where it finds one of those met, or one that is like an earlier one.
any_again : {A : Type 0} (alike : A → A → Bool) (p met : A → Bool) (xs : List A)
    → list_any p (those_again alike met xs) ≡ (list_any p (filter met xs) || list_any p (later_like alike xs))
any_again alike p met [] = refl
any_again alike p met (x ∷ xs) =
    let later = any_again alike p (λ y. alike x y || met y) xs ∙ ap (λ b. b || list_any p (later_like alike xs)) (any_either p (alike x) met xs) in
    let joined = list_any-append p (filter (alike x) xs) (later_like alike xs) in
    let regrouped = λ (b : Bool). or_regrouped b (list_any p (filter (alike x) xs)) (list_any p (filter met xs)) (list_any p (later_like alike xs)) in
    elim (cases_Bool (met x)) [
      | inl is ↦ rw (is, later, joined) (regrouped (p x))
      | inr new ↦ rw (new, later, joined) (regrouped false)
    ]

none_met : {A : Type 0} (met : A → Bool) → ((x : A) → met x ≡ false) → (xs : List A) → filter met xs ≡ []
none_met met none [] = refl
none_met met none (x ∷ xs) = rw (none x) (none_met met none xs)

-- Where none was met at first, the places told are those of the definition.
pub told_again : {A : Type 0} (alike : A → A → Bool) (place : A → ℕ) (met : A → Bool) (xs : List A) → ((x : A) → met x ≡ false)
    → rising (map place (those_again alike met xs)) ≡ rising (map place (later_like alike xs))
told_again alike place met xs none =
    rising_same _ _ (λ p.
    any_map place p (those_again alike met xs)
    ∙ (any_again alike (λ x. p (place x)) met xs
    ∙ (ap (λ ys. list_any (λ x. p (place x)) ys || list_any (λ x. p (place x)) (later_like alike xs)) (none_met met none xs)
    ∙ sym (any_map place p (later_like alike xs)))))

-- Entries of a directory, and the names that come again.
use Rattle.std.proofs.Common.{◌≡◌, inl, inr, ℕ, zero, suc, ◌<◌, Bool, true, false, ◌&&◌, ◌||◌, not, List, [], ◌∷◌, ◌++◌, filter, get_or, length, bytes_eq, refl, sym, ◌∙◌, ap, arith}
use Rattle.std.proofs.lemmas.Bool.{cases_Bool}
use Rattle.o2_model.specs.Orders.{later_like, is_none_of}
use Rattle.o2_model.specs.Faults.{those_not}
use Rattle.o2_model.specs.Directories.{is_dot}
use Rattle.o2_model.specs.Checks.DirentName.{is_sound_name}
use Rattle.o2_model.specs.Checks.DirentDup.{are_namesakes}
use Rattle.o2_model.specs.declared.entry.Entry.{Entry}
use Rattle.o2_skeleton.proofs.Tests.{and_true, and_false, none_of_two}

-- ---- sound names
abbrev pub all_sound : List Entry → Bool
all_sound es = is_none_of (those_not (λ e. is_sound_name e.name) es)

-- the entry at this place has no sound name
pub bad_at : (es : List Entry) (i : ℕ) (d : Entry) → i < length es → is_sound_name (get_or es i d).name ≡ false → all_sound es ≡ false
bad_at [] i d low bad = absurd (omega (arith, low))
bad_at (e ∷ es) zero d low bad = rw bad refl
bad_at (e ∷ es) (suc i) d low bad = elim (cases_Bool (is_sound_name e.name)) [
  | inl sound ↦ rw sound (bad_at es i d (omega (arith, low)) bad)
  | inr bad_too ↦ rw bad_too refl
]

-- ---- different names
abbrev named : List Entry → List Entry
named es = filter (λ e. not (is_dot e)) es

abbrev pub differ : List Entry → Bool
differ es = is_none_of (later_like are_namesakes (named es))

-- none of the entries but the dots has a name that was met
abbrev pub are_fresh : (List ℕ → Bool) → List Entry → Bool
are_fresh met es = is_none_of (filter (λ e. met e.name) (named es))

none_met : (met : List ℕ → Bool) → ((n : List ℕ) → met n ≡ false) → (es : List Entry) → is_none_of (filter (λ e. met e.name) es) ≡ true
none_met met none [] = refl
none_met met none (e ∷ es) = rw (none e.name) (none_met met none es)

pub all_fresh : (met : List ℕ → Bool) → ((n : List ℕ) → met n ≡ false) → (es : List Entry) → (differ es && are_fresh met es) ≡ differ es
all_fresh met none es = ap (λ (b : Bool). differ es && b) (none_met met none (named es)) ∙ and_true (differ es)

pub dot_left_out : (met : List ℕ → Bool) (e : Entry) (es : List Entry) → is_dot e ≡ true → (differ (e ∷ es) && are_fresh met (e ∷ es)) ≡ (differ es && are_fresh met es)
dot_left_out met e es dot = rw dot refl

pub met_again : (met : List ℕ → Bool) (e : Entry) (es : List Entry) → is_dot e ≡ false → met e.name ≡ true → (differ (e ∷ es) && are_fresh met (e ∷ es)) ≡ false
met_again met e es other again = rw (other, again) (and_false (is_none_of (filter (are_namesakes e) (named es) ++ later_like are_namesakes (named es))))

-- the three tests in another order
regroup : (a b c : Bool) → ((a && b) && c) ≡ (b && (a && c))
regroup true true c = refl
regroup true false c = refl
regroup false true c = refl
regroup false false c = refl

-- a name is met now exactly if it was before, or is that of the entry
fresh_of_more : (met more : List ℕ → Bool) (e : Entry) → ((n : List ℕ) → more n ≡ (bytes_eq n e.name || met n)) → (es : List Entry)
    → is_none_of (filter (λ f. more f.name) es) ≡ (is_none_of (filter (are_namesakes e) es) && is_none_of (filter (λ f. met f.name) es))
fresh_of_more met more e is [] = refl
fresh_of_more met more e is (f ∷ fs) = elim (cases_Bool (bytes_eq f.name e.name)) [
  | inl same ↦ let now : more f.name ≡ true = is f.name ∙ ap (λ (b : Bool). b || met f.name) same in rw (now, same) refl
  | inr other ↦ let as_before : more f.name ≡ met f.name = is f.name ∙ ap (λ (b : Bool). b || met f.name) other in elim (cases_Bool (met f.name)) [
    | inl again ↦ let now : more f.name ≡ true = as_before ∙ again in rw (now, other, again) (sym (and_false (is_none_of (filter (are_namesakes e) fs))))
    | inr fresh ↦ let now : more f.name ≡ false = as_before ∙ fresh in rw (now, other, fresh) (fresh_of_more met more e is fs)
  ]
]

pub one_met : (met more : List ℕ → Bool) (e : Entry) (es : List Entry) → is_dot e ≡ false → met e.name ≡ false → ((n : List ℕ) → more n ≡ (bytes_eq n e.name || met n))
    → (differ (e ∷ es) && are_fresh met (e ∷ es)) ≡ (differ es && are_fresh more es)
one_met met more e es other fresh is =
    rw (other, fresh)
    (ap (λ (b : Bool). b && is_none_of (filter (λ f. met f.name) (named es))) (none_of_two (filter (are_namesakes e) (named es)) (later_like are_namesakes (named es)))
    ∙ (regroup (is_none_of (filter (are_namesakes e) (named es))) (differ es) (is_none_of (filter (λ f. met f.name) (named es)))
    ∙ ap (λ (b : Bool). differ es && b) (sym (fresh_of_more met more e is (named es)))))

-- what `not` says of the other
pub was_new : (a b : Bool) → a ≡ not b → a ≡ true → b ≡ false
was_new a true is told_so = cc
was_new a false is told_so = refl

pub was_met : (a b : Bool) → a ≡ not b → a ≡ false → b ≡ true
was_met a true is told_so = refl
was_met a false is told_so = cc

-- the same entries, as they were before the first was taken
pub before_taken : (met : List ℕ → Bool) (es rest : List Entry) (e : Entry) → es ≡ e ∷ rest
    → (differ (e ∷ rest) && are_fresh met (e ∷ rest)) ≡ (differ es && are_fresh met es)
before_taken met es rest e is = ap (λ xs. differ xs && are_fresh met xs) (sym is)

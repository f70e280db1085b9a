-- Lists that items give one by one, over rows and over rows within rows.
use Rattle.std.proofs.Common.{◌≡◌, inl, inr, ℕ, Bool, List, [], ◌∷◌, ◌++◌, map, filter, flat_map, if◌then◌else◌, refl, sym, ◌∙◌, ap}
use Rattle.std.specs.List.{AllByRecursion}
use Rattle.std.proofs.lemmas.Bool.{cases_Bool}
use Rattle.std.proofs.lemmas.List.{append_assoc}
use Rattle.std.proofs.lemmas.Grind.{flat_map-append}
use Rattle.std.proofs.lemmas.List.Concat.{flat_map-cons}
use Rattle.o2_model.specs.Faults.{fails_at, fails_unless}

-- what the rows give is what their items give
pub rows_give : {A B C : Type 0} (item : A → B) (f : A → List C) (g : B → List C) (rows : List A) (items : List B)
    → map item rows ≡ items → AllByRecursion (λ r. f r ≡ g (item r)) rows → flat_map f rows ≡ flat_map g items
rows_give {A = A} item f g rows items are each = go rows each ∙ ap (flat_map g) are
  where
    go : (rs : List A) → AllByRecursion (λ r. f r ≡ g (item r)) rs → flat_map f rs ≡ flat_map g (map item rs)
    go [] all = refl
    go (r ∷ rs) all = flat_map-cons f r rs ∙ (rw (all.0, go rs all.1) (sym (flat_map-cons g (item r) (map item rs))))

-- what the items within items give
pub within_give : {A B C : Type 0} (g : B → List C) (h : A → List B) (xs : List A) → flat_map g (flat_map h xs) ≡ flat_map (λ x. flat_map g (h x)) xs
within_give g h [] = refl
within_give g h (x ∷ xs) =
    ap (flat_map g) (flat_map-cons h x xs)
    ∙ (flat_map-append g (h x) (flat_map h xs)
    ∙ (ap (λ ys. flat_map g (h x) ++ ys) (within_give g h xs)
    ∙ sym (flat_map-cons (λ y. flat_map g (h y)) x xs)))

-- what those that pass give
pub passed_give : {A B : Type 0} (test : A → Bool) (g : A → List B) (xs : List A) → flat_map g (filter test xs) ≡ flat_map (λ x. if test x then g x else []) xs
passed_give test g [] = refl
passed_give test g (x ∷ xs) = elim (cases_Bool (test x)) [
  | inl is ↦ rw is (ap (λ ys. g x ++ ys) (passed_give test g xs))
  | inr other ↦ rw other (passed_give test g xs)
]

-- the numbers that lack something, one by one
pub fails_one_by_one : (holds : ℕ → Bool) (ns : List ℕ) → fails_at (λ n. n) holds ns ≡ flat_map (λ n. fails_unless n (holds n)) ns
fails_one_by_one holds [] = refl
fails_one_by_one holds (n ∷ ns) = elim (cases_Bool (holds n)) [
  | inl is ↦ rw is (fails_one_by_one holds ns)
  | inr fails ↦ rw fails (ap (λ ms. n ∷ ms) (fails_one_by_one holds ns))
]

-- ---- lists added one behind the other
pub four_added : {A : Type 0} (first second third fourth start one two three four : List A)
    → start ≡ [] → one ≡ start ++ first → two ≡ one ++ second → three ≡ two ++ third → four ≡ three ++ fourth → four ≡ (first ++ second) ++ (third ++ fourth)
four_added first second third fourth start one two three four s e f g h = rw (h, g, f, e, s) (append_assoc (first ++ second) third fourth)

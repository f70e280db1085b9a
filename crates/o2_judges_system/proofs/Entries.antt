-- Entries, one more at a time, and the three parts of what is told of them.
use Rattle.std.proofs.Common.{◌≡◌, inl, inr, ℕ, ◌+◌, ◌<◌, Bool, true, cond, ◌&&◌, ◌||◌, not, ◌==◌, eq-eqb, List, [], ◌∷◌, ◌++◌, map, filter, length, take, get_or, refl, sym, ◌∙◌, ap, subst}
use Rattle.std.specs.List.{list_any}
use Rattle.std.proofs.lemmas.Bool.{cases_Bool}
use Rattle.std.proofs.lemmas.List.{map-append, take_more}
use Rattle.std.proofs.lemmas.List.Elements.{filter-append}
use Rattle.std.proofs.lemmas.List.Folds.{list_any-append, list_any_at}
use Rattle.o2_model.specs.declared.check.Check.TheVariants as check
use Rattle.o2_model.specs.declared.entry.Entry.{Entry}
use Rattle.o2_model.specs.Directories.{directory_entries, is_dot}
use Rattle.o2_model.specs.Failing.{faults}
use Rattle.o2_model.specs.Faults.{fails_at, fails_unless}
use Rattle.o2_model.specs.Volume.{Volume}
use Rattle.o2_model.specs.Checks.Sysfile.{has_system_files, is_sound_system_entry}
use Rattle.o2_model.specs.Orders.{later_like, rising}
use Rattle.o2_model.specs.Words.{among}
use Rattle.o2_tally.proofs.Sames.{any_map, any_rising, rising_same}
use Rattle.o2_survey.proofs.Members.{any_filter}

-- ---- one more
module _ {A : Type 0} (xs : List A) (i : ℕ) (x : A) (low : i < length xs) (is : x ≡ get_or xs i x) where
  taken : take (i + 1) xs ≡ take i xs ++ x ∷ []
  taken = take_more xs i x low ∙ ap (λ y. take i xs ++ y ∷ []) (sym is)

  pub one_more : {B : Type 0} (f : A → B) (asked : A → Bool) → map f (filter asked (take (i + 1) xs)) ≡ map f (filter asked (take i xs)) ++ cond (asked x) (f x ∷ []) []
  one_more f asked =
      ap (λ ys. map f (filter asked ys)) taken
      ∙ (ap (map f) (filter-append asked (take i xs) (x ∷ []))
      ∙ (map-append f (filter asked (take i xs)) (filter asked (x ∷ []))
      ∙ elim (cases_Bool (asked x)) [
        | inl is_asked ↦ rw is_asked refl
        | inr other ↦ rw other refl
      ]))

  pub one_more_fails : (place : A → ℕ) (asked sound : A → Bool)
      → fails_at place sound (filter asked (take (i + 1) xs)) ≡ fails_at place sound (filter asked (take i xs)) ++ cond (asked x && not (sound x)) (place x ∷ []) []
  one_more_fails place asked sound =
      ap (λ ys. fails_at place sound (filter asked ys)) taken
      ∙ (ap (fails_at place sound) (filter-append asked (take i xs) (x ∷ []))
      ∙ (ap (map place) (filter-append (λ y. not (sound y)) (filter asked (take i xs)) (filter asked (x ∷ [])))
      ∙ (map-append place (filter (λ y. not (sound y)) (filter asked (take i xs))) (filter (λ y. not (sound y)) (filter asked (x ∷ [])))
      ∙ elim (cases_Bool (asked x)) [
        | inl is_asked ↦ elim (cases_Bool (sound x)) [
          | inl good ↦ rw (is_asked, good) refl
          | inr bad ↦ rw (is_asked, bad) refl
        ]
        | inr other ↦ rw other refl
      ])))

  pub is_among : (f : A → ℕ) (asked : A → Bool) → asked x ≡ true → among (map f (filter asked xs)) (f x) ≡ true
  is_among f asked is_asked =
      let here : ((f x == f x) && asked x) ≡ true = rw (eq-eqb (f x) (f x) refl, is_asked) refl in
      any_map f (λ m. f x == m) (filter asked xs)
      ∙ (any_filter asked (λ y. f x == f y) xs
      ∙ list_any_at (λ y. (f x == f y) && asked y) xs i x low (subst (λ y. ((f x == f y) && asked y) ≡ true) is here))

-- ---- what comes again
filter_of_map : {A B : Type 0} (f : A → B) (p : B → Bool) (xs : List A) → filter p (map f xs) ≡ map f (filter (λ x. p (f x)) xs)
filter_of_map f p [] = refl
filter_of_map f p (x ∷ xs) = elim (cases_Bool (p (f x))) [
  | inl is_asked ↦ rw is_asked (ap (λ ys. f x ∷ ys) (filter_of_map f p xs))
  | inr other ↦ rw other (filter_of_map f p xs)
]

pub later_of_map : {A B : Type 0} (f : A → B) (alike : B → B → Bool) (xs : List A) → later_like alike (map f xs) ≡ map f (later_like (λ x y. alike (f x) (f y)) xs)
later_of_map f alike [] = refl
later_of_map f alike (x ∷ xs) =
    rw (filter_of_map f (alike (f x)) xs, later_of_map f alike xs)
    (sym (map-append f (filter (λ y. alike (f x) (f y)) xs) (later_like (λ x y. alike (f x) (f y)) xs)))

map_of_map : {A B C : Type 0} (f : A → B) (g : B → C) (xs : List A) → map g (map f xs) ≡ map (λ x. g (f x)) xs
map_of_map f g [] = refl
map_of_map f g (x ∷ xs) = ap (λ ys. g (f x) ∷ ys) (map_of_map f g xs)

pub later_places : {A B : Type 0} (f : A → B) (place : B → ℕ) (alike : B → B → Bool) (xs : List A) → map place (later_like alike (map f xs)) ≡ map (λ x. place (f x)) (later_like (λ x y. alike (f x) (f y)) xs)
later_places f place alike xs = ap (map place) (later_of_map f alike xs) ∙ map_of_map f place (later_like (λ x y. alike (f x) (f y)) xs)

-- ---- three parts
any_same : (p : ℕ → Bool) (ns ms : List ℕ) → rising ns ≡ rising ms → list_any p ns ≡ list_any p ms
any_same p ns ms same = sym (any_rising p ns) ∙ (ap (list_any p) same ∙ any_rising p ms)

pub last_part : (front third third' : List ℕ) → rising third ≡ rising third' → rising (front ++ third) ≡ rising (front ++ third')
last_part front third third' same =
    rising_same (front ++ third) (front ++ third')
    (λ p. list_any-append p front third ∙ (ap (λ t. list_any p front || t) (any_same p third third' same) ∙ sym (list_any-append p front third')))

-- what is told are the faults of SYSFILE
pub sysfile_parts : (v : Volume) (es : List Entry) (first second third all : List ℕ) → es ≡ directory_entries v v.geo.sysdir
    → first ≡ fails_unless v.geo.sysdir (has_system_files v) → second ≡ fails_at (λ e. e.inode) (is_sound_system_entry v) (filter (λ e. not (is_dot e)) es)
    → rising third ≡ rising (map (λ e. e.inode) (later_like (λ e f. e.inode == f.inode) (filter (λ e. not (is_dot e)) es)))
    → all ≡ (first ++ second) ++ third → rising all ≡ rising (faults v check.Sysfile)
unfolding faults
sysfile_parts v es first second third all are one two three parts =
    let named = λ (xs : List Entry). filter (λ e. not (is_dot e)) xs in
    let again = λ (xs : List Entry). map (λ e. e.inode) (later_like (λ e f. e.inode == f.inode) (named xs)) in
    ap rising parts
    ∙ (last_part (first ++ second) third (again es) three
    ∙ ap rising
    (ap (λ bs. (bs ++ second) ++ again es) one
    ∙ (ap (λ bs. (fails_unless v.geo.sysdir (has_system_files v) ++ bs) ++ again es) two
    ∙ ap (λ xs. (fails_unless v.geo.sysdir (has_system_files v) ++ fails_at (λ e. e.inode) (is_sound_system_entry v) (named xs)) ++ again xs) are)))

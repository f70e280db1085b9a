-- A set of names, with one more.
use Rattle.std.proofs.Common.{◌≡◌, ℕ, Bool, true, false, ◌||◌, not, List, [], ◌∷◌, ◌++◌, filter, bytes_eq, refl, sym, ◌∙◌, ap}
use Rattle.std.specs.Borrow.{Bor}
use Rattle.std.specs.declared.cmp.Ordering.{Ordering}
use Rattle.std.specs.declared.cmp.Ordering.TheVariants.{Less, Equal, Greater}
use Rattle.std.specs.Ordering.{nat_cmp, is_eq, match_ordering}
use Rattle.std.specs.Cmp.Lexicographic.{slice_cmp}
use Rattle.std.specs.List.{list_any}
use Rattle.std.specs.BTreeSet.{insert_key}
use Rattle.std.proofs.lemmas.Map.Text.{is_eq-slice_cmp}
use Rattle.std.proofs.lemmas.Slice.Eq.{bytes_eq-Decides}
use Rattle.o2_model.specs.declared.entry.Entry.{Entry}
use Rattle.o2_model.specs.Directories.{is_dot}
use Rattle.o2_model.specs.Checks.DirentDup.{are_namesakes}
use Rattle.o2_tally.proofs.Agains.{step_met, step_new}
use Rattle.o2_directories.specs.MetNames.{repeats}

-- the order of names in the set
abbrev pub order : Bor (List ℕ) → Bor (List ℕ) → Ordering
order x y = slice_cmp nat_cmp x.now y.now

-- one of these has the name
abbrev pub has : List (Bor (List ℕ)) → List ℕ → Bool
has ks n = list_any (λ (k : Bor (List ℕ)). bytes_eq n k.now) ks

pub has_equal : (ks : List (Bor (List ℕ))) (n : Bor (List ℕ)) → list_any (λ (k : Bor (List ℕ)). is_eq (order n k)) ks ≡ has ks n.now
has_equal [] n = refl
has_equal (k ∷ ks) n = rw (is_eq-slice_cmp n.now k.now, has_equal ks n) refl

equal_names : (x y : List ℕ) → slice_cmp nat_cmp x y ≡ Equal → x ≡ y
equal_names x y same = (bytes_eq-Decides x y).0 (sym (is_eq-slice_cmp x y) ∙ ap is_eq same)

twice : (a b : Bool) → (a || b) ≡ (a || (a || b))
twice true b = refl
twice false b = refl

swap : (a b c : Bool) → (a || (b || c)) ≡ (b || (a || c))
swap true true c = refl
swap true false c = refl
swap false b c = refl

pub has_one_more : (ks : List (Bor (List ℕ))) (k : Bor (List ℕ)) (n : List ℕ) → has (insert_key order ks k) n ≡ (bytes_eq n k.now || has ks n)
has_one_more [] k n = refl
has_one_more (x ∷ xs) k n = by (order k x) (has_one_more xs k n) (λ same. equal_names k.now x.now same)
  where
    by : (r : Ordering) → has (insert_key order xs k) n ≡ (bytes_eq n k.now || has xs n) → (r ≡ Equal → k.now ≡ x.now)
        → has (match_ordering r (k ∷ x ∷ xs) (x ∷ xs) (x ∷ insert_key order xs k)) n ≡ (bytes_eq n k.now || (bytes_eq n x.now || has xs n))
    by Less later same = refl
    by Equal later same = rw (same refl) (twice (bytes_eq n x.now) (has xs n))
    by Greater later same = rw later (swap (bytes_eq n x.now) (bytes_eq n k.now) (has xs n))

-- ---- one entry
pub dot_left : (met : List ℕ → Bool) (e : Entry) (es : List Entry) (front : List ℕ) → is_dot e ≡ true → front ++ repeats met es ≡ front ++ repeats met (e ∷ es)
dot_left met e es front dot = rw dot refl

pub name_new : (met now : List ℕ → Bool) (e : Entry) (es : List Entry) (front : List ℕ) → is_dot e ≡ false → met e.name ≡ false
    → ((n : List ℕ) → now n ≡ (bytes_eq n e.name || met n)) → front ++ repeats now es ≡ front ++ repeats met (e ∷ es)
name_new met now e es front other new next =
    rw other (step_new are_namesakes (λ x. x.block) (λ x. met x.name) (λ x. now x.name) e (filter (λ x. not (is_dot x)) es) front new (λ y. next y.name))

pub name_met : (met now : List ℕ → Bool) (e : Entry) (es : List Entry) (front : List ℕ) → is_dot e ≡ false → met e.name ≡ true
    → ((n : List ℕ) → now n ≡ (bytes_eq n e.name || met n)) → (front ++ e.block ∷ []) ++ repeats now es ≡ front ++ repeats met (e ∷ es)
name_met met now e es front other is next =
    rw other (step_met are_namesakes (λ x. x.block) (λ x. met x.name) (λ x. now x.name) e (filter (λ x. not (is_dot x)) es) front is (λ y. next y.name))

-- A map from names, with one name more.
use Rattle.std.proofs.Common.{◌≡◌, ℕ, Bool, true, false, cond, List, [], ◌∷◌, bytes_eq, refl, sym, ◌∙◌, ap, Option, Some}
use Rattle.std.specs.declared.cmp.Ordering.{Ordering}
use Rattle.std.specs.declared.cmp.Ordering.TheVariants.{Less, Equal, Greater}
use Rattle.std.specs.Ordering.{nat_cmp, is_eq, match_ordering}
use Rattle.std.specs.Cmp.Lexicographic.{slice_cmp}
use Rattle.std.specs.Global.{Vec}
use Rattle.std.specs.Map.{lookup}
use Rattle.std.specs.BTreeMap.{insert_entry}
use Rattle.std.proofs.lemmas.Bool.{false≢true}
use Rattle.std.proofs.lemmas.Cmp.{nat_list_eq_equiv}
use Rattle.std.proofs.lemmas.Map.Text.{is_eq-slice_cmp}
use Rattle.std.proofs.lemmas.Slice.Eq.{bytes_eq-Decides}

-- the order of names in the map
abbrev pub order : Vec ℕ → Vec ℕ → Ordering
order x y = slice_cmp nat_cmp x.items y.items

-- what the entries of the map have at the name
abbrev pub at : List (Vec ℕ × ℕ) → List ℕ → Option ℕ
at es name = lookup (λ (key : Vec ℕ). bytes_eq name key.items) es

-- a look-up by the order of names
pub by_order : (es : List (Vec ℕ × ℕ)) (name : List ℕ) → lookup (λ (key : Vec ℕ). is_eq (slice_cmp nat_cmp name key.items)) es ≡ at es name
by_order [] name = refl
by_order (e ∷ es) name = rw (is_eq-slice_cmp name e.0.items, by_order es name) refl

pub equal_names : (x y : List ℕ) → bytes_eq x y ≡ true → x ≡ y
equal_names x y same = (bytes_eq-Decides x y).0 same

pub same_names : (x y : List ℕ) → x ≡ y → bytes_eq x y ≡ true
same_names x y same = (bytes_eq-Decides x y).1 same

turned : (x y : List ℕ) → bytes_eq x y ≡ bytes_eq y x
turned x y = nat_list_eq_equiv.symm x y

-- two tests of which at most one holds, in another order
swap : {A : Type 0} (a b : Bool) (p q r : A) → (a ≡ true → b ≡ true → ⊥) → cond a p (cond b q r) ≡ cond b q (cond a p r)
swap true true p q r apart = absurd (apart refl refl)
swap true false p q r apart = refl
swap false b p q r apart = refl

twice : {A : Type 0} (a : Bool) (p q r : A) → cond a p r ≡ cond a p (cond a q r)
twice true p q r = refl
twice false p q r = refl

one_more : (es : List (Vec ℕ × ℕ)) (key : Vec ℕ) (x : ℕ) (name : List ℕ) → at (insert_entry order es key x) name ≡ cond (bytes_eq name key.items) (Some x) (at es name)
one_more [] key x name = refl
one_more (e ∷ es) key x name = by (order key e.0) refl (one_more es key x name)
  where
    same_as : order key e.0 ≡ Equal → key.items ≡ e.0.items
    same_as is = equal_names key.items e.0.items (sym (is_eq-slice_cmp key.items e.0.items) ∙ ap is_eq is)

    apart : order key e.0 ≡ Greater → bytes_eq name e.0.items ≡ true → bytes_eq name key.items ≡ true → ⊥
    apart is first second =
        let same = sym (equal_names name key.items second) ∙ equal_names name e.0.items first in
        false≢true (sym (ap is_eq is) ∙ (is_eq-slice_cmp key.items e.0.items ∙ same_names key.items e.0.items same))

    by : (r : Ordering) → order key e.0 ≡ r → at (insert_entry order es key x) name ≡ cond (bytes_eq name key.items) (Some x) (at es name)
        → at (match_ordering r ((key, x) ∷ e ∷ es) ((e.0, x) ∷ es) (e ∷ insert_entry order es key x)) name ≡ cond (bytes_eq name key.items) (Some x) (at (e ∷ es) name)
    by Less is later = refl
    by Equal is later = rw (same_as is) (twice (bytes_eq name e.0.items) (Some x) (Some e.1) (at es name))
    by Greater is later = rw later (swap (bytes_eq name e.0.items) (bytes_eq name key.items) (Some e.1) (Some x) (at es name) (apart is))

pub at_one_more : (es : List (Vec ℕ × ℕ)) (key : Vec ℕ) (x : ℕ) (name : List ℕ) → at (insert_entry order es key x) name ≡ cond (bytes_eq key.items name) (Some x) (at es name)
at_one_more es key x name =
    one_more es key x name ∙ ap (λ same. cond same (Some x) (at es name)) (turned name key.items)

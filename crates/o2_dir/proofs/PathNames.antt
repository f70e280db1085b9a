-- Names joined by slashes, byte by byte.
use Rattle.std.proofs.Common.{◌≡◌, ◌≢◌, inl, inr, ℕ, ◌+◌, ◌<◌, ◌≤◌, List, [], ◌∷◌, ◌++◌, length, drop, get_or, Bool, true, false, refl, sym, ◌∙◌, ap, subst, ◌⊎◌}
use Rattle.std.specs.Prelude.{◌==◌, ◌&&◌, not, if◌then◌else◌}
use Rattle.std.specs.List.{list_all, join_with_byte}
use Rattle.std.specs.Cmp.Derive.{both_true}
use Rattle.std.proofs.lemmas.Bool.{cases_Bool, eqb-true}
use Rattle.std.proofs.lemmas.List.{append-nil, drop_more, drop_all}
use Rattle.o2_dir.specs.PathTexts.{is_of_name, is_name, AreJoinedNames, IsPath}

-- whether these bytes go on with names, where one is due or was begun
abbrev pub goes_on : Bool → List ℕ → Bool
goes_on due [] = not due
goes_on due (b ∷ bs) = if b == 47 then (if due then false else goes_on true bs) else goes_on false bs

-- The rest of the first name, and the names behind it. Where a name is due, the first is whole.
record Going (due : Bool) (text : List ℕ) : Type 0 where
  first : List ℕ
  names : List (List ℕ)
  plain : list_all is_of_name first ≡ true
  whole : due ≡ true → first ≢ []
  are_names : list_all is_name names ≡ true
  form : text ≡ join_with_byte 47 (first ∷ names)

-- one byte more before the first name
longer : (b : ℕ) (first : List ℕ) (names : List (List ℕ)) → b ∷ join_with_byte 47 (first ∷ names) ≡ join_with_byte 47 ((b ∷ first) ∷ names)
longer b first [] = refl
longer b first (n ∷ names) = refl

-- a whole name is a name
name_of : (first : List ℕ) → list_all is_of_name first ≡ true → first ≢ [] → is_name first ≡ true
name_of [] plain some = absurd (some refl)
name_of (b ∷ bs) plain some = plain

read : (due : Bool) (text : List ℕ) → goes_on due text ≡ true → Going due text
read true [] goes = absurd (let none : ⊥ = cc in none)
read false [] goes = record { first = []; names = []; plain = refl; whole = λ e. absurd (let none : ⊥ = cc in none); are_names = refl; form = refl }
read due (b ∷ bs) goes = elim (cases_Bool (b == 47)) [
  | inl slash ↦ elim (cases_Bool due) [
    | inl is_due ↦ absurd (let none : false ≡ true = rw (slash, is_due) at goes in cc none)
    | inr begun ↦
        let more = read true bs (rw (slash, begun) at goes) in
        record {
          first = [];
          names = more.first ∷ more.names;
          plain = refl;
          whole = λ e. absurd (let none : ⊥ = cc in none);
          are_names = both_true (name_of more.first more.plain (more.whole refl)) more.are_names;
          form = ap (λ (c : ℕ). c ∷ bs) (eqb-true b 47 slash) ∙ ap (λ (t : List ℕ). 47 ∷ t) more.form;
        }
  ]
  | inr other ↦
      let more = read false bs (rw other at goes) in
      record {
        first = b ∷ more.first;
        names = more.names;
        plain = both_true (ap not other) more.plain;
        whole = λ e same. cc same;
        are_names = more.are_names;
        form = ap (λ (t : List ℕ). b ∷ t) more.form ∙ longer b more.first more.names;
      }
]

-- bytes that go on with names are joined names
pub are_joined : (text : List ℕ) → goes_on true text ≡ true → AreJoinedNames text
are_joined text goes =
    let all = read true text goes in
    record {
      names = all.first ∷ all.names;
      some = λ e. (cc e);
      are_names = both_true (name_of all.first all.plain (all.whole refl)) all.are_names;
      form = all.form;
    }

pub left_of : (x y : Bool) → (x && y) ≡ true → x ≡ true
left_of true y both = refl
left_of false y both = both

pub right_of : (x y : Bool) → (x && y) ≡ true → y ≡ true
right_of true y both = both
right_of false y both = absurd (let none : ⊥ = cc both in none)

-- no slash
pub is_other : (b : ℕ) → is_of_name b ≡ true → (b == 47) ≡ false
is_other b plain = elim (cases_Bool (b == 47)) [
  | inl slash ↦ absurd (let none : ⊥ = (let same : false ≡ true = rw slash at plain in cc same) in none)
  | inr other ↦ other
]

-- within a name, and behind it
within_name : (name rest : List ℕ) → list_all is_of_name name ≡ true → goes_on false (name ++ rest) ≡ goes_on false rest
within_name [] rest plain = refl
within_name (b ∷ bs) rest plain =
    let other = is_other b (left_of (is_of_name b) (list_all is_of_name bs) plain) in
    rw other (within_name bs rest (right_of (is_of_name b) (list_all is_of_name bs) plain))

over_name : (name rest : List ℕ) → is_name name ≡ true → goes_on true (name ++ rest) ≡ goes_on false rest
over_name [] rest is = absurd (let none : ⊥ = cc is in none)
over_name (b ∷ bs) rest is =
    let other = is_other b (left_of (is_of_name b) (list_all is_of_name bs) is) in
    rw other (within_name bs rest (right_of (is_of_name b) (list_all is_of_name bs) is))

-- joined names go on
names_go_on : (names : List (List ℕ)) → names ≢ [] → list_all is_name names ≡ true → goes_on true (join_with_byte 47 names) ≡ true
names_go_on [] some are = absurd (some refl)
names_go_on (n ∷ []) some are =
    ap (goes_on true) (sym (append-nil n)) ∙ over_name n [] (left_of (is_name n) true are)
names_go_on (n ∷ m ∷ ns) some are =
    over_name n (47 ∷ join_with_byte 47 (m ∷ ns)) (left_of (is_name n) (list_all is_name (m ∷ ns)) are)
    ∙ names_go_on (m ∷ ns) (λ e. (cc e)) (right_of (is_name n) (list_all is_name (m ∷ ns)) are)

pub joined_go_on : (text : List ℕ) → AreJoinedNames text → goes_on true text ≡ true
joined_go_on text joined = ap (goes_on true) joined.form ∙ names_go_on joined.names joined.some joined.are_names

-- ---- as the loop sees them
-- a slash where a name is due
pub no_names : (text : List ℕ) (i : ℕ) (due : Bool) → i < length text → get_or text i 0 ≡ 47 → due ≡ true → goes_on true text ≡ goes_on due (drop i text) → AreJoinedNames text → ⊥
no_names text i due inside slash is_due so_far joined =
    let here : drop i text ≡ 47 ∷ drop (i + 1) text = drop_more text i 0 inside ∙ ap (λ (b : ℕ). b ∷ drop (i + 1) text) slash in
    let fails : goes_on due (drop i text) ≡ false = rw (here, is_due) refl in
    cc (joined_go_on text joined, so_far, fails)

-- the end
pub at_end : (text : List ℕ) (i : ℕ) (due : Bool) → length text ≤ i → goes_on true text ≡ goes_on due (drop i text) → goes_on true text ≡ not due
at_end text i due past so_far = so_far ∙ ap (goes_on due) (drop_all i text past)

-- ---- paths
-- what may follow the beginning of a path
abbrev pub MayFollow : List ℕ → Type 0
MayFollow rest = (rest ≡ []) ⊎ AreJoinedNames rest

-- no names begin with a slash
no_slash_first : (rest : List ℕ) → MayFollow (47 ∷ rest) → ⊥
no_slash_first rest (inl none) = cc none
no_slash_first rest (inr joined) = let none : false ≡ true = joined_go_on (47 ∷ rest) joined in cc none

-- a text with one slash at its front
pub with_root : (text rest : List ℕ) → text ≡ 47 ∷ rest → MayFollow rest → IsPath text
with_root text rest is names = record { start = 47 ∷ []; rest = rest; is_start = inl refl; names = names; form = is }

pub behind_root : (text rest : List ℕ) → text ≡ 47 ∷ rest → ((more : List ℕ) → rest ≢ 47 ∷ more) → IsPath text → MayFollow rest
behind_root text rest is other path = elim path.is_start [
  | inl root ↦
      let same : path.rest ≡ rest = (let e = path.form in cc (e, root, is)) in
      subst MayFollow same path.names
  | inr system ↦ absurd (other path.rest (let e = path.form in cc (e, system, is)))
]

-- a text with two
pub with_system : (text rest names : List ℕ) → text ≡ 47 ∷ rest → rest ≡ 47 ∷ names → MayFollow names → IsPath text
with_system text rest names is more follow = record {
  start = 47 ∷ 47 ∷ [];
  rest = names;
  is_start = inr refl;
  names = follow;
  form = is ∙ ap (λ (t : List ℕ). 47 ∷ t) more;
}

pub behind_system : (text rest names : List ℕ) → text ≡ 47 ∷ rest → rest ≡ 47 ∷ names → IsPath text → MayFollow names
behind_system text rest names is more path = elim path.is_start [
  | inl root ↦
      let same : path.rest ≡ 47 ∷ names = (let e = path.form in cc (e, root, is, more)) in
      absurd (no_slash_first names (subst MayFollow same path.names))
  | inr system ↦
      let same : path.rest ≡ names = (let e = path.form in cc (e, system, is, more)) in
      subst MayFollow same path.names
]

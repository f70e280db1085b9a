-- Of groups that are apart, at most one has a block.
use Rattle.std.proofs.Common.{◌≡◌, inl, inr, ℕ, Bool, true, false, ◌&&◌, List, [], ◌∷◌, find, refl, sym, ◌∙◌, Some, None}
use Rattle.std.specs.List.{AllByRecursion, list_any}
use Rattle.std.proofs.lemmas.Bool.{cases_Bool, or_left, or_right, false≢true}
use Rattle.o2_model.specs.declared.allocator.Group.{Group}
use Rattle.o2_judges_alloc.specs.ApartGroups.{holds_block, AreApart}

-- ---- tests over a list
-- an item passes, and what it passes is passed by one of the list
pub record Passes {A : Type 0} (test : A → Bool) (xs : List A) : Type 0 where
  pub item : A
  pub is : test item ≡ true
  pub any : (other : A → Bool) → other item ≡ true → list_any other xs ≡ true

pub one_passes : {A : Type 0} (test : A → Bool) (xs : List A) → list_any test xs ≡ true → Passes test xs
one_passes test [] h = absurd (false≢true h)
one_passes test (x ∷ xs) h = elim (cases_Bool (test x)) [
  | inl here ↦ record { item = x; is = here; any = λ other passes. or_left (other x) (list_any other xs) passes }
  | inr not ↦
      let later = one_passes test xs (let e = rw not at h in e) in
      record { item = later.item; is = later.is; any = λ other passes. or_right (other x) (list_any other xs) (later.any other passes) }
]

-- what passes one test passes the other
pub any_too : {A : Type 0} (test other : A → Bool) → ((x : A) → test x ≡ true → other x ≡ true) → (xs : List A) → list_any test xs ≡ true → list_any other xs ≡ true
any_too test other so xs h = let one = one_passes test xs h in one.any other (so one.item one.is)

-- what holds of each item holds of one that passes
pub any_both : {A : Type 0} (test other : A → Bool) (xs : List A) → AllByRecursion (λ x. test x ≡ true → other x ≡ true) xs → list_any test xs ≡ true → list_any (λ x. test x && other x) xs ≡ true
any_both test other [] all h = h
any_both test other (x ∷ xs) all h = elim (cases_Bool (test x)) [
  | inl here ↦ rw (here, all.0 here) refl
  | inr not ↦ rw not (any_both test other xs all.1 (let e = rw not at h in e))
]

pub none_found : {A : Type 0} (test : A → Bool) (xs : List A) → list_any test xs ≡ false → find test xs ≡ None
none_found test [] h = refl
none_found test (x ∷ xs) h = elim (cases_Bool (test x)) [
  | inl here ↦ absurd (false≢true (sym h ∙ or_left (test x) (list_any test xs) here))
  | inr not ↦ rw not (none_found test xs (let e = rw not at h in e))
]

-- ---- groups that are apart
-- the first that passes one test of a block passes the other too, if a group does
pub record IsOne (test other : Group → Bool) (gs : List Group) : Type 0 where
  pub group : Group
  pub found : find test gs ≡ Some group
  pub is : test group ≡ true
  pub too : other group ≡ true

pub one_group : (b : ℕ) (test other : Group → Bool) → ((g : Group) → test g ≡ true → holds_block b g ≡ true) → ((g : Group) → other g ≡ true → holds_block b g ≡ true)
    → (gs : List Group) → AreApart gs → list_any test gs ≡ true → list_any other gs ≡ true → IsOne test other gs
one_group b test other holds also [] apart some one = absurd (false≢true some)
one_group b test other holds also (g ∷ gs) apart some one = elim (cases_Bool (test g)) [
  | inl here ↦ elim (cases_Bool (other g)) [
    | inl too ↦ record { group = g; found = rw here refl; is = here; too = too }
    | inr not ↦
        let later : list_any other gs ≡ true = (let e = rw not at one in e) in
        absurd (false≢true (sym (apart.0 b (holds g here)) ∙ any_too other (holds_block b) also gs later))
  ]
  | inr not ↦
      let later : list_any test gs ≡ true = (let e = rw not at some in e) in
      elim (cases_Bool (other g)) [
        | inl too ↦ absurd (false≢true (sym (apart.0 b (also g too)) ∙ any_too test (holds_block b) holds gs later))
        | inr neither ↦
            let rest = one_group b test other holds also gs apart.1 later (let e = rw neither at one in e) in
            record { group = rest.group; found = rw not rest.found; is = rest.is; too = rest.too }
      ]
]

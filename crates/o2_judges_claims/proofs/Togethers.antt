-- What the uses of a cluster are together decides for each of them.
use Rattle.std.proofs.Common.{◌≡◌, inl, inr, ℕ, suc, Bool, true, false, ◌&&◌, ◌||◌, not, ◌==◌, List, [], ◌∷◌, length, fold, Option, Some, None, refl, sym, ◌∙◌, ap, arith}
use Rattle.std.specs.List.{list_all, Contains}
use Rattle.std.proofs.lemmas.Bool.{eqb-true, eq-eqb}
use Rattle.std.proofs.lemmas.Bool.Decides.{nat_tests}
use Rattle.o2_model.specs.Orders.{is_none_of}
use Rattle.o2_judges_claims.specs.declared.sharers.Sharer.{Sharer}
use Rattle.o2_judges_claims.specs.declared.sharers.Sharer.TheVariants.{Inode, Tree}
use Rattle.o2_judges_claims.specs.declared.sharers.PlacedUse.{PlacedUse}
use Rattle.o2_judges_claims.specs.declared.sharers.Together.{Together}
use Rattle.o2_judges_claims.specs.Uses.{is_same, with_use, is_good}
use Rattle.o2_judges_claims.proofs.Members.{contains_first, contains_later, contains_cases}

-- ---- tests
pub both_ways : (a b : Bool) → (a ≡ true → b ≡ true) → (b ≡ true → a ≡ true) → a ≡ b
both_ways true b f g = sym (f refl)
both_ways false true f g = g refl
both_ways false false f g = refl

pub and_first : (a b : Bool) → (a && b) ≡ true → a ≡ true
and_first true b h = refl
and_first false b h = h

pub and_second : (a b : Bool) → (a && b) ≡ true → b ≡ true
and_second true b h = h
and_second false b h = cc

pub and_both : (a b : Bool) → a ≡ true → b ≡ true → (a && b) ≡ true
and_both a b p q = rw (p, q) refl

pub all_of : {A : Type 0} (p : A → Bool) (xs : List A) → ((z : A) → Contains xs z → p z ≡ true) → list_all p xs ≡ true
all_of p [] each = refl
all_of p (x ∷ xs) each = and_both (p x) (list_all p xs) (each x (contains_first x xs)) (all_of p xs (λ z is. each z (contains_later x z xs is)))

pub one_of : {A : Type 0} (p : A → Bool) (xs : List A) (z : A) → list_all p xs ≡ true → Contains xs z → p z ≡ true
one_of p [] z all is = absurd (omega (arith, is.1))
one_of p (x ∷ xs) z all is = elim (contains_cases x z xs is) [
  | inl here ↦ ap p (sym here) ∙ and_first (p x) (list_all p xs) all
  | inr there ↦ one_of p xs z (and_second (p x) (list_all p xs) all) there
]

-- ---- sharers
same_is : (a b : Sharer) → is_same a b ≡ true → a ≡ b
same_is (Inode a) (Inode b) h = ap Inode (eqb-true a b h)
same_is (Inode a) (Tree b) h = cc
same_is (Tree a) (Inode b) h = cc
same_is (Tree a) (Tree b) h = ap Tree (eqb-true a b h)

same_self : (a : Sharer) → is_same a a ≡ true
same_self (Inode a) = eq-eqb a a refl
same_self (Tree a) = eq-eqb a a refl

-- ---- the uses of one cluster
-- a use by this sharer that is refcounted
abbrev pub is_like : Sharer → PlacedUse → Bool
is_like by w = w.is_shared && is_same by w.by

-- both are refcounted, by the same sharer
abbrev pub may : PlacedUse → PlacedUse → Bool
may u w = u.is_shared && w.is_shared && is_same u.by w.by

abbrev pub all_together : List PlacedUse → Option Together
all_together us = fold (λ s x. Some (with_use s x)) None us

regroup : (a b c d : Bool) → ((a && b && c) && d) ≡ (a && ((b && c) && d))
regroup true true c d = refl
regroup true false c d = refl
regroup false b c d = refl

or_false : (a : Bool) → a ≡ (a || false)
or_false true = refl
or_false false = refl

or_true : (a : Bool) → true ≡ (a || true)
or_true true = refl
or_true false = refl

and_true : (a : Bool) → a ≡ (a && true)
and_true true = refl
and_true false = refl

pub together_is : (t : Together) (xs : List PlacedUse)
    → fold (λ s x. Some (with_use s x)) (Some t) xs ≡ Some (record { are_several = t.are_several || not (is_none_of xs); may_share = t.may_share && list_all (is_like t.by) xs; by = t.by })
together_is t [] =
    ap (λ a. Some (record { are_several = a; may_share = t.may_share; by = t.by })) (or_false t.are_several)
    ∙ ap (λ a. Some (record { are_several = t.are_several || false; may_share = a; by = t.by })) (and_true t.may_share)
together_is t (x ∷ xs) =
    together_is (with_use (Some t) x) xs
    ∙ (ap (λ a. Some (record { are_several = true; may_share = a; by = t.by })) (regroup t.may_share x.is_shared (is_same t.by x.by) (list_all (is_like t.by) xs))
    ∙ ap (λ a. Some (record { are_several = a; may_share = t.may_share && list_all (is_like t.by) (x ∷ xs); by = t.by })) (or_true t.are_several))

-- whatever use of several is asked, the answer is the same
several : (x : PlacedUse) (xs : List PlacedUse) (u : PlacedUse) → Contains (x ∷ xs) u → (x.is_shared && list_all (is_like x.by) xs) ≡ list_all (may u) (x ∷ xs)
several x xs u is = both_ways _ _ forth back
  where
    like_first : (x.is_shared && list_all (is_like x.by) xs) ≡ true → (z : PlacedUse) → Contains (x ∷ xs) z → (z.is_shared ≡ true) × (x.by ≡ z.by)
    like_first h z in_it = elim (contains_cases x z xs in_it) [
      | inl here ↦ (ap (λ (y : PlacedUse). y.is_shared) (sym here) ∙ and_first x.is_shared (list_all (is_like x.by) xs) h, ap (λ (y : PlacedUse). y.by) here)
      | inr there ↦
          let like = one_of (is_like x.by) xs z (and_second x.is_shared (list_all (is_like x.by) xs) h) there in
          (and_first z.is_shared (is_same x.by z.by) like, same_is x.by z.by (and_second z.is_shared (is_same x.by z.by) like))
    ]

    forth : (x.is_shared && list_all (is_like x.by) xs) ≡ true → list_all (may u) (x ∷ xs) ≡ true
    forth h = all_of (may u) (x ∷ xs) (λ z in_it.
        let of_u = like_first h u is in
        let of_z = like_first h z in_it in
        and_both (u.is_shared && z.is_shared) (is_same u.by z.by) (and_both u.is_shared z.is_shared of_u.0 of_z.0) (ap (λ b. is_same u.by b) (sym of_z.1 ∙ of_u.1) ∙ same_self u.by))

    back : list_all (may u) (x ∷ xs) ≡ true → (x.is_shared && list_all (is_like x.by) xs) ≡ true
    back h =
        let of_z = λ (z : PlacedUse) (in_it : Contains (x ∷ xs) z). one_of (may u) (x ∷ xs) z h in_it in
        let shared = λ (z : PlacedUse) (in_it : Contains (x ∷ xs) z). and_second u.is_shared z.is_shared (and_first (u.is_shared && z.is_shared) (is_same u.by z.by) (of_z z in_it)) in
        let by = λ (z : PlacedUse) (in_it : Contains (x ∷ xs) z). same_is u.by z.by (and_second (u.is_shared && z.is_shared) (is_same u.by z.by) (of_z z in_it)) in
        and_both x.is_shared (list_all (is_like x.by) xs) (shared x (contains_first x xs)) (all_of (is_like x.by) xs (λ z there.
        let later = contains_later x z xs there in
        and_both z.is_shared (is_same x.by z.by) (shared z later) (ap (λ b. is_same x.by b) (sym (by z later) ∙ by x (contains_first x xs)) ∙ same_self x.by)))

more_than_one : (n : ℕ) → (suc (suc n) == 1) ≡ false
more_than_one n = grind (arith, nat_tests)

-- What the uses are together is good exactly if one of them, whichever it is, is the only one or may share with all.
pub good_is : (us : List PlacedUse) (u : PlacedUse) → Contains us u → (t : Together) → all_together us ≡ Some t → is_good t ≡ (length us == 1 || list_all (may u) us)
good_is [] u is t h = absurd (omega (arith, is.1))
good_is (x ∷ []) u is t h = let e : with_use None x ≡ t = cc in ap is_good (sym e)
good_is (x ∷ y ∷ ys) u is t h =
    let e : Some (record { are_several = true; may_share = x.is_shared && list_all (is_like x.by) (y ∷ ys); by = x.by }) ≡ Some t = sym (together_is (with_use None x) (y ∷ ys)) ∙ h in
    let same : record { are_several = true; may_share = x.is_shared && list_all (is_like x.by) (y ∷ ys); by = x.by } ≡ t = cc in
    ap is_good (sym same) ∙ (several x (y ∷ ys) u is ∙ ap (λ b. b || list_all (may u) (x ∷ y ∷ ys)) (sym (more_than_one (length ys))))

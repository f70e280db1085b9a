-- The pieces of a plan over what an overlay has.
use Rattle.std.proofs.Common.{◌≡◌, inl, inr, ℕ, suc, Bool, true, false, ◌||◌, cond, List, [], ◌∷◌, length, refl, sym, ◌∙◌, ap, subst, arith, Option, Some, None, Less}
use Rattle.std.proofs.lemmas.Bool.{cases_eq}
use Rattle.std.proofs.lemmas.Bool.Decides.{nat_tests}
use Rattle.std.proofs.lemmas.Grind.{common_steps}
use Rattle.std.specs.BTreeMap.{is_at}
use Rattle.std.specs.List.Sorted.{IsStrictlySortedBy}
use Rattle.std.specs.Map.{keys_of, values_of, lookup}
use Rattle.std.specs.Ordering.{nat_cmp}
use Rattle.std.specs.Option.{option_or}
use Rattle.std.specs.Prelude.{◌≢◌, ◌==◌, All, fold}
use Rattle.std.specs.List.{AllByRecursion}
use Rattle.o2_view.specs.Plans.{Planned, AreWhole, home_at, fresh_at, is_in_run, is_in_runs, last_of, zero_block, planned_at}

-- ---- what a loop keeps
-- Of these blocks the last ones are still to be laid: over what the overlay has now, they give what all give over what it had.
pub record AreLaid (blocks rest : List (ℕ × List ℕ)) (old now : Planned) : Type 0 where
  pub same : (size b : ℕ) → option_or (last_of rest b) (planned_at size now b) ≡ option_or (last_of blocks b) (planned_at size old b)
  pub none : (b : ℕ) → last_of blocks b ≡ None → last_of rest b ≡ None
  pub left : (size : ℕ) → All (λ bytes. length bytes ≡ size) (values_of blocks) → All (λ bytes. length bytes ≡ size) (values_of rest)
  pub whole : (size : ℕ) → All (λ bytes. length bytes ≡ size) (values_of blocks) → AreWhole size old → AreWhole size now

-- the same of runs of zeros
pub record AreCleared (runs rest : List (ℕ × ℕ)) (old now : Planned) : Type 0 where
  pub same : (size b : ℕ) → cond (is_in_runs rest b) (Some (zero_block size)) (planned_at size now b) ≡ cond (is_in_runs runs b) (Some (zero_block size)) (planned_at size old b)
  pub none : (b : ℕ) → is_in_runs runs b ≡ false → is_in_runs rest b ≡ false
  pub whole : (size : ℕ) → AreWhole size old → AreWhole size now

some_none : {A : Type 0} {x : A} → Some x ≡ None → ⊥
some_none e = cc

true_false : true ≡ false → ⊥
true_false e = cc

-- ---- the last block of a number, from the first on
last_from : (es : List (ℕ × List ℕ)) (b : ℕ) (found : Option (List ℕ)) → fold (λ found e. cond (e.0 == b) (Some e.1) found) found es ≡ option_or (last_of es b) found
last_from [] b found = refl
last_from (e ∷ es) b found =
    last_from es b (cond (e.0 == b) (Some e.1) found)
    ∙ (joined (e.0 == b) (last_of es b) ∙ ap (λ first. option_or first found) (sym (last_from es b (cond (e.0 == b) (Some e.1) None))))
  where
    joined : (here : Bool) (later : Option (List ℕ)) → option_or later (cond here (Some e.1) found) ≡ option_or (option_or later (cond here (Some e.1) None)) found
    joined true None = refl
    joined false None = refl
    joined here (Some x) = refl

-- one block is laid
block_laid : (e : ℕ × List ℕ) (rest : List (ℕ × List ℕ)) (b : ℕ) (now new : Option (List ℕ)) → (b ≡ e.0 → new ≡ Some e.1) → (b ≢ e.0 → new ≡ now)
    → option_or (last_of rest b) new ≡ option_or (last_of (e ∷ rest) b) now
block_laid e rest b now new here other =
    elim (cases_eq b e.0) [
      | inl same ↦
          let test : (e.0 == b) ≡ true = grind (arith, nat_tests) in
          over (last_of rest b) (here same) (last_from rest b (cond (e.0 == b) (Some e.1) None) ∙ ap (λ t. option_or (last_of rest b) (cond t (Some e.1) None)) test)
      | inr apart ↦
          let test : (e.0 == b) ≡ false = is_other apart in
          ap (option_or (last_of rest b)) (other apart)
          ∙ under (last_of rest b) (last_from rest b (cond (e.0 == b) (Some e.1) None) ∙ ap (λ t. option_or (last_of rest b) (cond t (Some e.1) None)) test)
    ]
  where
    is_other : b ≢ e.0 → (e.0 == b) ≡ false
    is_other apart = grind (arith, nat_tests)

    over : (later : Option (List ℕ)) → new ≡ Some e.1 → last_of (e ∷ rest) b ≡ option_or later (Some e.1) → option_or later new ≡ option_or (last_of (e ∷ rest) b) now
    over None is all = rw (is, all) refl
    over (Some x) is all = rw all refl

    under : (later : Option (List ℕ)) → last_of (e ∷ rest) b ≡ option_or later None → option_or later now ≡ option_or (last_of (e ∷ rest) b) now
    under None all = rw all refl
    under (Some x) all = rw all refl

none_left : (e : ℕ × List ℕ) (rest : List (ℕ × List ℕ)) (b : ℕ) → last_of (e ∷ rest) b ≡ None → last_of rest b ≡ None
none_left e rest b none = first_none (last_of rest b) _ (sym (last_from rest b (cond (e.0 == b) (Some e.1) None)) ∙ none)
  where
    first_none : (first later : Option (List ℕ)) → option_or first later ≡ None → first ≡ None
    first_none None later h = refl
    first_none (Some x) later h = h

pub one_laid : {blocks rest : List (ℕ × List ℕ)} {old now new : Planned} (e : ℕ × List ℕ) → AreLaid blocks (e ∷ rest) old now
    → ((size : ℕ) → planned_at size new e.0 ≡ Some e.1) → ((size b : ℕ) → b ≢ e.0 → planned_at size new b ≡ planned_at size now b)
    → ((size : ℕ) → AreWhole size now → length e.1 ≡ size → AreWhole size new) → AreLaid blocks rest old new
one_laid {blocks} {rest} {old} {now} {new} e are here others whole = record {
  same = λ size b. block_laid e rest b (planned_at size now b) (planned_at size new b) (λ at. ap (planned_at size new) at ∙ here size) (others size b) ∙ are.same size b;
  none = λ b none. none_left e rest b (are.none b none);
  left = λ size all. let left = are.left size all in λ k d low. left (suc k) d (omega (arith, low));
  whole = λ size all before. whole size (are.whole size all before) (are.left size all 0 [] (omega arith));
}

pub none_laid : (blocks : List (ℕ × List ℕ)) (old : Planned) → AreLaid blocks blocks old old
none_laid blocks old = record { same = λ size b. refl; none = λ b none. none; left = λ size all. all; whole = λ size all before. before }

pub laid_kept : {blocks rest : List (ℕ × List ℕ)} {old now : Planned} → AreLaid blocks rest old now → (size b : ℕ) → last_of blocks b ≡ None → planned_at size now b ≡ planned_at size old b
laid_kept {blocks} {rest} {old} {now} are size b none = both (are.none b none) none (are.same size b)
  where
    both : {p q c d : Option (List ℕ)} → p ≡ None → q ≡ None → option_or p c ≡ option_or q d → c ≡ d
    both first second same = cc

-- ---- one run is laid
pub one_cleared : {runs rest : List (ℕ × ℕ)} {old now new : Planned} (run : ℕ × ℕ) → AreCleared runs (run ∷ rest) old now
    → ((size b : ℕ) → is_in_run b run ≡ true → planned_at size new b ≡ Some (zero_block size)) → ((size b : ℕ) → is_in_run b run ≡ false → planned_at size new b ≡ planned_at size now b)
    → ((size : ℕ) → AreWhole size now → AreWhole size new) → AreCleared runs rest old new
one_cleared {runs} {rest} {old} {now} {new} run are here others whole = record {
  same = λ size b. step size b (is_in_run b run) refl ∙ are.same size b;
  none = λ b none. second_false (is_in_run b run) (is_in_runs rest b) (are.none b none);
  whole = λ size before. whole size (are.whole size before);
}
  where
    second_false : (p q : Bool) → (p || q) ≡ false → q ≡ false
    second_false true q h = cc
    second_false false q h = h

    inside : (zeroed : Bool) (zero : List ℕ) (new now : Option (List ℕ)) → new ≡ Some zero → cond zeroed (Some zero) new ≡ Some zero
    inside true zero new now is = refl
    inside false zero new now is = is

    step : (size b : ℕ) (is : Bool) → is_in_run b run ≡ is → cond (is_in_runs rest b) (Some (zero_block size)) (planned_at size new b) ≡ cond (is_in_run b run || is_in_runs rest b) (Some (zero_block size)) (planned_at size now b)
    step size b true h = rw h (inside (is_in_runs rest b) (zero_block size) (planned_at size new b) (planned_at size now b) (here size b h))
    step size b false h = rw h (ap (cond (is_in_runs rest b) (Some (zero_block size))) (others size b h))

pub none_cleared : (runs : List (ℕ × ℕ)) (old : Planned) → AreCleared runs runs old old
none_cleared runs old = record { same = λ size b. refl; none = λ b none. none; whole = λ size before. before }

pub cleared_kept : {runs rest : List (ℕ × ℕ)} {old now : Planned} → AreCleared runs rest old now → (size b : ℕ) → is_in_runs runs b ≡ false → planned_at size now b ≡ planned_at size old b
cleared_kept {runs} {rest} {old} {now} are size b none = both (Some (zero_block size)) (planned_at size now b) (planned_at size old b) (is_in_runs rest b) (is_in_runs runs b) (are.none b none) none (are.same size b)
  where
    both : (x c d : Option (List ℕ)) (p q : Bool) → p ≡ false → q ≡ false → cond p x c ≡ cond q x d → c ≡ d
    both x c d true q first second same = absurd (true_false first)
    both x c d false true first second same = absurd (true_false second)
    both x c d false false first second same = same

-- ---- home blocks, each of them once
none_behind : (es : List (ℕ × List ℕ)) (k : ℕ) → AllByRecursion (λ y. nat_cmp k y ≡ Less) (keys_of es) → last_of es k ≡ None
none_behind [] k behind = refl
none_behind (e ∷ es) k behind =
    last_from es k (cond (e.0 == k) (Some e.1) None)
    ∙ (ap (λ t. option_or (last_of es k) (cond t (Some e.1) None)) (less_apart behind.0) ∙ ap (λ later. option_or later None) (none_behind es k behind.1))
  where
    less_apart : nat_cmp k e.0 ≡ Less → (e.0 == k) ≡ false
    less_apart h = grind (arith, common_steps)

pub last_is_home : (es : List (ℕ × List ℕ)) (b : ℕ) → IsStrictlySortedBy nat_cmp (keys_of es) → last_of es b ≡ lookup (is_at (nat_cmp b)) es
unfolding IsStrictlySortedBy
last_is_home [] b rise = refl
last_is_home (e ∷ es) b rise = last_from es b (cond (e.0 == b) (Some e.1) None) ∙ elim (cases_eq e.0 b) [
  | inl same ↦ first_one (is_same same) (at_same same) (subst (λ k. last_of es k ≡ None) same (none_behind es e.0 rise.0))
  | inr apart ↦ later_one (is_other apart) (at_other apart) (last_is_home es b rise.1)
]
  where
    is_same : e.0 ≡ b → (e.0 == b) ≡ true
    is_same same = grind (arith, nat_tests)

    is_other : (e.0 ≡ b → ⊥) → (e.0 == b) ≡ false
    is_other apart = grind (arith, nat_tests)

    at_same : e.0 ≡ b → is_at (nat_cmp b) e.0 ≡ true
    at_same same = grind (arith, common_steps)

    at_other : (e.0 ≡ b → ⊥) → is_at (nat_cmp b) e.0 ≡ false
    at_other apart = grind (arith, common_steps)

    first_one : (e.0 == b) ≡ true → is_at (nat_cmp b) e.0 ≡ true → last_of es b ≡ None → option_or (last_of es b) (cond (e.0 == b) (Some e.1) None) ≡ lookup (is_at (nat_cmp b)) (e ∷ es)
    first_one test at none = rw (test, at, none) refl

    or_none : (x : Option (List ℕ)) → option_or x None ≡ x
    or_none None = refl
    or_none (Some x) = refl

    later_one : (e.0 == b) ≡ false → is_at (nat_cmp b) e.0 ≡ false → last_of es b ≡ lookup (is_at (nat_cmp b)) es → option_or (last_of es b) (cond (e.0 == b) (Some e.1) None) ≡ lookup (is_at (nat_cmp b)) (e ∷ es)
    later_one test at is = rw (test, at) (or_none (last_of es b) ∙ is)

-- ---- the whole plan
module _ (size : ℕ) (plan : Planned) (b : ℕ) where
  pub all_laid : (old zeros fresh home : Option (List ℕ)) → zeros ≡ cond (is_in_runs plan.zeros b) (Some (zero_block size)) old → fresh ≡ option_or (fresh_at plan b) zeros → home ≡ option_or (home_at plan b) fresh
      → home ≡ option_or (planned_at size plan b) old
  unfolding planned_at
  all_laid old zeros fresh home z f h = h ∙ (ap (option_or (home_at plan b)) (f ∙ ap (option_or (fresh_at plan b)) z) ∙ joined (home_at plan b) (fresh_at plan b) (is_in_runs plan.zeros b))
    where
      joined : (h f : Option (List ℕ)) (z : Bool) → option_or h (option_or f (cond z (Some (zero_block size)) old)) ≡ option_or (option_or h (option_or f (cond z (Some (zero_block size)) None))) old
      joined (Some x) f z = refl
      joined None (Some x) z = refl
      joined None None true = refl
      joined None None false = refl

  pub none_of_it : planned_at size plan b ≡ None → (home_at plan b ≡ None) × (fresh_at plan b ≡ None) × (is_in_runs plan.zeros b ≡ false)
  unfolding planned_at
  none_of_it none = split (home_at plan b) (fresh_at plan b) (is_in_runs plan.zeros b) none
    where
      split : (h f : Option (List ℕ)) (z : Bool) → option_or h (option_or f (cond z (Some (zero_block size)) None)) ≡ None → (h ≡ None) × (f ≡ None) × (z ≡ false)
      split (Some x) f z e = absurd (some_none e)
      split None (Some x) z e = absurd (some_none e)
      split None None true e = absurd (some_none e)
      split None None false e = (refl, refl, refl)

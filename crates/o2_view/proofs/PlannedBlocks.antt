-- What a plan has for a block, and how long that is.
use Rattle.std.proofs.Common.{◌≡◌, inl, inr, ℕ, suc, Bool, true, false, cond, List, [], ◌∷◌, ◌++◌, length, refl, sym, ap, subst, arith, Option, Some, None}
use Rattle.std.proofs.lemmas.Bool.{cases_Bool}
use Rattle.std.proofs.lemmas.List.{length-replicate}
use Rattle.std.proofs.lemmas.List.Elements.{All-push}
use Rattle.std.proofs.lemmas.Map.Views.{IfSome-lookup_from_All, All-values-insert_entry}
use Rattle.std.specs.BTreeMap.{is_at}
use Rattle.std.specs.Map.{values_of}
use Rattle.std.specs.Ordering.{nat_cmp}
use Rattle.std.specs.Prelude.{All, IfSome, fold, ◌==◌}
use Rattle.std.specs.Option.{option_or}
use Rattle.o2_view.specs.Plans.{Planned, AreWhole, no_plan, with_home, with_fresh, home_at, fresh_at, is_in_runs, zero_block, planned_at}

module _ (size : ℕ) where
  -- ---- what a plan has
  pub home_planned : (p : Planned) (b : ℕ) (bytes : List ℕ) → home_at p b ≡ Some bytes → planned_at size p b ≡ Some bytes
  unfolding planned_at
  home_planned p b bytes home = rw home refl

  pub fresh_planned : (p : Planned) (b : ℕ) (bytes : List ℕ) → home_at p b ≡ None → fresh_at p b ≡ Some bytes → planned_at size p b ≡ Some bytes
  unfolding planned_at
  fresh_planned p b bytes home fresh = rw (home, fresh) refl

  pub zeros_planned : (p : Planned) (b : ℕ) → home_at p b ≡ None → fresh_at p b ≡ None → is_in_runs p.zeros b ≡ true → planned_at size p b ≡ Some (zero_block size)
  unfolding planned_at
  zeros_planned p b home fresh zeros = rw (home, fresh, zeros) refl

  pub same_planned : (p q : Planned) (b : ℕ) → home_at p b ≡ home_at q b → fresh_at p b ≡ fresh_at q b → is_in_runs p.zeros b ≡ is_in_runs q.zeros b → planned_at size p b ≡ planned_at size q b
  unfolding planned_at
  same_planned p q b home fresh zeros = rw (home, fresh, zeros) refl

  pub none_planned : (b : ℕ) → planned_at size no_plan b ≡ None
  unfolding planned_at
  none_planned b = refl

  -- ---- how long it is
  last_whole : (es : List (ℕ × List ℕ)) (b : ℕ) (found : Option (List ℕ)) → All (λ bytes. length bytes ≡ size) (values_of es) → IfSome found (λ bytes. length bytes ≡ size)
      → IfSome (fold (λ found e. cond (e.0 == b) (Some e.1) found) found es) (λ bytes. length bytes ≡ size)
  last_whole [] b found all so_far = so_far
  last_whole (e ∷ es) b found all so_far =
      last_whole es b (cond (e.0 == b) (Some e.1) found) (λ k d low. all (suc k) d (omega arith)) (elim (cases_Bool (e.0 == b)) [
        | inl here ↦ rw here (all 0 [] (omega arith))
        | inr other ↦ rw other so_far
      ])

  either : (a b : Option (List ℕ)) → IfSome a (λ bytes. length bytes ≡ size) → IfSome b (λ bytes. length bytes ≡ size) → IfSome (option_or a b) (λ bytes. length bytes ≡ size)
  either None b first second = second
  either (Some x) b first second = first

  zeros_whole : (zeroed : Bool) → IfSome (cond zeroed (Some (zero_block size)) None) (λ bytes. length bytes ≡ size)
  unfolding zero_block
  zeros_whole true = length-replicate size 0
  zeros_whole false = tt

  pub whole_at : (p : Planned) (b : ℕ) → AreWhole size p → IfSome (planned_at size p b) (λ bytes. length bytes ≡ size)
  unfolding planned_at
  whole_at p b whole =
      either (home_at p b) _ (IfSome-lookup_from_All (λ bytes. length bytes ≡ size) (is_at (nat_cmp b)) p.home whole.home)
      (either (fresh_at p b) _ (last_whole p.fresh b None whole.fresh tt) (zeros_whole (is_in_runs p.zeros b)))

  -- ---- one piece more
  pub whole_none : AreWhole size no_plan
  whole_none = record { fresh = λ k d low. absurd (omega arith); home = λ k d low. absurd (omega arith) }

  pub whole_home : (p : Planned) (b : ℕ) (bytes : List ℕ) → AreWhole size p → length bytes ≡ size → AreWhole size (with_home p b bytes)
  whole_home p b bytes whole long = record { fresh = whole.fresh; home = All-values-insert_entry nat_cmp b bytes (λ bytes. length bytes ≡ size) p.home whole.home long }

  values_push : (es : List (ℕ × List ℕ)) (e : ℕ × List ℕ) → values_of (es ++ e ∷ []) ≡ values_of es ++ e.1 ∷ []
  values_push [] e = refl
  values_push (x ∷ es) e = ap (λ xs. x.1 ∷ xs) (values_push es e)

  pub whole_fresh : (p : Planned) (b : ℕ) (bytes : List ℕ) → AreWhole size p → length bytes ≡ size → AreWhole size (with_fresh p b bytes)
  whole_fresh p b bytes whole long = record {
    fresh = subst (All (λ bytes. length bytes ≡ size)) (sym (values_push p.fresh (b, bytes))) (All-push (λ bytes. length bytes ≡ size) (values_of p.fresh) bytes whole.fresh long);
    home = whole.home;
  }

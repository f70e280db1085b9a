-- Runs of clusters with one more at the end, or with a longer last one.
use Rattle.std.proofs.Common.{◌≡◌, ℕ, zero, suc, ◌+◌, ◌<◌, ◌≤◌, Bool, true, false, ◌||◌, List, [], ◌∷◌, ◌++◌, length, get_or, set, refl, sym, ◌∙◌, ap, arith}
use Rattle.std.specs.Prelude.{◌≢◌}
use Rattle.std.proofs.lemmas.Bool.Decides.{nat_tests}
use Rattle.std.proofs.lemmas.List.Folds.{list_any-append}
use Rattle.o2_view.specs.declared.run.Run.{Run}
use Rattle.o2_view.specs.FreeRuns.{is_of_run, is_of_runs, RiseApartFrom}
use Rattle.o2_view.specs.RunLists.{end_from, end_of_runs, is_gained, Gains}

-- ---- one run more
end_push : (low : ℕ) (runs : List Run) (run : Run) → end_from low (runs ++ run ∷ []) ≡ run.start + run.clusters
end_push low [] run = refl
end_push low (r ∷ runs) run = end_push (r.start + r.clusters) runs run

rise_more : (end : ℕ) (runs : List Run) (run : Run) → RiseApartFrom (end + 1) runs → end_from end runs < run.start → 0 < run.clusters → RiseApartFrom (end + 1) (runs ++ run ∷ [])
rise_more end [] run h behind some = (omega arith, some, tt)
rise_more end (r ∷ runs) run h behind some = (h.0, h.1, rise_more (r.start + r.clusters) runs run h.2 behind some)

pub rise_push : (runs : List Run) (run : Run) → RiseApartFrom 0 runs → end_of_runs runs ≤ run.start → (0 < length runs → end_of_runs runs ≢ run.start) → 0 < run.clusters → RiseApartFrom 0 (runs ++ run ∷ [])
rise_push [] run h behind apart some = (omega arith, some, tt)
rise_push (r ∷ runs) run h behind apart some =
    (h.0, h.1, rise_more (r.start + r.clusters) runs run h.2 (let other = apart (omega arith) in omega (arith, other)) some)

or_false : (x : Bool) → (x || false) ≡ x
or_false true = refl
or_false false = refl

in_run : (first count c : ℕ) → is_of_run c (record { start = first; clusters = count }) ≡ is_gained (λ k. true) first count c
in_run first count c = grind (arith, nat_tests)

pub gains_push : (runs : List Run) (first count : ℕ) → Gains (λ k. true) first count runs (runs ++ record { start = first; clusters = count } ∷ [])
gains_push runs first count =
    let run : Run = record { start = first; clusters = count } in
    record {
      clusters = λ c. list_any-append (is_of_run c) runs (run ∷ []) ∙ ap (λ b. is_of_runs runs c || b) (or_false (is_of_run c run) ∙ in_run first count c);
      end = omega (arith, end_push 0 runs run);
    }

-- ---- the last run
last_end : (low : ℕ) (runs : List Run) (i : ℕ) (d : Run) → i + 1 ≡ length runs → end_from low runs ≡ (get_or runs i d).start + (get_or runs i d).clusters
last_end low [] i d is = absurd (omega (arith, is))
last_end low (r ∷ []) zero d is = refl
last_end low (r ∷ s ∷ runs) zero d is = absurd (omega (arith, is))
last_end low (r ∷ runs) (suc i) d is = last_end (r.start + r.clusters) runs i d (omega (arith, is))

pub ends_with : (runs : List Run) (i : ℕ) (last : Run) → i + 1 ≡ length runs → last ≡ get_or runs i last → end_of_runs runs ≡ last.start + last.clusters
ends_with runs i last is at = last_end 0 runs i last is ∙ ap (λ (r : Run). r.start + r.clusters) (sym at)

-- it grows
longer : Run → ℕ → Run
longer run count = record { start = run.start; clusters = run.clusters + count }

grown_end : (low : ℕ) (runs : List Run) (i : ℕ) (d : Run) (count : ℕ) → i + 1 ≡ length runs → end_from low (set runs i (longer (get_or runs i d) count)) ≡ end_from low runs + count
unfolding longer
grown_end low [] i d count is = absurd (omega (arith, is))
grown_end low (r ∷ []) zero d count is = omega arith
grown_end low (r ∷ s ∷ runs) zero d count is = absurd (omega (arith, is))
grown_end low (r ∷ runs) (suc i) d count is = grown_end (r.start + r.clusters) runs i d count (omega (arith, is))

rise_grown : (low : ℕ) (runs : List Run) (i : ℕ) (d : Run) (count : ℕ) → i + 1 ≡ length runs → RiseApartFrom low runs → RiseApartFrom low (set runs i (longer (get_or runs i d) count))
unfolding longer
rise_grown low [] i d count is h = absurd (omega (arith, is))
rise_grown low (r ∷ []) zero d count is h = (h.0, omega (arith, h.1), tt)
rise_grown low (r ∷ s ∷ runs) zero d count is h = absurd (omega (arith, is))
rise_grown low (r ∷ runs) (suc i) d count is h = (h.0, h.1, rise_grown (r.start + r.clusters + 1) runs i d count (omega (arith, is)) h.2)

longer_has : (run : Run) (count c : ℕ) → (is_of_run c (longer run count) || false) ≡ ((is_of_run c run || false) || is_gained (λ k. true) (run.start + run.clusters) count c)
unfolding longer
longer_has run count c = grind (arith, nat_tests)

or_assoc : (x y z : Bool) → (x || (y || z)) ≡ ((x || y) || z)
or_assoc true y z = refl
or_assoc false y z = refl

grown_has : (low : ℕ) (runs : List Run) (i : ℕ) (d : Run) (count c : ℕ) → i + 1 ≡ length runs
    → is_of_runs (set runs i (longer (get_or runs i d) count)) c ≡ (is_of_runs runs c || is_gained (λ k. true) (end_from low runs) count c)
grown_has low [] i d count c is = absurd (omega (arith, is))
grown_has low (r ∷ []) zero d count c is = longer_has r count c
grown_has low (r ∷ s ∷ runs) zero d count c is = absurd (omega (arith, is))
grown_has low (r ∷ runs) (suc i) d count c is =
    ap (λ b. is_of_run c r || b) (grown_has (r.start + r.clusters) runs i d count c (omega (arith, is)))
    ∙ or_assoc (is_of_run c r) (is_of_runs runs c) _

module _ (runs : List Run) (i : ℕ) (last grown : Run) (first count : ℕ) (is : i + 1 ≡ length runs) (ends : end_of_runs runs ≡ first) (at : last ≡ get_or runs i last)
    (more : grown ≡ record { start = last.start; clusters = last.clusters + count }) where
  the_grown : set runs i grown ≡ set runs i (longer (get_or runs i last) count)
  unfolding longer
  the_grown = ap (set runs i) (more ∙ ap (λ (r : Run). record { start = r.start; clusters = r.clusters + count }) at)

  pub rise_longer : RiseApartFrom 0 runs → RiseApartFrom 0 (set runs i grown)
  rise_longer h = rw the_grown (rise_grown 0 runs i last count is h)

  pub gains_longer : Gains (λ k. true) first count runs (set runs i grown)
  gains_longer = rw (the_grown, sym ends) (record {
    clusters = λ c. grown_has 0 runs i last count c is;
    end = omega (arith, grown_end 0 runs i last count is);
  })

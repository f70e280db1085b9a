-- The clusters that a stretch gains.
use Rattle.std.proofs.Common.{◌≡◌, inl, inr, ℕ, ◌+◌, ◌-◌, ◌<◌, ◌≤◌, Bool, true, false, ◌&&◌, ◌||◌, List, refl, sym, ◌∙◌, ap, arith}
use Rattle.std.specs.Prelude.{nat_le, nat_lt}
use Rattle.std.proofs.lemmas.Bool.{cases_Bool}
use Rattle.std.proofs.lemmas.Bool.Decides.{nat_tests}
use Rattle.o2_view.specs.declared.run.Run.{Run}
use Rattle.o2_view.specs.FreeRuns.{is_of_runs}
use Rattle.o2_view.specs.RunLists.{end_of_runs, is_gained, Gains}

-- the cluster is one of the stretch
is_in : ℕ → ℕ → ℕ → Bool
is_in first count c = nat_le first c && nat_lt c (first + count)

gained_as : (free other : ℕ → Bool) (first count c : ℕ) → ((k : ℕ) → k < count → free k ≡ other k) → is_gained free first count c ≡ is_gained other first count c
unfolding is_in
gained_as free other first count c same = elim (cases_Bool (is_in first count c)) [
  | inl inside ↦
      let below : c - first < count = grind (arith, nat_tests, inside) in
      let here = same (c - first) below in
      grind (arith, nat_tests, inside, here)
  | inr outside ↦ grind (arith, nat_tests, outside)
]

-- only which of the stretch's clusters are free counts
gains_as : (free other : ℕ → Bool) (first count : ℕ) (old new : List Run) → ((k : ℕ) → k < count → free k ≡ other k) → Gains free first count old new → Gains other first count old new
gains_as free other first count old new same h = record {
  clusters = λ c. h.clusters c ∙ ap (λ b. is_of_runs old c || b) (gained_as free other first count c same);
  end = h.end;
}

gained_none : (first count c : ℕ) → is_gained (λ k. false) first count c ≡ false
gained_none first count c = grind (arith, nat_tests)

or_none : (x y : Bool) → y ≡ false → x ≡ (x || y)
or_none true y none = refl
or_none false y none = sym none

-- a stretch with none free
pub gains_none : (free : ℕ → Bool) (first count : ℕ) (runs : List Run) → end_of_runs runs ≤ first + count → ((k : ℕ) → k < count → free k ≡ false) → Gains free first count runs runs
gains_none free first count runs behind none =
    gains_as (λ k. false) free first count runs runs (λ k low. sym (none k low))
    (record {
      clusters = λ c. or_none (is_of_runs runs c) _ (gained_none first count c);
      end = behind;
    })

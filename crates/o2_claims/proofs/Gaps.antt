-- The runs between numbers that rise.
use Rattle.std.proofs.Common.{◌≡◌, inl, inr, ℕ, ◌+◌, ◌-◌, ◌<◌, ◌≤◌, Bool, true, false, ◌&&◌, ◌||◌, not, nat_lt, List, [], ◌∷◌, is_some, refl, ◌∙◌, ap, arith}
use Rattle.std.specs.Prelude.{nat_le}
use Rattle.std.specs.List.Sorted.{IsStrictlySortedBy}
use Rattle.std.specs.Map.{lookup, keys_of}
use Rattle.std.specs.BTreeMap.{is_at}
use Rattle.std.specs.Ordering.{nat_cmp}
use Rattle.std.proofs.lemmas.Bool.{cases_Bool}
use Rattle.std.proofs.lemmas.Bool.Decides.{nat_tests}
use Rattle.o2_model.specs.Words.{among}
use Rattle.o2_view.specs.declared.run.Run.{Run}
use Rattle.o2_view.specs.FreeRuns.{is_of_runs}
use Rattle.o2_view.specs.RunLists.{end_of_runs, is_gained, Gains}
use Rattle.o2_claims.proofs.Keys.{Between, low_below, none_below, first_among, not_first, key_among, keys_between}

-- these runs have the numbers below `next` that `has` has not
pub record IsFreeBelow (has : ℕ → Bool) (next : ℕ) (runs : List Run) : Type 0 where
  pub clusters : (c : ℕ) → is_of_runs runs c ≡ (nat_lt c next && not (has c))
  pub end : end_of_runs runs ≤ next

-- these numbers, from `next` on and below `end`, are those that `has` has from `next` on
pub record AreLeft (has : ℕ → Bool) (next end : ℕ) (left : List ℕ) : Type 0 where
  pub rise : Between next end left
  pub among : (c : ℕ) → next ≤ c → has c ≡ among left c

-- ---- a gap
gap_at : (c next up : ℕ) (b : Bool) → next ≤ up → (next ≤ c → c < up → b ≡ false)
    → ((nat_lt c next && not b) || is_gained (λ k. true) next (up - next) c) ≡ (nat_lt c up && not b)
gap_at c next up b order none = elim (cases_Bool (nat_lt c next)) [
  | inl low ↦
      let behind : nat_le next c ≡ false = grind (arith, nat_tests, low) in
      let below : nat_lt c up ≡ true = grind (arith, nat_tests, low, order) in
      rw (low, behind, below) (or_false (not b))
  | inr not_low ↦
      let behind : nat_le next c ≡ true = grind (arith, nat_tests, not_low) in
      elim (cases_Bool (nat_lt c up)) [
        | inl below ↦
            let inside : nat_lt c (next + (up - next)) ≡ true = grind (arith, nat_tests, below, order) in
            let free : b ≡ false = none (grind (arith, nat_tests, not_low)) (grind (arith, nat_tests, below)) in
            rw (not_low, behind, below, inside, free) refl
        | inr high ↦
            let outside : nat_lt c (next + (up - next)) ≡ false = grind (arith, nat_tests, high, order) in
            rw (not_low, behind, high, outside) refl
      ]
]
  where
    or_false : (x : Bool) → (x || false) ≡ x
    or_false true = refl
    or_false false = refl

gap : (has : ℕ → Bool) (next up : ℕ) (old new : List Run) → next ≤ up → ((c : ℕ) → next ≤ c → c < up → has c ≡ false)
    → Gains (λ k. true) next (up - next) old new → IsFreeBelow has next old → IsFreeBelow has up new
gap has next up old new order none gains before = record {
  clusters = λ c. gains.clusters c ∙ (ap (λ b. b || is_gained (λ k. true) next (up - next) c) (before.clusters c) ∙ gap_at c next up (has c) order (none c));
  end = let end = gains.end in omega arith;
}

-- ---- up to the first of those left
pub left_order : (has : ℕ → Bool) (next end k : ℕ) (ks : List ℕ) → AreLeft has next end (k ∷ ks) → (next ≤ k) × (k < end)
left_order has next end k ks left = let first = left.rise.0 in let last = low_below (k + 1) end ks left.rise.1 in (first, omega arith)

pub left_later : (has : ℕ → Bool) (next end k : ℕ) (ks : List ℕ) → AreLeft has next end (k ∷ ks) → AreLeft has (k + 1) end ks
left_later has next end k ks left = record {
  rise = left.rise.1;
  among = λ c behind. let first = left.rise.0 in left.among c (omega arith) ∙ not_first c k ks behind;
}

past_one : (c k : ℕ) (b : Bool) → (c ≡ k → b ≡ true) → (nat_lt c k && not b) ≡ (nat_lt c (k + 1) && not b)
past_one c k true at = grind (arith, nat_tests)
past_one c k false at = elim (cases_Bool (nat_lt c k)) [
  | inl low ↦ let below : nat_lt c (k + 1) ≡ true = grind (arith, nat_tests, low) in rw (low, below) refl
  | inr not_low ↦ elim (cases_Bool (nat_lt c (k + 1))) [
    | inl below ↦ let e : c ≡ k = grind (arith, nat_tests, not_low, below) in let h = at e in cc
    | inr high ↦ rw (not_low, high) refl
  ]
]

pub free_later : (has : ℕ → Bool) (next end k : ℕ) (ks : List ℕ) (old new : List Run) → AreLeft has next end (k ∷ ks) → Gains (λ k. true) next (k - next) old new → IsFreeBelow has next old → IsFreeBelow has (k + 1) new
free_later has next end k ks old new left gains before =
    let order = left_order has next end k ks left in
    let up = gap has next k old new order.0 (λ c behind below. left.among c behind ∙ none_below c k end (k ∷ ks) (omega arith, left.rise.1) below) gains before in
    record {
      clusters = λ c. up.clusters c ∙ past_one c k (has c) (λ at. ap has at ∙ (left.among k order.0 ∙ first_among k ks));
      end = let end = up.end in omega arith;
    }

-- none is left
pub free_at_end : (has : ℕ → Bool) (next end : ℕ) (old new : List Run) → AreLeft has next end [] → Gains (λ k. true) next (end - next) old new → IsFreeBelow has next old → (c : ℕ) → is_of_runs new c ≡ (nat_lt c end && not (has c))
free_at_end has next end old new left gains before = (gap has next end old new left.rise (λ c behind below. left.among c behind) gains before).clusters

-- before the first
pub all_left : {X : Type 0} (es : List (ℕ × X)) (end : ℕ) → IsStrictlySortedBy nat_cmp (keys_of es) → ((c : ℕ) → end ≤ c → is_some (lookup (is_at (nat_cmp c)) es) ≡ false)
    → AreLeft (λ c. is_some (lookup (is_at (nat_cmp c)) es)) 0 end (keys_of es)
all_left es end sorted below = record { rise = keys_between es end sorted below; among = λ c _. key_among es c }

pub free_below_zero : (has : ℕ → Bool) → IsFreeBelow has 0 []
free_below_zero has = record {
  clusters = λ c. none c;
  end = omega arith;
}
  where
    none : (c : ℕ) → false ≡ (nat_lt c 0 && not (has c))
    none c = let low : nat_lt c 0 ≡ false = grind (arith, nat_tests) in rw low refl

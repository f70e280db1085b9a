-- The tables by which a block of a plan, or a number of some runs, is found fast.
use Rattle.std.specs.Prelude.{◌≡◌, ◌≢◌, ℕ, ◌+◌, ◌^◌, ◌<◌, ◌≤◌, All, true, false, List, length, slice_index_or, Option, Some, None}
use Rattle.o2_view.specs.Plans.{last_of, is_in_runs}

-- The table has the place of the last of the blocks of each number.
pub record AreLast (blocks : List (ℕ × List ℕ)) (place : ℕ → Option ℕ) : Type 0 where
  pub there : (b i : ℕ) → place b ≡ Some i → i < length blocks
  pub is : (b i : ℕ) (d : ℕ × List ℕ) → place b ≡ Some i → last_of blocks b ≡ Some (slice_index_or blocks i d).1
  pub none : (b : ℕ) → place b ≡ None → last_of blocks b ≡ None

-- The table has spans, each by its first number with the number behind it. A later one ends later, and together they are the runs.
pub record AreSpans (runs : List (ℕ × ℕ)) (end : ℕ → Option ℕ) : Type 0 where
  pub inside : (s e b : ℕ) → end s ≡ Some e → s ≤ b → b < e → is_in_runs runs b ≡ true
  pub others : (b : ℕ) → ((s e : ℕ) → end s ≡ Some e → s ≤ b → e ≤ b) → is_in_runs runs b ≡ false
  pub filled : (s e : ℕ) → end s ≡ Some e → s < e
  pub rise : (s t d e : ℕ) → end s ≡ Some d → end t ≡ Some e → s < t → d < e

-- The same, and each run ends before 2 ^ 64.
pub record AreRuns (runs : List (ℕ × ℕ)) (end : ℕ → Option ℕ) : Type 0 where
  pub spans : AreSpans runs end
  pub ends : All (λ (run : ℕ × ℕ). run.0 + run.1 < 2 ^ 64) runs

-- As `AreSpans`, but that spans behind the one from `first` to `last` may end no later.
pub record IsAdding (runs : List (ℕ × ℕ)) (first last : ℕ) (end : ℕ → Option ℕ) : Type 0 where
  pub here : end first ≡ Some last
  pub inside : (s e b : ℕ) → end s ≡ Some e → s ≤ b → b < e → is_in_runs runs b ≡ true
  pub others : (b : ℕ) → ((s e : ℕ) → end s ≡ Some e → s ≤ b → e ≤ b) → is_in_runs runs b ≡ false
  pub filled : (s e : ℕ) → end s ≡ Some e → s < e
  pub rise : (s t d e : ℕ) → s ≢ first → end s ≡ Some d → end t ≡ Some e → s < t → d < e

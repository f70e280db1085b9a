-- Lists of runs of clusters that grow at their end.
use Rattle.std.specs.Prelude.{◌≡◌, ℕ, ◌+◌, ◌-◌, ◌≤◌, Bool, ◌&&◌, ◌||◌, nat_le, nat_lt, List, [], ◌∷◌}
use Rattle.o2_view.specs.declared.run.Run.{Run}
use Rattle.o2_view.specs.FreeRuns.{is_of_runs}

-- the cluster behind the last of the runs, or else this one
abbrev pub end_from : ℕ → List Run → ℕ
end_from low [] = low
end_from low (run ∷ runs) = end_from (run.start + run.clusters) runs

-- the cluster behind the last of the runs, 0 for none
abbrev pub end_of_runs : List Run → ℕ
end_of_runs runs = end_from 0 runs

-- one of `count` clusters from `first` on, of which `first + k` counts where `free k`
abbrev pub is_gained : (ℕ → Bool) → ℕ → ℕ → ℕ → Bool
is_gained free first count c = nat_le first c && nat_lt c (first + count) && free (c - first)

-- The new runs have those clusters more, and end with the last of them or before.
pub record Gains (free : ℕ → Bool) (first count : ℕ) (old new : List Run) : Type 0 where
  pub clusters : (c : ℕ) → is_of_runs new c ≡ (is_of_runs old c || is_gained free first count c)
  pub end : end_of_runs new ≤ first + count

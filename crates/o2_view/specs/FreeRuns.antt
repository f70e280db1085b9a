-- Runs of clusters that are free.
use Rattle.std.specs.Prelude.{◌≡◌, ℕ, ◌+◌, ◌<◌, ◌≤◌, Bool, ◌&&◌, nat_le, nat_lt, List, [], ◌∷◌}
use Rattle.std.specs.List.{list_any}
use Rattle.o2_view.specs.declared.run.Run.{Run}

-- the cluster is one of the run
abbrev pub is_of_run : ℕ → Run → Bool
is_of_run c run = nat_le run.start c && nat_lt c (run.start + run.clusters)

abbrev pub is_of_runs : List Run → ℕ → Bool
is_of_runs runs c = list_any (is_of_run c) runs

-- the first of these runs begins at this cluster or later, each has clusters, and a cluster lies between it and the next
abbrev pub RiseApartFrom : ℕ → List Run → Type 0
RiseApartFrom low [] = Unit {0}
RiseApartFrom low (run ∷ runs) = (low ≤ run.start) × (0 < run.clusters) × RiseApartFrom (run.start + run.clusters + 1) runs

-- These are the longest runs of free clusters, rising: between two of them is a cluster that is not free.
pub record AreFreeRuns (is_free : ℕ → Bool) (runs : List Run) : Type 0 where
  pub clusters : (c : ℕ) → is_of_runs runs c ≡ is_free c
  pub apart : RiseApartFrom 0 runs

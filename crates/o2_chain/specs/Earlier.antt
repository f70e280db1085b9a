-- What the allocators before one have walked.
use Rattle.std.specs.Prelude.{◌≡◌, ℕ, ◌<◌, List, [], All}
use Rattle.std.specs.List.{list_any}
use Rattle.o2_model.specs.declared.allocator.Allocator.{Allocator}
use Rattle.o2_model.specs.Volume.{Volume}
use Rattle.o2_model.specs.Groups.{GroupWalk, holds_cluster, walk_allocators}
use Rattle.o2_view.specs.declared.run.Run.{Run}
use Rattle.o2_view.specs.FreeRuns.{is_of_runs}

-- the walk over the chains of these allocators
abbrev pub walk_of : Volume → List Allocator → GroupWalk
walk_of v these = walk_allocators v these (record { groups = []; faults = [] })

-- These runs have the clusters of the groups of blocks that the walk over those allocators meets, and no others. None is empty.
pub record AreBefore (v : Volume) (earlier : List Allocator) (before : List Run) : Type 0 where
  pub some : All (λ run. 0 < run.clusters) before
  pub clusters : (c : ℕ) → is_of_runs before c ≡ list_any (holds_cluster v c) (walk_of v earlier).groups

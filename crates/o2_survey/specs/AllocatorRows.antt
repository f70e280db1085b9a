-- Rows of some allocators.
use Rattle.std.specs.Prelude.{◌≡◌, List, [], ◌∷◌, ◌++◌, map, Option, Some, None, if◌then◌else◌}
use Rattle.std.specs.List.{AllByRecursion}
use Rattle.o2_model.specs.declared.allocator.Allocator.{Allocator}
use Rattle.o2_model.specs.Volume.{Volume}
use Rattle.o2_model.specs.declared.allocator.BitUse.TheVariants.{Clusters, Inodes}
use Rattle.o2_model.specs.declared.system_file.SystemFile.TheVariants.{GlobalBitmap, GlobalInodeAlloc}
use Rattle.o2_model.specs.Allocators.{is_allocator, allocator_named, no_slot}
use Rattle.o2_tables.specs.Rows.{IsAllocatorRow}
use Rattle.o2_tables.specs.declared.allocators.AllocatorRow.{AllocatorRow}

-- The rows are those of these allocators, in order.
pub record AreAllocatorRows (v : Volume) (allocators : List Allocator) (rows : List AllocatorRow) : Type 0 where
  pub listed : map (λ r. r.allocator) rows ≡ allocators
  pub each : AllByRecursion (IsAllocatorRow v) rows

-- the allocator that a name tells, where its dinode is an allocator's
abbrev pub allocators_told : Volume → Option Allocator → List Allocator
allocators_told v None = []
allocators_told v (Some a) = if is_allocator v a.block then a ∷ [] else []

-- the allocators that belong to no slot, in their order
abbrev pub global_allocators : Volume → List Allocator
global_allocators v = allocator_named v Clusters no_slot GlobalBitmap ++ allocator_named v Inodes no_slot GlobalInodeAlloc

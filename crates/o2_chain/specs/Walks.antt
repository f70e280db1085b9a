-- The walk of one allocator.
use Rattle.std.specs.Prelude.{◌≡◌, ℕ, ◌*◌, Bool, true, false, List, [], ◌∷◌, ◌++◌, map, if◌then◌else◌}
use Rattle.o2_model.specs.declared.allocator.Allocator.{Allocator}
use Rattle.o2_model.specs.declared.allocator.BitUse.TheVariants.{Clusters, Metadata}
use Rattle.o2_model.specs.declared.allocator.Group.{Group as Walked}
use Rattle.o2_model.specs.declared.check.Check.TheVariants as check
use Rattle.o2_model.specs.Faults.{fails_unless}
use Rattle.o2_model.specs.Volume.{Volume, per_cluster}
use Rattle.o2_model.specs.Allocators.{no_slot, chain_heads, is_sound_chain_header}
use Rattle.o2_model.specs.Groups.{GroupWalk, walk_chains}
use Rattle.o2_view.specs.OwnChecks.{OwnCheck}
use Rattle.o2_view.specs.declared.run.Run.{Run}
use Rattle.o2_chain.specs.declared.group.Group.{Group}

-- the allocator whose dinode is in that block, judged as the global bitmap or as a suballocator
abbrev pub judged_as : Bool → ℕ → Allocator
judged_as bitmap block = record { bit_use = if bitmap then Clusters else Metadata; slot = no_slot; block = block }

-- a run of clusters, as a group of blocks that has them
abbrev pub group_of_run : Volume → Run → Walked
group_of_run v run = record { of = judged_as false 0; chain = 0; block = run.start * per_cluster v; bits = run.clusters * per_cluster v }

-- clusters of groups that count as walked
abbrev pub walked_before : Volume → List Run → List Walked
walked_before v before = map (group_of_run v) before

-- the walk over the chains of an allocator, where these clusters count as walked
unfoldable pub allocator_walk : Volume → Allocator → List Run → GroupWalk
allocator_walk v a before = walk_chains v a 0 (chain_heads v a) (record { groups = walked_before v before; faults = [] })

-- a group as one of its allocator
abbrev pub group_in : Allocator → Group → Walked
group_in a g = record { of = a; chain = g.chain; block = g.block; bits = g.bits }

-- these are the groups that the walk meets, in order
abbrev pub AreGroups : Volume → Allocator → List Run → List Group → Type 0
AreGroups v a before groups = (allocator_walk v a before).groups ≡ walked_before v before ++ map (group_in a) groups

-- the same, and no link is bad
pub record AreSoundGroups (v : Volume) (a : Allocator) (before : List Run) (groups : List Group) : Type 0 where
  pub header : is_sound_chain_header v a ≡ true
  pub links : (allocator_walk v a before).faults ≡ []
  pub met : AreGroups v a before groups

-- what a walk of the allocator judges: CHAIN_HEADER, then CHAIN_LINK
abbrev pub checks_of : Allocator → List Run → List OwnCheck
checks_of a before =
    record { check = check.ChainHeader; faults = λ v. fails_unless a.block (is_sound_chain_header v a) }
    ∷ record { check = check.ChainLink; faults = λ v. (allocator_walk v a before).faults }
    ∷ []

-- the same of an allocator that is judged as the global bitmap or as a suballocator
abbrev pub chain_checks : Bool → ℕ → List Run → List OwnCheck
chain_checks bitmap allocator before = checks_of (judged_as bitmap allocator) before

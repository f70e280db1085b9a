-- Where nothing fails, the checks of each inode's kind, extents, size and clusters fail at the same blocks over blocks that agree
-- on the held ones.
use Rattle.std.proofs.Common.{◌≡◌, ℕ, ◌/◌, cond, inl, inr, true, false, ◌==◌, List, [], refl, sym, ◌∙◌, ap, Option, Some, None}
use Rattle.std.specs.Prelude.{filter, flat_map, find, sum_by}
use Rattle.std.specs.Option.{option_map_or}
use Rattle.std.proofs.lemmas.Bool.{cases_Bool}
use Rattle.o2_ondisk.specs.declared.kind.Kind.{Kind}
use Rattle.o2_ondisk.specs.declared.kind.Kind.TheVariants.{File, Directory, Character, Block, Fifo, Socket, Link}
use Rattle.o2_model.specs.declared.check.Check.TheVariants as check
use Rattle.o2_model.specs.declared.allocator.Allocator.{Allocator}
use Rattle.o2_model.specs.Faults.{fails_unless}
use Rattle.o2_model.specs.Volume.{Volume, over, per_cluster}
use Rattle.o2_model.specs.Extents.{Extents}
use Rattle.o2_model.specs.LeafRecords.{clusters_in}
use Rattle.o2_model.specs.Inodes.{kind, is_directory, is_directory_kind, is_inline, extents, leaf_records}
use Rattle.o2_model.specs.Directories.{dir_blocks, own_inodes}
use Rattle.o2_model.specs.Allocators.{are_clusters, allocators}
use Rattle.o2_model.specs.Groups.{GroupWalk, group_walk, is_inode, inodes_of}
use Rattle.o2_model.specs.Checks.Extent.{extent_faults}
use Rattle.o2_model.specs.Checks.InodeKind.{inode_kind_faults}
use Rattle.o2_model.specs.Checks.InodeSize.{is_size_of_kind, has_sound_size, inode_size_faults}
use Rattle.o2_model.specs.Checks.InodeClusters.{allocator_clusters, cluster_total, has_cluster_total, inode_clusters_faults}
use Rattle.o2_model.specs.Failing.{of_each_inode, faults, failing}
use Rattle.o2_laws.proofs.Held.HeldBlocks.{AgreesOnHeld}
use Rattle.o2_model.proofs.Readings.{faults_of_own_list}
use Rattle.o2_laws.proofs.SameContents.{kind_same}
use Rattle.o2_laws.proofs.SameAllocators.{allocators_same, own_same}
use Rattle.o2_laws.proofs.Agreeing.{flat_map_agree, option_agree}
use Rattle.o2_laws.proofs.Held.HeldTells.{dinode_same, held_tell_extents, listed_is_inode}
use Rattle.o2_laws.proofs.Held.HeldDirectories.{blocks_of_directory}
use Rattle.o2_laws.proofs.Held.HeldTables.{held_tell_system_files, held_tell_groups, held_tell_inodes}

-- what is judged alike of each inode
pub each_inode_keeps : (v : Volume) (at : ℕ → List ℕ) (faults_of : Volume → ℕ → List ℕ) → failing v ≡ [] → AgreesOnHeld v at
    → ((b : ℕ) → is_inode v b ≡ true → faults_of (over v at) b ≡ faults_of v b) → of_each_inode (over v at) faults_of ≡ of_each_inode v faults_of
each_inode_keeps v at faults_of none agrees same =
    ap (flat_map (faults_of (over v at))) (held_tell_inodes v at none agrees)
    ∙ flat_map_agree (faults_of (over v at)) (faults_of v) (inodes_of v) (λ b is. same b (listed_is_inode v b is))

-- ---- kinds and extents
pub keeps_inode_kind : (v : Volume) (at : ℕ → List ℕ) → failing v ≡ [] → AgreesOnHeld v at → faults (over v at) check.InodeKind ≡ faults v check.InodeKind
unfolding faults
keeps_inode_kind v at none agrees =
    each_inode_keeps v at inode_kind_faults none agrees (λ b is. ap (λ o. fails_unless b (option_map_or (λ (k : Kind). true) o false)) (kind_same v at b (dinode_same v at b agrees is)))

pub keeps_extent : (v : Volume) (at : ℕ → List ℕ) → failing v ≡ [] → AgreesOnHeld v at → faults (over v at) check.Extent ≡ faults v check.Extent
unfolding faults
keeps_extent v at none agrees =
    each_inode_keeps v at extent_faults none agrees (λ b is. faults_of_own_list (over v at) b ∙ (ap (λ t. t.faults) (held_tell_extents v at b none agrees is) ∙ sym (faults_of_own_list v b)))

-- ---- sizes
pub size_of_kind_same : (v : Volume) (at : ℕ → List ℕ) (b : ℕ) → at b ≡ v.at b → extents (over v at) b ≡ extents v b → own_inodes (over v at) ≡ own_inodes v
    → (o : Option Kind) → (is_directory_kind o ≡ true → dir_blocks (over v at) b ≡ dir_blocks v b) → is_size_of_kind (over v at) b o ≡ is_size_of_kind v b o
size_of_kind_same v at b inode list own None blocks = refl
size_of_kind_same v at b inode list own (Some Directory) blocks = rw (inode, blocks refl) refl
size_of_kind_same v at b inode list own (Some Link) blocks = rw (inode, leaf_records, list) refl
size_of_kind_same v at b inode list own (Some File) blocks = rw (inode, own) refl
size_of_kind_same v at b inode list own (Some Character) blocks = refl
size_of_kind_same v at b inode list own (Some Block) blocks = refl
size_of_kind_same v at b inode list own (Some Fifo) blocks = refl
size_of_kind_same v at b inode list own (Some Socket) blocks = refl

is_directory_by_kind : (v : Volume) (b : ℕ) → is_directory_kind (kind v b) ≡ true → is_directory v b ≡ true
unfolding is_directory
is_directory_by_kind v b h = h

inline_same : (v : Volume) (at : ℕ → List ℕ) (b : ℕ) → at b ≡ v.at b → is_inline (over v at) b ≡ is_inline v b
inline_same v at b inode = rw inode refl

-- by what a size is judged by
pub size_same : (v : Volume) (at : ℕ → List ℕ) (b : ℕ) → at b ≡ v.at b → extents (over v at) b ≡ extents v b → own_inodes (over v at) ≡ own_inodes v → (is_directory_kind (kind v b) ≡ true → dir_blocks (over v at) b ≡ dir_blocks v b)
    → has_sound_size (over v at) b ≡ has_sound_size v b
unfolding has_sound_size
size_same v at b inode list own blocks = elim (cases_Bool (is_inline v b)) [
  | inl inline ↦ rw (inode, inline) refl
  | inr outside ↦ rw (inline_same v at b inode, outside) (ap (is_size_of_kind (over v at) b) (kind_same v at b inode)
      ∙ size_of_kind_same v at b inode list own (kind v b) blocks)
]

pub sound_size_same : (v : Volume) (at : ℕ → List ℕ) (b : ℕ) → failing v ≡ [] → AgreesOnHeld v at → is_inode v b ≡ true → has_sound_size (over v at) b ≡ has_sound_size v b
sound_size_same v at b none agrees is =
    size_same v at b (dinode_same v at b agrees is) (held_tell_extents v at b none agrees is) (own_same v at (held_tell_system_files v at none agrees))
    (λ h. blocks_of_directory v at b none agrees (record { inode = is; directory = is_directory_by_kind v b h }))

pub keeps_inode_size : (v : Volume) (at : ℕ → List ℕ) → failing v ≡ [] → AgreesOnHeld v at → faults (over v at) check.InodeSize ≡ faults v check.InodeSize
unfolding faults
keeps_inode_size v at none agrees = each_inode_keeps v at inode_size_faults none agrees (λ b is. ap (fails_unless b) (sound_size_same v at b none agrees is))

-- ---- clusters
group_total_same : (v : Volume) (at : ℕ → List ℕ) (a : Allocator) → group_walk (over v at) ≡ group_walk v → allocator_clusters (over v at) a ≡ allocator_clusters v a
group_total_same v at a walk =
    ap (λ (w : GroupWalk). cond (are_clusters a.bit_use) v.geo.clusters (sum_by (λ g. g.bits / per_cluster v) (filter (λ g. g.of.block == a.block) w.groups))) walk

-- the allocator whose dinode is there
abbrev allocator_at : ℕ → List Allocator → Option Allocator
allocator_at b more = find (λ a. a.block == b) more

cluster_total_same : (v : Volume) (at : ℕ → List ℕ) (b : ℕ) → failing v ≡ [] → AgreesOnHeld v at → is_inode v b ≡ true → cluster_total (over v at) b ≡ cluster_total v b
unfolding cluster_total
cluster_total_same v at b none agrees is =
    let total = λ (u : Volume) (more : List Allocator) (t : Extents). option_map_or (allocator_clusters u) (allocator_at b more) (clusters_in t.leaves) in
    ap (λ more. total (over v at) more (extents (over v at) b)) (allocators_same v at (held_tell_system_files v at none agrees))
    ∙ (ap (total (over v at) (allocators v)) (held_tell_extents v at b none agrees is)
    ∙ option_agree (allocator_clusters (over v at)) (allocator_clusters v) (allocator_at b (allocators v)) (clusters_in (leaf_records v b))
    (λ a found. group_total_same v at a (held_tell_groups v at none agrees)))

has_total_same : (v : Volume) (at : ℕ → List ℕ) (b : ℕ) → at b ≡ v.at b → cluster_total (over v at) b ≡ cluster_total v b → has_cluster_total (over v at) b ≡ has_cluster_total v b
unfolding has_cluster_total
has_total_same v at b inode total = rw (inode, total) refl

pub keeps_inode_clusters : (v : Volume) (at : ℕ → List ℕ) → failing v ≡ [] → AgreesOnHeld v at → faults (over v at) check.InodeClusters ≡ faults v check.InodeClusters
unfolding faults
keeps_inode_clusters v at none agrees =
    each_inode_keeps v at inode_clusters_faults none agrees (λ b is. ap (fails_unless b) (has_total_same v at b (dinode_same v at b agrees is) (cluster_total_same v at b none agrees is)))

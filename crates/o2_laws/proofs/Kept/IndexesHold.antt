-- Where nothing fails, each index holds: its root, its extent blocks and its leaves are held.
use Rattle.std.proofs.Common.{◌≡◌, inl, inr, ℕ, true, false, ◌&&◌, not, List, [], refl, arith}
use Rattle.std.specs.List.{Contains, list_all}
use Rattle.std.specs.Option.{option_map_or}
use Rattle.std.proofs.lemmas.Bool.{cases_Bool, and_parts, and_right, not_from_true}
use Rattle.o2_model.specs.declared.check.Check.TheVariants as check
use Rattle.o2_model.specs.Words.{among}
use Rattle.o2_model.specs.Orders.{is_none_of}
use Rattle.o2_model.specs.Volume.{Volume}
use Rattle.o2_model.specs.Extents.{nothing_read}
use Rattle.o2_model.specs.Extents.LeafRule.{ToClusters}
use Rattle.o2_model.specs.Inodes.{is_directory}
use Rattle.o2_model.specs.Allocators.{are_metadata}
use Rattle.o2_model.specs.Groups.{is_inode, inodes_of}
use Rattle.o2_model.specs.Metadata.{extent_block_origin, has_slot_and_bit, group_with_bit, is_on_metadata_bit}
use Rattle.o2_model.specs.declared.origin.Origin.{Origin}
use Rattle.o2_model.specs.Indexes.{is_indexed, indexed_directories, index_root, is_index_root, is_inline_index, index_extents, index_leaves, is_sound_index_leaf}
use Rattle.o2_model.specs.SoundIndexes.{is_own_block, index_root_origin, has_sound_index_root, has_sound_index_lists, is_sound_index}
use Rattle.o2_model.specs.Claims.{claims_before_index, claimed_clusters}
use Rattle.o2_model.specs.Checks.Dx.{holds_index, dx_faults}
use Rattle.o2_model.specs.Failing.{faults, failing}
use Rattle.o2_laws.proofs.Held.HeldBlocks.{is_held}
use Rattle.o2_laws.proofs.NothingFails.{no_check_fails}
use Rattle.o2_laws.proofs.Failing.{none_fails}
use Rattle.o2_laws.proofs.Found.{each_of, passes_of_all, none_of}
use Rattle.o2_laws.proofs.Members.{contains_filter, among_contains}
use Rattle.o2_laws.proofs.Held.BitsHeld.{when_some, metadata_bit_held}
use Rattle.o2_laws.proofs.WellRead.{IsWellRead, well_none, list_well}
use Rattle.o2_laws.proofs.Held.HeldTells.{listed_is_inode}

-- ---- a directory with an index
pub record IsIndexed (v : Volume) (d : ℕ) : Type 0 where
  pub inode : is_inode v d ≡ true
  pub directory : is_directory v d ≡ true

pub indexed_is : (v : Volume) (d : ℕ) → Contains (indexed_directories v) d → IsIndexed v d
unfolding indexed_directories is_indexed
indexed_is v d is =
    let at = contains_filter (is_indexed v) (inodes_of v) d is in
    record { inode = listed_is_inode v d at.0; directory = (and_parts (is_directory v d) _ at.1).0 }

-- ---- an index that holds
indexes_hold : (v : Volume) → failing v ≡ [] → dx_faults v ≡ []
unfolding faults
indexes_hold v none = no_check_fails v none check.Dx

pub index_holds : (v : Volume) (d : ℕ) → failing v ≡ [] → Contains (indexed_directories v) d → is_sound_index v (claimed_clusters (claims_before_index v d)) d ≡ true
unfolding holds_index
index_holds v d none is =
    each_of (λ d. holds_index v d ≡ true) (indexed_directories v) d (none_fails (λ d. d) (holds_index v) (indexed_directories v) (indexes_hold v none)) is

-- its root and its lists
record IsWellFormed (v : Volume) (d : ℕ) : Type 0 where
  root : has_sound_index_root v d ≡ true
  lists : has_sound_index_lists v d ≡ true

well_formed : (v : Volume) (claimed : List ℕ) (d : ℕ) → is_sound_index v claimed d ≡ true → IsWellFormed v d
unfolding is_sound_index
well_formed v claimed d h = record { root = grind arith; lists = grind arith }

index_formed : (v : Volume) (d : ℕ) → failing v ≡ [] → Contains (indexed_directories v) d → IsWellFormed v d
index_formed v d none is = well_formed v (claimed_clusters (claims_before_index v d)) d (index_holds v d none is)

-- ---- its own blocks
own_block_held : (v : Volume) (o : Origin) (b : ℕ) → is_own_block v o b ≡ true → is_held v b ≡ true
unfolding is_own_block
own_block_held v o b h =
    metadata_bit_held v b
    (when_some (is_on_metadata_bit v b ≡ true) (has_slot_and_bit v o b) (group_with_bit v are_metadata b) (λ g is. rw is refl)
    (and_parts (option_map_or (has_slot_and_bit v o b) (group_with_bit v are_metadata b) false) _ h).0)

pub index_root_held : (v : Volume) (d : ℕ) → failing v ≡ [] → Contains (indexed_directories v) d → is_held v (index_root v d) ≡ true
index_root_held v d none is =
    own_block_held v (index_root_origin v (index_root v d)) (index_root v d) (and_parts (is_index_root v d (index_root v d)) _ (index_formed v d none is).root).1

-- ---- its list
-- what is read of it, where there is one
pub inline_index_extents : (v : Volume) (d : ℕ) → is_inline_index v (index_root v d) ≡ true → index_extents v d ≡ nothing_read
unfolding index_extents
inline_index_extents v d inline = rw (and_right (is_index_root v d (index_root v d)) (not (is_inline_index v (index_root v d))) (not_from_true _ inline)) refl

pub index_well : (v : Volume) (d : ℕ) → IsWellRead v (ToClusters 3) (index_extents v d)
unfolding index_extents
index_well v d = elim (cases_Bool (is_index_root v d (index_root v d) && not (is_inline_index v (index_root v d)))) [
  | inl has ↦ rw has (list_well v (ToClusters 3) (index_root v d) 0xc0 _)
  | inr none ↦ rw none (well_none v (ToClusters 3))
]

record IsWellListed (v : Volume) (d : ℕ) : Type 0 where
  faults : (index_extents v d).faults ≡ []
  blocks : list_all (λ b. is_own_block v (extent_block_origin v b) b) (index_extents v d).blocks ≡ true

lists_parts : (v : Volume) (d : ℕ) → has_sound_index_lists v d ≡ true → IsWellListed v d
lists_parts v d h = elim (cases_Bool (is_inline_index v (index_root v d))) [
  | inl inline ↦
      let none = inline_index_extents v d inline in
      record { faults = rw none refl; blocks = rw none refl }
  | inr list ↦
      let own = list_all (λ b. is_own_block v (extent_block_origin v b) b) (index_extents v d).blocks in
      let all : (is_none_of (index_extents v d).faults && own && list_all (is_sound_index_leaf v) (index_leaves v d)) ≡ true = rw list at h in
      let both = and_parts (is_none_of (index_extents v d).faults) own (and_parts (is_none_of (index_extents v d).faults && own) _ all).0 in
      record { faults = none_of (index_extents v d).faults both.0; blocks = both.1 }
]

pub index_reads : (v : Volume) (d : ℕ) → failing v ≡ [] → Contains (indexed_directories v) d → (index_extents v d).faults ≡ []
index_reads v d none is = (lists_parts v d (index_formed v d none is).lists).faults

pub index_block_held : (v : Volume) (d b : ℕ) → failing v ≡ [] → Contains (indexed_directories v) d → among (index_extents v d).blocks b ≡ true → is_held v b ≡ true
index_block_held v d b none is h =
    own_block_held v (extent_block_origin v b) b
    (passes_of_all (λ b. is_own_block v (extent_block_origin v b) b) (index_extents v d).blocks b (lists_parts v d (index_formed v d none is).lists).blocks
    (among_contains (index_extents v d).blocks b h))

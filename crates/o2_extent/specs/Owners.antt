-- The owners of leaf records: dinodes, index roots and refcount roots.
use Rattle.std.specs.Prelude.{◌≡◌, ℕ, ◌+◌, ◌-◌, ◌*◌, ◌/◌, ◌≤◌, Bool, true, ◌&&◌, ◌||◌, not, ◌==◌, List, [], ◌∷◌, length, drop, Option, Some, None, if◌then◌else◌}
use Rattle.o2_ondisk.specs.Bits.{has_bits, inline_index_flag}
use Rattle.o2_ondisk.specs.DxListHeaders.{dx_list_header_of}
use Rattle.o2_ondisk.specs.DxRoots.{dx_root_of, dx_root_list_place, dx_root_records_place}
use Rattle.o2_ondisk.specs.Signatures.{dx_root_signature, refcount_block_signature}
use Rattle.o2_model.specs.Orders.{is_none_of}
use Rattle.o2_model.specs.declared.check.Check.TheVariants as check
use Rattle.o2_model.specs.declared.leaf.Leaf.{Leaf}
use Rattle.o2_model.specs.Volume.{Volume, block_size}
use Rattle.o2_model.specs.Faults.{fails_unless}
use Rattle.o2_model.specs.Extents.{Extents, nothing_read, read_list}
use Rattle.o2_model.specs.Extents.LeafRule.{ToClusters}
use Rattle.o2_model.specs.Inodes.{extents}
use Rattle.o2_model.specs.Indexes.{dx_root, is_index_root, is_inline_index, is_sound_dx_list}
use Rattle.o2_model.specs.RefcountTrees.{refcount_block, leaf_list}
use Rattle.o2_model.specs.Checks.Extent.{extent_faults}
use Rattle.o2_model.specs.Checks.RefTree.{is_sound_root_block}
use Rattle.o2_view.specs.OwnChecks.{OwnCheck}

-- ---- what a block says that it is
-- it has the signature of an index root
abbrev pub says_index_root : Volume → ℕ → Bool
says_index_root v b = (dx_root v b).signature.0 == dx_root_signature

-- it has that of a refcount block
abbrev pub says_refcount_root : Volume → ℕ → Bool
says_refcount_root v b = (refcount_block v b).signature.0 == refcount_block_signature

-- ---- index roots
-- it is an index root of this volume, of its own number and of the directory that it names
abbrev pub is_some_index_root : Volume → ℕ → Bool
is_some_index_root v b = is_index_root v (dx_root v b).dir_blkno b

-- what is read of the list in an index root, where there is one
unfoldable pub index_list : Volume → ℕ → Extents
index_list v b =
    if is_some_index_root v b && not (is_inline_index v b)
    then read_list v (ToClusters 3) b dx_root_list_place ((block_size v - dx_root_records_place) / 16)
    else nothing_read

-- it is an index root, and what stands in it is well formed: the head of its list of entries, or its list of leaves
unfoldable pub is_sound_index_root : Volume → ℕ → Bool
is_sound_index_root v b =
    is_some_index_root v b
    && (if is_inline_index v b then is_sound_dx_list v dx_root_list_place b else is_none_of (index_list v b).faults)

-- where the entries of an index stand in a root of these bytes, they lie within it
abbrev pub HasRoomForEntries : List ℕ → Type 0
HasRoomForEntries bytes =
    has_bits (dx_root_of bytes).flags inline_index_flag ≡ true
    → dx_root_list_place + 8 + 16 * (dx_list_header_of (drop dx_root_list_place bytes)).num_used ≤ length bytes

-- ---- any owner
-- what is read of the owner's list, where it has one
abbrev pub owner_extents : Volume → ℕ → Extents
owner_extents v b =
    if says_index_root v b then index_list v b
    else if says_refcount_root v b then leaf_list v b
    else extents v b

-- the leaf records of the owner, without those of 0 clusters
abbrev pub owner_records : Volume → ℕ → List Leaf
owner_records v b = (owner_extents v b).leaves

-- the leaf records of an owner that is sound
abbrev pub where_sound : Bool → List Leaf → Option (List Leaf)
where_sound sound leaves = if sound then Some leaves else None

-- EXTENT, of what is read as a dinode
abbrev pub dinode_faults : Volume → ℕ → List ℕ
dinode_faults v b = if says_index_root v b || says_refcount_root v b then [] else extent_faults v b

-- REF_TREE of a refcount root, at the root alone
abbrev pub refcount_root_faults : Volume → ℕ → List ℕ
refcount_root_faults v b = if not (says_index_root v b) && says_refcount_root v b then fails_unless b (is_sound_root_block v b) else []

-- DX of an index root, at the root alone
abbrev pub index_root_faults : Volume → ℕ → List ℕ
index_root_faults v b = if says_index_root v b then fails_unless b (is_sound_index_root v b) else []

-- what a reader of the records of the owner judges
abbrev pub owner_checks : ℕ → List OwnCheck
owner_checks owner =
    record { check = check.Extent; faults = λ v. dinode_faults v owner }
    ∷ record { check = check.RefTree; faults = λ v. refcount_root_faults v owner }
    ∷ record { check = check.Dx; faults = λ v. index_root_faults v owner }
    ∷ []

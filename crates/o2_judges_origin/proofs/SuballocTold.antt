-- Rows tell of their blocks what INODE_SUBALLOC and META_SUBALLOC ask.
use Rattle.std.proofs.Common.{◌≡◌, inl, inr, ℕ, Bool, not, List, [], ◌++◌, map, filter, flat_map, if◌then◌else◌, refl, sym, ◌∙◌, ap}
use Rattle.std.proofs.lemmas.Bool.{cases_Bool}
use Rattle.std.proofs.lemmas.Grind.{flat_map-append}
use Rattle.o2_model.specs.declared.check.Check.TheVariants as check
use Rattle.o2_model.specs.Faults.{fails_unless}
use Rattle.o2_model.specs.Volume.{Volume}
use Rattle.o2_model.specs.Allocators.{are_inodes, are_metadata}
use Rattle.o2_model.specs.Groups.{inodes_of}
use Rattle.o2_model.specs.Inodes.{extent_blocks_of}
use Rattle.o2_model.specs.Metadata.{has_origin, extent_block_origin, refcount_block_origin, list_blocks}
use Rattle.o2_model.specs.RefcountTrees.{is_refcount_block, refcount_roots, refcount_leaves, leaf_list}
use Rattle.o2_model.specs.Checks.InodeSuballoc.{inode_suballoc_faults}
use Rattle.o2_model.specs.Checks.MetaSuballoc.{extent_blocks, roots_and_leaves}
use Rattle.o2_model.specs.Failing.{faults}
use Rattle.o2_tables.specs.declared.inodes.ExtentBlockRow.{ExtentBlockRow}
use Rattle.o2_tables.specs.declared.inodes.InodeRow.{InodeRow}
use Rattle.o2_tables.specs.declared.refcounts.RefcountBlockRow.{RefcountBlockRow}
use Rattle.o2_tables.specs.declared.refcounts.RefcountTreeRow.{RefcountTreeRow}
use Rattle.o2_tables.specs.Rows.{AreExtentBlockRows, IsInodeTable, IsRefcountBlockRow, IsRefcountTreeTable}
use Rattle.o2_judges_alloc.proofs.RowsTold.{each_is}
use Rattle.o2_judges_origin.specs.OriginRows.{inode_row_faults, extent_block_faults, refcount_block_faults, list_faults, tree_list_faults, root_faults, leaf_faults}
use Rattle.o2_judges_origin.proofs.FlatMaps.{rows_give, within_give, passed_give, fails_one_by_one}

-- ---- INODE_SUBALLOC
pub inodes_told : (v : Volume) (rows : List InodeRow) → IsInodeTable v rows → flat_map (inode_row_faults v are_inodes) rows ≡ faults v check.InodeSuballoc
unfolding faults
inodes_told v rows table =
    rows_give (λ r. r.block) (inode_row_faults v are_inodes) (inode_suballoc_faults v) rows (inodes_of v) table.inodes
    (each_is (λ r is. ap (λ o. fails_unless r.block (has_origin v are_inodes o r.block)) is.origin) rows table.each)

-- ---- META_SUBALLOC
module _ (v : Volume) where
  abbrev is_extent_origin : ℕ → Bool
  is_extent_origin b = has_origin v are_metadata (extent_block_origin v b) b

  abbrev is_refcount_origin : ℕ → Bool
  is_refcount_origin b = has_origin v are_metadata (refcount_block_origin v b) b

  abbrev extent_fault : ℕ → List ℕ
  extent_fault b = fails_unless b (is_extent_origin b)

  abbrev refcount_fault : ℕ → List ℕ
  refcount_fault b = if is_refcount_block v b then fails_unless b (is_refcount_origin b) else []

  -- one row, and rows
  extent_rows_told : (blocks : List ℕ) (rows : List ExtentBlockRow) → AreExtentBlockRows v blocks rows → flat_map (extent_block_faults v are_metadata) rows ≡ flat_map extent_fault blocks
  extent_rows_told blocks rows are =
      rows_give (λ r. r.block) (extent_block_faults v are_metadata) extent_fault rows blocks are.listed
      (each_is (λ r is. ap (λ o. fails_unless r.block (has_origin v are_metadata o r.block)) is.origin) rows are.each)

  refcount_row_told : (r : RefcountBlockRow) → IsRefcountBlockRow v r → refcount_block_faults v are_metadata r ≡ refcount_fault r.block
  refcount_row_told r row = elim (cases_Bool r.is_refcount_block) [
    | inl is ↦ rw (is, sym row.is ∙ is) (ap (λ o. fails_unless r.block (has_origin v are_metadata o r.block)) (row.origin is))
    | inr other ↦ rw (other, sym row.is ∙ other) refl
  ]

  -- each of the four lists
  lists_told : (rows : List InodeRow) → IsInodeTable v rows → flat_map (list_faults v are_metadata) rows ≡ flat_map extent_fault (list_blocks v)
  unfolding list_blocks
  lists_told rows table =
      rows_give (λ r. r.block) (list_faults v are_metadata) (λ b. flat_map extent_fault (extent_blocks_of v b)) rows (inodes_of v) table.inodes
      (each_is (λ r is. extent_rows_told (extent_blocks_of v r.block) r.extent_blocks is.extent_blocks) rows table.each)
      ∙ sym (within_give extent_fault (extent_blocks_of v) (inodes_of v))

  tree_lists_told : (rows : List RefcountTreeRow) → IsRefcountTreeTable v rows → flat_map (tree_list_faults v are_metadata) rows ≡ flat_map extent_fault (flat_map (λ root. (leaf_list v root).blocks) (refcount_roots v))
  tree_lists_told rows table =
      rows_give (λ t. t.root.block) (tree_list_faults v are_metadata) (λ root. flat_map extent_fault (leaf_list v root).blocks) rows (refcount_roots v) table.roots
      (each_is (λ t is. extent_rows_told (leaf_list v t.root.block).blocks t.extent_blocks is.extent_blocks) rows table.each)
      ∙ sym (within_give extent_fault (λ root. (leaf_list v root).blocks) (refcount_roots v))

  roots_told : (rows : List RefcountTreeRow) → IsRefcountTreeTable v rows → flat_map (root_faults v are_metadata) rows ≡ flat_map refcount_fault (refcount_roots v)
  roots_told rows table =
      rows_give (λ t. t.root.block) (root_faults v are_metadata) refcount_fault rows (refcount_roots v) table.roots (each_is (λ t is. refcount_row_told t.root is.root) rows table.each)

  leaves_told : (rows : List RefcountTreeRow) → IsRefcountTreeTable v rows → flat_map (leaf_faults v are_metadata) rows ≡ flat_map refcount_fault (flat_map (refcount_leaves v) (refcount_roots v))
  leaves_told rows table =
      rows_give (λ t. t.root.block) (leaf_faults v are_metadata) (λ root. flat_map refcount_fault (refcount_leaves v root)) rows (refcount_roots v) table.roots
      (each_is
      (λ t is. rows_give (λ r. r.block) (refcount_block_faults v are_metadata) refcount_fault t.leaves (refcount_leaves v t.root.block) is.named (each_is (λ r row. refcount_row_told r row) t.leaves is.leaves))
      rows table.each)
      ∙ sym (within_give refcount_fault (refcount_leaves v) (refcount_roots v))

  -- and all of them, in order
  pub metadata_told : (inodes : List InodeRow) (trees : List RefcountTreeRow) → IsInodeTable v inodes → IsRefcountTreeTable v trees
      → (flat_map (list_faults v are_metadata) inodes ++ flat_map (tree_list_faults v are_metadata) trees) ++ (flat_map (root_faults v are_metadata) trees ++ flat_map (leaf_faults v are_metadata) trees) ≡ faults v check.MetaSuballoc
  unfolding faults
  metadata_told inodes trees inode_table tree_table =
      ap (λ ns. ns ++ (flat_map (root_faults v are_metadata) trees ++ flat_map (leaf_faults v are_metadata) trees)) extents
      ∙ ap (λ ns. fails ++ ns) refcounts
    where
      fails : List ℕ
      fails = map (λ b. b) (filter (λ b. not (is_extent_origin b)) (extent_blocks v))

      extents : flat_map (list_faults v are_metadata) inodes ++ flat_map (tree_list_faults v are_metadata) trees ≡ fails
      extents =
          ap (λ ns. ns ++ flat_map (tree_list_faults v are_metadata) trees) (lists_told inodes inode_table)
          ∙ (ap (λ ns. flat_map extent_fault (list_blocks v) ++ ns) (tree_lists_told trees tree_table)
          ∙ (sym (flat_map-append extent_fault (list_blocks v) (flat_map (λ root. (leaf_list v root).blocks) (refcount_roots v)))
          ∙ sym (fails_one_by_one is_extent_origin (extent_blocks v))))

      refcounts : flat_map (root_faults v are_metadata) trees ++ flat_map (leaf_faults v are_metadata) trees ≡ map (λ b. b) (filter (λ b. not (is_refcount_origin b)) (filter (is_refcount_block v) (roots_and_leaves v)))
      refcounts =
          ap (λ ns. ns ++ flat_map (leaf_faults v are_metadata) trees) (roots_told trees tree_table)
          ∙ (ap (λ ns. flat_map refcount_fault (refcount_roots v) ++ ns) (leaves_told trees tree_table)
          ∙ (sym (flat_map-append refcount_fault (refcount_roots v) (flat_map (refcount_leaves v) (refcount_roots v)))
          ∙ (sym (passed_give (is_refcount_block v) (λ b. fails_unless b (is_refcount_origin b)) (roots_and_leaves v))
          ∙ sym (fails_one_by_one is_refcount_origin (filter (is_refcount_block v) (roots_and_leaves v))))))

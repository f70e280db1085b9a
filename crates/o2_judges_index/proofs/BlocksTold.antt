-- Rows tell the uses of metadata blocks, and the groups where these are.
use Rattle.std.proofs.Common.{◌≡◌, inl, inr, ℕ, Bool, false, ◌&&◌, List, [], ◌∷◌, ◌++◌, map, flat_map, find, refl, ◌∙◌, ap, arith, true}
use Rattle.std.specs.List.{AllByRecursion, list_all}
use Rattle.std.specs.Option.{option_map, option_map_or}
use Rattle.std.proofs.lemmas.Bool.{cases_Bool, and_parts}
use Rattle.o2_model.specs.declared.allocator.BitUse.{BitUse}
use Rattle.o2_model.specs.declared.allocator.Group.{Group}
use Rattle.o2_model.specs.declared.origin.Origin.{Origin}
use Rattle.o2_model.specs.Volume.{Volume}
use Rattle.o2_model.specs.Groups.{groups}
use Rattle.o2_model.specs.Indexes.{index_root, index_blocks, indexed_directories, all_index_blocks}
use Rattle.o2_model.specs.Metadata.{is_on_bit, has_slot_and_bit, group_with_bit, metadata_blocks, extent_block_origin}
use Rattle.o2_model.specs.SoundIndexes.{is_own_block}
use Rattle.o2_tables.specs.declared.inodes.ExtentBlockRow.{ExtentBlockRow}
use Rattle.o2_tables.specs.declared.inodes.InodeRow.{InodeRow}
use Rattle.o2_tables.specs.declared.refcounts.RefcountTreeRow.{RefcountTreeRow}
use Rattle.o2_tables.specs.Rows.{IsExtentBlockRow, AreExtentBlockRows, IsInodeTable, IsRefcountTreeTable}
use Rattle.o2_tree.specs.declared.indexes.IndexRow.{IndexRow}
use Rattle.o2_tree.specs.TreeRows.{IsIndexRow, IsIndexTable}
use Rattle.o2_judges_alloc.specs.MetadataRows.{uses_of}
use Rattle.o2_judges_alloc.proofs.MetadataTold.{flat_rows, uses_are}
use Rattle.o2_judges_alloc.proofs.RowsTold.{each_is}
use Rattle.o2_judges_origin.specs.Placed.{place_of}
use Rattle.o2_judges_origin.proofs.BitsOfBlocks.{bit_of, within_group}
use Rattle.o2_judges_index.specs.IndexRows.{is_placed_in, blocks_of_row}

-- ---- where a block is from
pub place_told : (v : Volume) (is_use : BitUse → Bool) (o : Origin) (b : ℕ)
    → option_map_or (is_placed_in o b) (option_map place_of (group_with_bit v is_use b)) false ≡ option_map_or (has_slot_and_bit v o b) (group_with_bit v is_use b) false
unfolding group_with_bit
place_told v is_use o b = go (groups v)
  where
    asked : Group → Bool
    asked g = is_use g.of.bit_use && is_on_bit v b g

    one : (g : Group) → asked g ≡ true → is_placed_in o b (place_of g) ≡ has_slot_and_bit v o b g
    one g is =
        let inside = within_group v g b (and_parts (is_use g.of.bit_use) _ is).1 in
        rw (bit_of v g b (omega (arith, inside.0)) inside.1) refl

    go : (gs : List Group) → option_map_or (is_placed_in o b) (option_map place_of (find asked gs)) false ≡ option_map_or (has_slot_and_bit v o b) (find asked gs) false
    go [] = refl
    go (g ∷ gs) = elim (cases_Bool (asked g)) [
      | inl is ↦ rw is (one g is)
      | inr other ↦ rw other (go gs)
    ]

-- ---- the blocks of indexes
pub row_blocks : (v : Volume) (r : IndexRow) → IsIndexRow v r → blocks_of_row r ≡ index_blocks v r.directory
unfolding index_blocks
row_blocks v r is = ap (λ b. b ∷ map (λ x. x.block) r.extent_blocks) is.root ∙ ap (λ bs. index_root v r.directory ∷ bs) is.extent_blocks.listed

all_blocks : (v : Volume) (rows : List IndexRow) → IsIndexTable v rows → flat_map blocks_of_row rows ≡ all_index_blocks v
unfolding all_index_blocks
all_blocks v rows table =
    flat_rows (λ r. r.directory) blocks_of_row (index_blocks v) rows (indexed_directories v) table.directories (each_is (λ r is. row_blocks v r is) rows table.each)

-- and all uses of metadata blocks
pub all_uses : (v : Volume) (inodes : List InodeRow) (trees : List RefcountTreeRow) (indexes : List IndexRow) → IsInodeTable v inodes → IsRefcountTreeTable v trees → IsIndexTable v indexes
    → uses_of inodes trees ++ flat_map blocks_of_row indexes ≡ metadata_blocks v ++ all_index_blocks v
all_uses v inodes trees indexes first second third =
    ap (λ bs. bs ++ flat_map blocks_of_row indexes) (uses_are v inodes trees first second) ∙ ap (λ bs. metadata_blocks v ++ bs) (all_blocks v indexes third)

-- ---- the extent blocks of one index
pub own_rows : (v : Volume) (blocks : List ℕ) (rows : List ExtentBlockRow) → AreExtentBlockRows v blocks rows
    → list_all (λ r. is_own_block v r.origin r.block) rows ≡ list_all (λ b. is_own_block v (extent_block_origin v b) b) blocks
own_rows v blocks rows are = go rows are.each ∙ ap (list_all (λ b. is_own_block v (extent_block_origin v b) b)) are.listed
  where
    go : (rs : List ExtentBlockRow) → AllByRecursion (IsExtentBlockRow v) rs
        → list_all (λ r. is_own_block v r.origin r.block) rs ≡ list_all (λ b. is_own_block v (extent_block_origin v b) b) (map (λ r. r.block) rs)
    go [] all = refl
    go (r ∷ rs) all =
        ap (λ o. is_own_block v o r.block && list_all (λ x. is_own_block v x.origin x.block) rs) all.0.origin
        ∙ ap (λ b. is_own_block v (extent_block_origin v r.block) r.block && b) (go rs all.1)

-- What the row of an index keeps is what the definitions have.
use Rattle.std.proofs.Common.{◌≡◌, ℕ, Bool, true, false, ◌&&◌, ◌==◌, List, [], ◌∷◌, map, refl, sym, ◌∙◌, ap, subst}
use Rattle.std.specs.List.{AllByRecursion}
use Rattle.std.proofs.lemmas.Bool.{false≢true, eq-eqb}
use Rattle.o2_model.specs.Extents.{Extents, nothing_read}
use Rattle.o2_model.specs.Indexes.{dx_root, index_root, is_index_root, index_extents}
use Rattle.o2_model.specs.Volume.{Volume, is_in_range}
use Rattle.o2_extent.specs.Owners.{is_some_index_root}
use Rattle.o2_extent.specs.Readings.{IsListBlock, AreListBlocks}
use Rattle.o2_extent.specs.declared.list_block.ListBlock.{ListBlock}
use Rattle.o2_tables.specs.Rows.{run_of, IsExtentBlockRow, AreExtentBlockRows}
use Rattle.o2_tables.specs.declared.inodes.ExtentBlockRow.{ExtentBlockRow}
use Rattle.o2_tree.specs.TreeRows.{is_sound_index_alone, IsIndexRow}
use Rattle.o2_tree.specs.declared.indexes.IndexRow.{IndexRow}
use Rattle.o2_indexes.specs.Readings.{origin_row}

-- ---- an index root of this directory
first_holds : (a b : Bool) → (a && b) ≡ true → a ≡ true
first_holds true b both = refl
first_holds false b both = both

-- one of any directory is one of this where it names it
pub by_directory : (v : Volume) (d b : ℕ) → is_some_index_root v b ≡ true → ((dx_root v b).dir_blkno == d) ≡ is_index_root v d b
unfolding is_index_root
by_directory v d b is = sym (ap (λ one. one && (dx_root v b).dir_blkno == d) (first_holds _ _ is))

pub no_root : (v : Volume) (d b : ℕ) → is_some_index_root v b ≡ false → false ≡ is_index_root v d b
unfolding is_index_root
no_root v d b other = sym (ap (λ one. one && (dx_root v b).dir_blkno == d) (first_fails _ _ (eq-eqb (dx_root v b).dir_blkno (dx_root v b).dir_blkno refl) other))
  where
    first_fails : (a b : Bool) → b ≡ true → (a && b) ≡ false → a ≡ false
    first_fails true b is fails = sym is ∙ fails
    first_fails false b is fails = refl

pub out_of_range : (v : Volume) (d b : ℕ) → is_in_range v b ≡ false → is_index_root v d b ≡ false
unfolding is_index_root
out_of_range v d b out = rw out refl

-- ---- rows of extent blocks
same_blocks : (blocks : List ListBlock) → map (λ r. r.block) (map origin_row blocks) ≡ map (λ r. r.block) blocks
same_blocks [] = refl
same_blocks (b ∷ bs) = ap (λ ns. b.block ∷ ns) (same_blocks bs)

origins_told : (v : Volume) (blocks : List ListBlock) → AllByRecursion (IsListBlock v) blocks → AllByRecursion (IsExtentBlockRow v) (map origin_row blocks)
origins_told v [] each = tt
origins_told v (b ∷ bs) each =
    (record { origin = ap (λ fields. record { slot = fields.suballoc_slot; bit = fields.suballoc_bit; loc = fields.suballoc_loc }) each.0.fields }, origins_told v bs each.1)

pub blocks_told : (v : Volume) (listed : List ℕ) (blocks : List ListBlock) (rows : List ExtentBlockRow) → rows ≡ map origin_row blocks → AreListBlocks v listed blocks → AreExtentBlockRows v listed rows
blocks_told v listed blocks rows is are =
    subst (AreExtentBlockRows v listed) (sym is) (record { listed = same_blocks blocks ∙ are.listed; each = origins_told v blocks are.each })

-- ---- a root that is none of the directory
no_extents : (v : Volume) (d : ℕ) → is_index_root v d (index_root v d) ≡ false → index_extents v d ≡ nothing_read
unfolding index_extents
no_extents v d none = rw none refl

not_sound : (v : Volume) (d : ℕ) → is_index_root v d (index_root v d) ≡ false → false ≡ is_sound_index_alone v d
unfolding is_sound_index_alone
not_sound v d none = rw none refl

pub row_without_root_told : (v : Volume) (row : IndexRow) → row.root.block ≡ index_root v row.directory → is_index_root v row.directory (index_root v row.directory) ≡ false
    → row.extent_blocks ≡ [] → row.runs ≡ [] → row.is_sound_alone ≡ false → IsIndexRow v row
row_without_root_told v row root none blocks runs bad = record {
  root = root;
  alone = bad ∙ not_sound v row.directory none;
  origin = λ good. absurd (false≢true (sym bad ∙ good));
  extent_blocks =
      subst (AreExtentBlockRows v (index_extents v row.directory).blocks) (sym blocks)
      (record { listed = sym (ap (λ (t : Extents). t.blocks) (no_extents v row.directory none)); each = tt });
  runs = runs ∙ sym (ap (λ (t : Extents). map (run_of v) t.leaves) (no_extents v row.directory none));
}

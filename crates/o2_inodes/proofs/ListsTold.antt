-- What the lists of an inode give: what its own list does, and nothing where it has none.
use Rattle.std.proofs.Common.{◌≡◌, inl, inr, ℕ, List, [], ◌∷◌, map, refl, sym, ◌∙◌, ap}
use Rattle.std.specs.Prelude.{flat_map}
use Rattle.std.specs.List.{AllByRecursion}
use Rattle.std.proofs.lemmas.Bool.{cases_Bool}
use Rattle.std.proofs.lemmas.List.{append-nil}
use Rattle.o2_model.specs.Volume.{Volume}
use Rattle.o2_model.specs.Extents.{Extents, nothing_read}
use Rattle.o2_model.specs.Inodes.{extents, has_list, extent_lists_of, extent_blocks_of, leaf_records, records_of}
use Rattle.o2_model.specs.Checks.EbNext.{leaf_blocks, next_faults}
use Rattle.o2_extent.specs.Readings.{IsListBlock, AreListBlocks}
use Rattle.o2_extent.specs.declared.list_block.ListBlock.{ListBlock}
use Rattle.o2_tables.specs.Rows.{IsExtentBlockRow, AreExtentBlockRows}
use Rattle.o2_tables.specs.declared.inodes.ExtentBlockRow.{ExtentBlockRow}
use Rattle.o2_indexes.specs.Readings.{origin_row}

pub own_list_gives : {A : Type 0} (f : Extents → List A) → f nothing_read ≡ [] → (v : Volume) (b : ℕ) → flat_map f (extent_lists_of v b) ≡ f (extents v b)
unfolding extent_lists_of extents
own_list_gives f none v b = elim (cases_Bool (has_list v b)) [
  | inl has ↦ rw has (append-nil _)
  | inr no_list ↦ rw no_list (sym none)
]

nothing_next : (v : Volume) → next_faults v (leaf_blocks v nothing_read) ≡ []
unfolding leaf_blocks
nothing_next v = refl

pub next_of_lists : (v : Volume) (b : ℕ) → flat_map (λ t. next_faults v (leaf_blocks v t)) (extent_lists_of v b) ≡ next_faults v (leaf_blocks v (extents v b))
next_of_lists v b = own_list_gives (λ t. next_faults v (leaf_blocks v t)) (nothing_next v) v b

-- ---- extent blocks
same_blocks : (rows : List ListBlock) → map (λ r. r.block) (map origin_row rows) ≡ map (λ r. r.block) rows
same_blocks [] = refl
same_blocks (r ∷ rs) = ap (λ bs. r.block ∷ bs) (same_blocks rs)

origin_told : (v : Volume) (r : ListBlock) → IsListBlock v r → IsExtentBlockRow v (origin_row r)
origin_told v r is = record { origin = ap (λ fields. record { slot = fields.suballoc_slot; bit = fields.suballoc_bit; loc = fields.suballoc_loc }) is.fields }

origins_told : (v : Volume) (rows : List ListBlock) → AllByRecursion (IsListBlock v) rows → AllByRecursion (IsExtentBlockRow v) (map origin_row rows)
origins_told v [] each = tt
origins_told v (r ∷ rs) each = (origin_told v r each.0, origins_told v rs each.1)

blocks_told : (v : Volume) (blocks : List ℕ) (read : List ListBlock) (rows : List ExtentBlockRow) → AreListBlocks v blocks read → rows ≡ map origin_row read → AreExtentBlockRows v blocks rows
blocks_told v blocks read rows are is = rw is (record { listed = same_blocks read ∙ are.listed; each = origins_told v read are.each })

pub blocks_of_lists_told : (v : Volume) (b : ℕ) (read : List ListBlock) (rows : List ExtentBlockRow) → AreListBlocks v (extents v b).blocks read → rows ≡ map origin_row read → AreExtentBlockRows v (extent_blocks_of v b) rows
blocks_of_lists_told v b read rows are is = rw (own_list_gives (λ t. t.blocks) refl v b) (blocks_told v (extents v b).blocks read rows are is)

pub records_of_list : (v : Volume) (b : ℕ) → records_of v b ≡ leaf_records v b
records_of_list v b = own_list_gives (λ t. t.leaves) refl v b

-- Rows tell of their groups what the checks of groups ask.
use Rattle.std.proofs.Common.{◌≡◌, ℕ, ◌+◌, ◌^◌, ◌<◌, true, false, ◌&&◌, ◌||◌, not, ◌==◌, List, map, filter, count_by, refl, ◌∙◌, ap, arith}
use Rattle.std.specs.Bool.{beq}
use Rattle.std.specs.BTreeSet.{BTreeSet}
use Rattle.std.specs.List.{AllByRecursion, range_with_len, list_all}
use Rattle.std.proofs.Math.Nat.{mod-eq_of_lt}
use Rattle.o2_model.specs.declared.allocator.BitUse.{BitUse}
use Rattle.o2_model.specs.declared.allocator.BitUse.TheVariants.{Clusters, Inodes, Metadata}
use Rattle.o2_model.specs.declared.check.Check.TheVariants as check
use Rattle.o2_model.specs.Words.{among}
use Rattle.o2_model.specs.Faults.{fails_at}
use Rattle.o2_model.specs.Orders.{from_to}
use Rattle.o2_model.specs.Volume.{Volume, blocks}
use Rattle.o2_model.specs.Allocators.{are_clusters, are_inodes, are_metadata}
use Rattle.o2_model.specs.Groups.{groups, group_desc, is_bit_set, is_bit_set_in, is_of_clusters, is_inode, block_of_bit}
use Rattle.o2_model.specs.Failing.{faults}
use Rattle.o2_model.specs.Checks.GroupFreeBits.{has_free_bits as model_free_bits}
use Rattle.o2_model.specs.Checks.InodeAllocBit.{has_inodes_at_bits as model_inodes_at_bits}
use Rattle.o2_model.specs.Checks.BlockAllocBit.{blocks_in_use, has_bits_of_blocks as model_bits_of_blocks}
use Rattle.o2_tally.specs.Again.{has_number}
use Rattle.o2_tables.specs.declared.groups.GroupRow.{GroupRow}
use Rattle.o2_tables.specs.Rows.{IsGroupRow, IsGroupTable}
use Rattle.o2_judges_alloc.specs.GroupRows.{has_chain, has_free_bits, block_at, may_have_inode, has_inodes_at_bits, is_set_for_use, has_bits_of_blocks}
use Rattle.o2_judges_alloc.proofs.GoodGroups.{IsGoodGroup, groups_good, some_bits, within}
use Rattle.o2_judges_alloc.proofs.Ranges.{same_count, same_test_from_one}
use Rattle.o2_judges_alloc.proofs.RowsTold.{rows_tell, all_rows_tell, each_is, each_both, each_row}

-- ---- GROUP_CHAIN
pub chain_told : (v : Volume) (rows : List GroupRow) → IsGroupTable v rows → fails_at (λ r. r.group.block) has_chain rows ≡ faults v check.GroupChain
unfolding faults
chain_told v rows table =
    all_rows_tell (λ r. r.group) (λ g. g.block) (λ g. (group_desc v g.block).chain == g.chain) has_chain rows (groups v) table.groups
    (each_is (λ r is. ap (λ n. n == r.group.chain) is.chain) rows table.each)

-- ---- GROUP_FREE_BITS
row_free_bits : (v : Volume) (r : GroupRow) → IsGroupRow v r → has_free_bits r ≡ model_free_bits v r.group
unfolding model_free_bits
row_free_bits v r is =
    ap (λ n. n == count_by (λ k. not (is_bit_set_in 0 r.bitmap k)) (range_with_len 0 r.group.bits)) is.free_bits
    ∙ ap (λ n. (group_desc v r.group.block).free_bits_count == n)
    (same_count (λ k. not (is_bit_set_in 0 r.bitmap k)) (λ k. not (is_bit_set v r.group.block k)) 0 r.group.bits (λ k low. ap not (is.bits k (omega (arith, low)))))

pub free_bits_told : (v : Volume) (rows : List GroupRow) → IsGroupTable v rows → fails_at (λ r. r.group.block) has_free_bits rows ≡ faults v check.GroupFreeBits
unfolding faults
free_bits_told v rows table =
    all_rows_tell (λ r. r.group) (λ g. g.block) (model_free_bits v) has_free_bits rows (groups v) table.groups
    (each_is (λ r is. row_free_bits v r is) rows table.each)

-- ---- groups of blocks
-- the row tells what its group says, and the group is a good one
pub record IsGoodRow (v : Volume) (r : GroupRow) : Type 0 where
  pub row : IsGroupRow v r
  pub good : IsGoodGroup v r.group

pub good_rows : (v : Volume) (rows : List GroupRow) → IsGroupTable v rows → AllByRecursion (IsGoodRow v) rows
good_rows v rows table =
    each_both (λ r is good. record { row = is; good = good }) rows table.each (each_row (λ r. r.group) (IsGoodGroup v) rows (groups v) table.groups (groups_good v))

-- the numbers of its blocks have 64 bits
block_fits : (v : Volume) (r : GroupRow) (k : ℕ) → blocks v < 2 ^ 64 → IsGoodRow v r → is_of_clusters r.group ≡ false → k < r.group.bits → block_at r k ≡ r.group.block + k
block_fits v r k few is other low =
    let end = within v r.group is.good other in
    let fits : r.group.block + k < 2 ^ 64 = omega (arith, end, low, few) in
    mod-eq_of_lt fits

first_bit : (v : Volume) (r : GroupRow) → IsGoodRow v r → is_of_clusters r.group ≡ false → is_bit_set_in 0 r.bitmap 0 ≡ is_bit_set v r.group.block 0
first_bit v r is other = let two = some_bits v r.group is.good other in is.row.bits 0 (omega (arith, two))

inodes_not_clusters : (u : BitUse) → are_inodes u ≡ true → are_clusters u ≡ false
inodes_not_clusters Clusters h = cc
inodes_not_clusters Inodes h = refl
inodes_not_clusters Metadata h = refl

pub metadata_not_clusters : (u : BitUse) → are_metadata u ≡ true → are_clusters u ≡ false
metadata_not_clusters Clusters h = cc
metadata_not_clusters Inodes h = refl
metadata_not_clusters Metadata h = refl

-- ---- INODE_ALLOC_BIT
row_inode_bits : (v : Volume) (inodes : BTreeSet ℕ) (r : GroupRow) → blocks v < 2 ^ 64 → ((b : ℕ) → has_number inodes b ≡ is_inode v b) → IsGoodRow v r → is_of_clusters r.group ≡ false
    → has_inodes_at_bits inodes r ≡ model_inodes_at_bits v r.group
unfolding model_inodes_at_bits
row_inode_bits v inodes r few are is other =
    ap (λ b. b && list_all (may_have_inode inodes r) (from_to 1 r.group.bits)) (first_bit v r is other)
    ∙ ap (λ b. is_bit_set v r.group.block 0 && b)
    (same_test_from_one (may_have_inode inodes r) (λ k. not (is_bit_set v r.group.block k) || is_inode v (block_of_bit v r.group k)) r.group.bits
    (λ k low. ap (λ b. not b || has_number inodes (block_at r k)) (is.row.bits k low)
    ∙ ap (λ b. not (is_bit_set v r.group.block k) || b) (ap (has_number inodes) (block_fits v r k few is other low) ∙ are (r.group.block + k))))

pub inode_bits_told : (v : Volume) (inodes : BTreeSet ℕ) (rows : List GroupRow) → blocks v < 2 ^ 64 → IsGroupTable v rows → ((b : ℕ) → has_number inodes b ≡ is_inode v b)
    → map (λ r. r.group.block) (filter (λ r. are_inodes r.group.of.bit_use && not (has_inodes_at_bits inodes r)) rows) ≡ faults v check.InodeAllocBit
unfolding faults
inode_bits_told v inodes rows few table are =
    rows_tell (λ r. r.group) (λ g. g.block) (λ g. are_inodes g.of.bit_use) (model_inodes_at_bits v) (has_inodes_at_bits inodes) rows (groups v) table.groups
    (each_is (λ r is asked. row_inode_bits v inodes r few are is (inodes_not_clusters r.group.of.bit_use asked)) rows (good_rows v rows table))

-- ---- BLOCK_ALLOC_BIT
row_block_bits : (v : Volume) (in_use : BTreeSet ℕ) (r : GroupRow) → blocks v < 2 ^ 64 → ((b : ℕ) → has_number in_use b ≡ among (blocks_in_use v) b) → IsGoodRow v r → is_of_clusters r.group ≡ false
    → has_bits_of_blocks in_use r ≡ model_bits_of_blocks v r.group
unfolding model_bits_of_blocks
row_block_bits v in_use r few are is other =
    ap (λ b. b && list_all (is_set_for_use in_use r) (from_to 1 r.group.bits)) (first_bit v r is other)
    ∙ ap (λ b. is_bit_set v r.group.block 0 && b)
    (same_test_from_one (is_set_for_use in_use r) (λ k. beq (is_bit_set v r.group.block k) (among (blocks_in_use v) (block_of_bit v r.group k))) r.group.bits
    (λ k low. ap (λ b. beq b (has_number in_use (block_at r k))) (is.row.bits k low)
    ∙ ap (beq (is_bit_set v r.group.block k)) (ap (has_number in_use) (block_fits v r k few is other low) ∙ are (r.group.block + k))))

pub block_bits_told : (v : Volume) (in_use : BTreeSet ℕ) (rows : List GroupRow) → blocks v < 2 ^ 64 → IsGroupTable v rows → ((b : ℕ) → has_number in_use b ≡ among (blocks_in_use v) b)
    → map (λ r. r.group.block) (filter (λ r. are_metadata r.group.of.bit_use && not (has_bits_of_blocks in_use r)) rows) ≡ faults v check.BlockAllocBit
unfolding faults
block_bits_told v in_use rows few table are =
    rows_tell (λ r. r.group) (λ g. g.block) (λ g. are_metadata g.of.bit_use) (model_bits_of_blocks v) (has_bits_of_blocks in_use) rows (groups v) table.groups
    (each_is (λ r is asked. row_block_bits v in_use r few are is (metadata_not_clusters r.group.of.bit_use asked)) rows (good_rows v rows table))

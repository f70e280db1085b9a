-- What the checks of groups ask of a row.
use Rattle.std.specs.Prelude.{◌≡◌, ℕ, ◌+◌, ◌%◌, ◌^◌, Bool, ◌&&◌, ◌||◌, not, ◌==◌, List, map, filter, count_by}
use Rattle.std.specs.Bool.{beq}
use Rattle.std.specs.List.{range_with_len, list_all}
use Rattle.std.specs.BTreeSet.{BTreeSet}
use Rattle.o2_model.specs.Words.{among}
use Rattle.o2_model.specs.Orders.{from_to}
use Rattle.o2_model.specs.Groups.{is_bit_set_in, is_of_clusters}
use Rattle.o2_tally.specs.Again.{has_number}
use Rattle.o2_tables.specs.declared.groups.GroupRow.{GroupRow}

-- ---- its own numbers
abbrev pub has_chain : GroupRow → Bool
has_chain r = r.chain == r.group.chain

abbrev pub has_free_bits : GroupRow → Bool
has_free_bits r = r.free_bits == count_by (λ k. not (is_bit_set_in 0 r.bitmap k)) (range_with_len 0 r.group.bits)

-- the blocks of the groups of the global bitmap
abbrev pub bitmap_blocks : List GroupRow → List ℕ
bitmap_blocks rows = map (λ r. r.group.block) (filter (λ r. is_of_clusters r.group) rows)

-- The numbers that are kept are those blocks.
pub record AreReached (rows : List GroupRow) (kept : BTreeSet ℕ) : Type 0 where
  pub each : (b : ℕ) → has_number kept b ≡ among (bitmap_blocks rows) b

-- ---- its bits, beside a set of blocks
-- the number of 64 bits of the block that bit k stands for
abbrev pub block_at : GroupRow → ℕ → ℕ
block_at r k = (r.group.block + k) % 2 ^ 64

-- bit k is clear, or stands for one of the inodes
abbrev pub may_have_inode : BTreeSet ℕ → GroupRow → ℕ → Bool
may_have_inode inodes r k = not (is_bit_set_in 0 r.bitmap k) || has_number inodes (block_at r k)

abbrev pub has_inodes_at_bits : BTreeSet ℕ → GroupRow → Bool
has_inodes_at_bits inodes r = is_bit_set_in 0 r.bitmap 0 && list_all (may_have_inode inodes r) (from_to 1 r.group.bits)

-- bit k is set just where its block is in use
abbrev pub is_set_for_use : BTreeSet ℕ → GroupRow → ℕ → Bool
is_set_for_use in_use r k = beq (is_bit_set_in 0 r.bitmap k) (has_number in_use (block_at r k))

abbrev pub has_bits_of_blocks : BTreeSet ℕ → GroupRow → Bool
has_bits_of_blocks in_use r = is_bit_set_in 0 r.bitmap 0 && list_all (is_set_for_use in_use r) (from_to 1 r.group.bits)

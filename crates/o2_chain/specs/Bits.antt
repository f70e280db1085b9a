-- Bits that are set or cleared.
use Rattle.std.specs.Prelude.{◌≡◌, ℕ, ◌-◌, ◌^◌, ◌<◌, Bool, ◌&&◌, nat_le, nat_lt, List, length, slice_index, if◌then◌else◌}
use Rattle.o2_ondisk.specs.Fields.{IsOutside}
use Rattle.o2_ondisk.specs.GroupDescs.{group_desc_of, group_desc_fields}
use Rattle.o2_model.specs.Groups.{is_bit_set_in}
use Rattle.o2_chain.specs.Edits.{clear_after}

-- these bits with those from `first` on and below `end` set, or clear
abbrev pub changed_bits : ℕ → ℕ → Bool → (ℕ → Bool) → ℕ → Bool
changed_bits first end set old k = if nat_le first k && nat_lt k end then set else old k

-- The bytes of a group's block once its bits from `first` on and below `end` are set, or clear, and counted.
pub record IsChangedGroup (old new : List ℕ) (first end : ℕ) (set : Bool) : Type 0 where
  pub fields : group_desc_of new ≡ record (group_desc_of old) { free_bits_count = clear_after (2 ^ 16) set (group_desc_of old).free_bits_count (end - first) }
  pub bits : (k : ℕ) → is_bit_set_in 0x40 new k ≡ changed_bits first end set (is_bit_set_in 0x40 old) k
  pub others : (i : ℕ) → IsOutside group_desc_fields i → i < 0x40 → slice_index new i ≡ slice_index old i
  pub size : length new ≡ length old

-- What it is to set or to clear the bits of a run of clusters in the global bitmap, with all counts above them.
use Rattle.std.specs.Prelude.{◌≡◌, ◌⊎◌, ℕ, ◌+◌, ◌-◌, ◌*◌, ◌%◌, ◌^◌, ◌<◌, ◌≤◌, Bool, true, false, ◌&&◌, ◌==◌, nat_lt, List, [], ◌∷◌, map, filter, count_by, sum_by, length, slice_index, if◌then◌else◌}
use Rattle.std.specs.List.{range_with_len, enumerate_from, Contains}
use Rattle.o2_ondisk.specs.Fields.{IsOutside}
use Rattle.o2_ondisk.specs.Dinodes.{dinode_fields, list_records_place}
use Rattle.o2_ondisk.specs.GroupDescs.{group_desc_fields}
use Rattle.o2_ondisk.specs.declared.chain_rec.ChainRec.{ChainRec}
use Rattle.o2_model.specs.declared.allocator.Allocator.{Allocator}
use Rattle.o2_model.specs.declared.allocator.Group.{Group as Walked}
use Rattle.o2_model.specs.Words.{among}
use Rattle.o2_model.specs.Volume.{Volume, dinode}
use Rattle.o2_model.specs.Allocators.{chains, chain_list_header, used_of, total_of}
use Rattle.o2_model.specs.Groups.{group_desc, is_bit_set}
use Rattle.o2_model.specs.Checks.ClusterAllocBit.{cluster_of_bit}
use Rattle.o2_view.specs.declared.run.Run.{Run}
use Rattle.o2_view.specs.FreeRuns.{is_of_run}

-- ---- what the run has of the groups
-- how many bits of the group stand for clusters of the run
abbrev pub shared_bits : Volume → Run → Walked → ℕ
shared_bits v run g = count_by (λ k. is_of_run (cluster_of_bit v g k) run) (range_with_len 0 g.bits)

-- how many bits of these groups do
abbrev pub shared_by : Volume → Run → List Walked → ℕ
shared_by v run groups = sum_by (shared_bits v run) groups

-- the group has a cluster of the run
abbrev pub shares : Volume → Run → Walked → Bool
shares v run g = nat_lt 0 (shared_bits v run g)

-- the blocks of those of the groups that have
abbrev pub shared_blocks : Volume → Run → List Walked → List ℕ
shared_blocks v run groups = map (λ g. g.block) (filter (shares v run) groups)

-- the blocks that change for the run: these, and that of the allocator where there are such
abbrev pub edited_blocks : Volume → Run → Allocator → List Walked → List ℕ
edited_blocks v run a groups = if nat_lt 0 (shared_by v run groups) then a.block ∷ shared_blocks v run groups else []

-- ---- counts
-- A count of clear bits of a field of so many values, once `count` bits more are set, or clear, as the field holds it.
abbrev pub clear_after : ℕ → Bool → ℕ → ℕ → ℕ
clear_after values set old count = (if set then old + (values - count % values) else old + count) % values

-- a count of set bits alike
abbrev pub set_after : ℕ → Bool → ℕ → ℕ → ℕ
set_after values set old count = (if set then old + count else old + (values - count % values)) % values

-- ---- one group, and the allocator
-- The group as it is once its bits of the run are set, or clear.
pub record IsEditedGroup (old new : Volume) (set : Bool) (run : Run) (g : Walked) : Type 0 where
  pub fields : group_desc new g.block ≡ record (group_desc old g.block) { free_bits_count = clear_after (2 ^ 16) set (group_desc old g.block).free_bits_count (shared_bits old run g) }
  pub bits : (k : ℕ) → is_bit_set new g.block k ≡ (if nat_lt k g.bits && is_of_run (cluster_of_bit old g k) run then set else is_bit_set old g.block k)
  pub others : (i : ℕ) → IsOutside group_desc_fields i → i < 0x40 → slice_index (new.at g.block) i ≡ slice_index (old.at g.block) i
  pub size : length (new.at g.block) ≡ length (old.at g.block)

-- a chain record as it is then, where its chain has these groups
abbrev pub edited_chain : Volume → Bool → Run → List Walked → ℕ × ChainRec → ChainRec
edited_chain v set run groups c =
    record c.1 { free = clear_after (2 ^ 32) set c.1.free (shared_by v run (filter (λ g. g.chain == c.0) groups)) }

-- The allocator's dinode as it is then.
pub record IsEditedAllocator (old new : Volume) (set : Bool) (run : Run) (a : Allocator) (groups : List Walked) : Type 0 where
  pub fields : dinode new a.block ≡ record (dinode old a.block) {
    role_data = record { 0 = set_after (2 ^ 32) set (used_of (dinode old a.block).role_data) (shared_by old run groups) + 2 ^ 32 * total_of (dinode old a.block).role_data };
  }
  pub header : chain_list_header new a.block ≡ chain_list_header old a.block
  pub records : chains new a ≡ map (edited_chain old set run groups) (enumerate_from 0 (chains old a))
  -- bytes that are of no field of the dinode and of no chain record
  pub others : (i : ℕ) → IsOutside dinode_fields i → (i < list_records_place) ⊎ (list_records_place + 16 * length (chains old a) ≤ i)
      → slice_index (new.at a.block) i ≡ slice_index (old.at a.block) i
  pub size : length (new.at a.block) ≡ length (old.at a.block)

-- ---- the volume
-- The groups that share clusters with the run as they are once its bits are set, or clear. Nothing else has changed.
pub record AreEditedGroups (old new : Volume) (set : Bool) (run : Run) (groups : List Walked) : Type 0 where
  pub numbers : new.geo ≡ old.geo
  pub device : new.on_device ≡ old.on_device
  pub group : (g : Walked) → Contains groups g → shares old run g ≡ true → IsEditedGroup old new set run g
  pub others : (b : ℕ) → among (shared_blocks old run groups) b ≡ false → new.at b ≡ old.at b

-- The volume once the bits of the run are set, or clear, in these groups of the allocator, with the counts above them. A group
-- that shares no cluster with the run stays, and where none does the allocator stays too. Nothing else has changed.
pub record IsEdited (old new : Volume) (set : Bool) (run : Run) (a : Allocator) (groups : List Walked) : Type 0 where
  pub numbers : new.geo ≡ old.geo
  pub device : new.on_device ≡ old.on_device
  pub group : (g : Walked) → Contains groups g → shares old run g ≡ true → IsEditedGroup old new set run g
  pub allocator : 0 < shared_by old run groups → IsEditedAllocator old new set run a groups
  pub others : (b : ℕ) → among (edited_blocks old run a groups) b ≡ false → new.at b ≡ old.at b

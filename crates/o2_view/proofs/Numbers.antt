-- What SUPER tells of the numbers of a volume.
use Rattle.std.proofs.Common.{◌≡◌, ℕ, ◌<◌, ◌≤◌, true, ◌&&◌, not, ◌==◌, nat_le, nat_lt, arith}
use Rattle.std.proofs.lemmas.Bool.{and_parts}
use Rattle.std.proofs.lemmas.Bool.Decides.{nat_tests}
use Rattle.std.specs.Prelude.{◌≢◌}
use Rattle.o2_model.specs.Volume.{Volume, blocks, is_in_range}
use Rattle.o2_model.specs.Checks.Super.{is_super_dinode, has_sound_sizes, has_sound_first_group, has_sound_directories, has_sound_numbers, is_sound_super}
use Rattle.o2_view.specs.Geos.{bare, blocks_of, HasNumbers}

at_most : (n m : ℕ) → nat_le n m ≡ true → n ≤ m
at_most n m h = grind (arith, nat_tests)

below : (n m : ℕ) → nat_lt n m ≡ true → n < m
below n m h = grind (arith, nat_tests)

differ : (n m : ℕ) → not (n == m) ≡ true → n ≢ m
differ n m h is = grind (arith, nat_tests)

-- ---- its parts
module _ (v : Volume) (numbers : has_sound_numbers v ≡ true) where
  sizes_and_group_and_length : (has_sound_sizes v && has_sound_first_group v && nat_le (blocks v) v.on_device) ≡ true
  sizes_and_group_and_length = let parts = and_parts (has_sound_sizes v && has_sound_first_group v && nat_le (blocks v) v.on_device) (has_sound_directories v) numbers in parts.0

  directories : has_sound_directories v ≡ true
  directories = let parts = and_parts (has_sound_sizes v && has_sound_first_group v && nat_le (blocks v) v.on_device) (has_sound_directories v) numbers in parts.1

  sizes_and_group : (has_sound_sizes v && has_sound_first_group v) ≡ true
  sizes_and_group = let parts = and_parts (has_sound_sizes v && has_sound_first_group v) (nat_le (blocks v) v.on_device) sizes_and_group_and_length in parts.0

  sizes : has_sound_sizes v ≡ true
  sizes = let parts = and_parts (has_sound_sizes v) (has_sound_first_group v) sizes_and_group in parts.0

  some_slots : 1 ≤ v.geo.slots
  some_slots =
      let parts = and_parts (nat_le 12 v.geo.cluster_bits && nat_le v.geo.cluster_bits 20 && nat_le 1 v.geo.slots) (nat_le v.geo.slots 255) sizes in
      let first = and_parts (nat_le 12 v.geo.cluster_bits && nat_le v.geo.cluster_bits 20) (nat_le 1 v.geo.slots) parts.0 in
      at_most 1 v.geo.slots first.1

  few_slots : v.geo.slots ≤ 255
  few_slots = let parts = and_parts (nat_le 12 v.geo.cluster_bits && nat_le v.geo.cluster_bits 20 && nat_le 1 v.geo.slots) (nat_le v.geo.slots 255) sizes in at_most v.geo.slots 255 parts.1

  first_group : has_sound_first_group (bare v.geo) ≡ true
  first_group = let parts = and_parts (has_sound_sizes v) (has_sound_first_group v) sizes_and_group in parts.1

  both_in_range : (is_in_range v v.geo.root && is_in_range v v.geo.sysdir) ≡ true
  both_in_range = let parts = and_parts (is_in_range v v.geo.root && is_in_range v v.geo.sysdir) (not (v.geo.root == v.geo.sysdir)) directories in parts.0

  root_in_range : (0 < v.geo.root) × (v.geo.root < blocks_of v.geo)
  root_in_range =
      let parts = and_parts (is_in_range v v.geo.root) (is_in_range v v.geo.sysdir) both_in_range in
      let tests = and_parts (nat_lt 0 v.geo.root) (nat_lt v.geo.root (blocks v)) parts.0 in
      (below 0 v.geo.root tests.0, below v.geo.root (blocks v) tests.1)

  sysdir_in_range : (0 < v.geo.sysdir) × (v.geo.sysdir < blocks_of v.geo)
  sysdir_in_range =
      let parts = and_parts (is_in_range v v.geo.root) (is_in_range v v.geo.sysdir) both_in_range in
      let tests = and_parts (nat_lt 0 v.geo.sysdir) (nat_lt v.geo.sysdir (blocks v)) parts.1 in
      (below 0 v.geo.sysdir tests.0, below v.geo.sysdir (blocks v) tests.1)

  apart : v.geo.root ≢ v.geo.sysdir
  apart = let parts = and_parts (is_in_range v v.geo.root && is_in_range v v.geo.sysdir) (not (v.geo.root == v.geo.sysdir)) directories in differ v.geo.root v.geo.sysdir parts.1

  -- ---- what a call asks
  pub sound_numbers : HasNumbers v.geo
  sound_numbers = record {
    some_slots = some_slots;
    few_slots = few_slots;
    first_group = first_group;
    some_root = root_in_range.0;
    root = root_in_range.1;
    some_sysdir = sysdir_in_range.0;
    sysdir = sysdir_in_range.1;
    apart = apart;
  }

-- ---- where SUPER holds
pub has_numbers : (v : Volume) → is_sound_super v ≡ true → HasNumbers v.geo
unfolding is_sound_super
has_numbers v sound = sound_numbers v (let parts = and_parts (is_super_dinode v) (has_sound_numbers v) sound in parts.1)

-- What the head of a refcount block's records says, where it is sound.
use Rattle.std.proofs.Common.{◌≡◌, ℕ, ◌+◌, ◌-◌, ◌*◌, ◌/◌, nat_le, ◌≤◌, Bool, ◌&&◌, true, false, length, refl, ◌∙◌, arith}
use Rattle.std.proofs.lemmas.List.FromFn.{length-range_with_len}
use Rattle.std.proofs.lemmas.Bool.{false≢true}
use Rattle.std.proofs.lemmas.Bool.Decides.{nat_tests}
use Rattle.std.proofs.lemmas.List.{length-map}
use Rattle.o2_model.specs.RefcountTrees.{refcount_header, refcount_records, is_refcount_block, is_sound_refcount_header}
use Rattle.o2_model.specs.Volume.{Volume, block_size, is_in_range}

first_holds : (x y : Bool) → (x && y) ≡ true → x ≡ true
first_holds true y both = refl
first_holds false y both = both

second_holds : (x y : Bool) → (x && y) ≡ true → y ≡ true
second_holds true y both = both
second_holds false y both = absurd (false≢true both)

room_of : (count used size : ℕ) → (nat_le count ((size - 0x90) / 16) && nat_le used count) ≡ true → 512 ≤ size → 0x90 + 16 * used ≤ size
room_of count used size sound long =
    let fits : count ≤ (size - 0x90) / 16 = grind (arith, nat_tests) in
    let few : used ≤ count = grind (arith, nat_tests) in
    omega (arith, fits, few, long)

in_range_of : (v : Volume) (b : ℕ) → is_refcount_block v b ≡ true → is_in_range v b ≡ true
unfolding is_refcount_block
in_range_of v b is = first_holds _ _ (first_holds _ _ (first_holds _ _ is))

-- the records fit the block
pub room : (v : Volume) (b : ℕ) → (is_refcount_block v b && is_sound_refcount_header v b) ≡ true → 512 ≤ block_size v → 0x90 + 16 * (refcount_header v b).used ≤ block_size v
room v b good long = let sound = second_holds _ _ good in room_of (refcount_header v b).count (refcount_header v b).used (block_size v) sound long

-- the block is one that structures can be in
pub in_range : (v : Volume) (b : ℕ) → (is_refcount_block v b && is_sound_refcount_header v b) ≡ true → is_in_range v b ≡ true
in_range v b good = in_range_of v b (first_holds _ _ good)

-- and there are as many as it says
pub records_used : (v : Volume) (b : ℕ) → (is_refcount_block v b && is_sound_refcount_header v b) ≡ true → length (refcount_records v b) ≡ (refcount_header v b).used
unfolding refcount_records
records_used v b good = rw good (length-map _ _ ∙ length-range_with_len 0 (refcount_header v b).used)

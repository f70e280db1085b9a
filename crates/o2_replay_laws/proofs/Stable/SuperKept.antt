-- A change of block 2 that is allowed keeps the signature, the sizes, the generation and the place of the system directory, so that the
-- superblock is found as before.
use Rattle.std.proofs.Common.{◌≡◌, ◌⊎◌, inl, inr, ⊎_elim, ℕ, ◌+◌, ◌*◌, ◌/◌, ◌^◌, ◌<◌, ◌≤◌, true, ◌&&◌, nat_le, List, length, drop, refl, sym, ◌∙◌, ap, subst, arith, Some, length-drop}
use Rattle.std.specs.Prelude.{◌==◌, bytes_eq, nat_lt}
use Rattle.std.specs.List.{list_all}
use Rattle.std.proofs.lemmas.Bool.{cases_eq, and_parts}
use Rattle.std.proofs.lemmas.Slice.Eq.{bytes_eq-Decides}
use Rattle.std.proofs.lemmas.List.{length-take-le}
use Rattle.std.proofs.lemmas.Nat.{pow-add}
use Rattle.std.proofs.Math.Nat.{pow-le-pow_right}
use Rattle.o2_ondisk.specs.Number.{number_at}
use Rattle.o2_ondisk.specs.Fields.{paste_at, bytes_at}
use Rattle.o2_ondisk.proofs.NumberLaws.{number_at-drop}
use Rattle.o2_ondisk.proofs.PasteLaws.{number_at-paste_at_apart, length-paste_at}
use Rattle.o2_ondisk.specs.Signatures.{superblock_signature}
use Rattle.o2_disk.specs.Image.{Image, sector, block_at}
use Rattle.o2_disk.proofs.Images.{block_at-same}
use Rattle.o2_model.specs.Superblock.{has_super, superblock_bits, block_sizes}
use Rattle.o2_model.specs.Geometry.{geometry_in_block}
use Rattle.o2_model.specs.Volume.{Volume}
use Rattle.o2_model.specs.Logs.{LoggedBlock}
use Rattle.o2_model.specs.Dirty.{dirty_slots}
use Rattle.o2_model.specs.Anchors.{with_old_numbers, clusters_in, slots_in, is_super_change}
use Rattle.o2_laws.proofs.SameSuperblock.{find_same, sizes_rise}

-- the numbers lie apart from i_clusters, s_max_slots and s_label
pub record IsKeptPlace (from width : ℕ) : Type 0 where
  pub clusters : (from + width ≤ 0x14) ⊎ (0x18 ≤ from)
  pub slots : (from + width ≤ 0x100) ⊎ (0x102 ≤ from)
  pub label : (from + width ≤ 0x110) ⊎ (0x150 ≤ from)

-- What the bytes of block 2 tell alike.
pub record SuperKept (old new : List ℕ) : Type 0 where
  pub signature : number_at 0x0 8 new ≡ number_at 0x0 8 old
  pub block_bits : (geometry_in_block new).block_bits ≡ (geometry_in_block old).block_bits
  pub cluster_bits : (geometry_in_block new).cluster_bits ≡ (geometry_in_block old).cluster_bits
  pub generation : (geometry_in_block new).generation ≡ (geometry_in_block old).generation
  pub sysdir : (geometry_in_block new).sysdir ≡ (geometry_in_block old).sysdir

pub kept_itself : (old new : List ℕ) → new ≡ old → SuperKept old new
kept_itself old new same = record { signature = rw same refl; block_bits = rw same refl; cluster_bits = rw same refl; generation = rw same refl; sysdir = rw same refl }

module _ (old new : List ℕ) (long : 512 ≤ length old) (enough : 512 ≤ length new) (is : with_old_numbers old new ≡ old) where
  length-part : (at count : ℕ) → at + count ≤ 512 → length (bytes_at at count old) ≡ count
  length-part at count fits = length-take-le count (drop at old) (omega (arith, length-drop at old, long, fits))

  labelled : List ℕ
  labelled = paste_at 0x110 (bytes_at 0x110 64 old) new

  counted : List ℕ
  counted = paste_at 0x100 (bytes_at 0x100 2 old) labelled

  length-labelled : length labelled ≡ length new
  unfolding labelled
  length-labelled = length-paste_at 0x110 (bytes_at 0x110 64 old) new (omega (arith, enough, length-part 0x110 64 (omega arith)))

  length-counted : length counted ≡ length new
  unfolding counted
  length-counted = length-paste_at 0x100 (bytes_at 0x100 2 old) labelled (omega (arith, enough, length-labelled, length-part 0x100 2 (omega arith))) ∙ length-labelled

  number_kept : (from width : ℕ) → IsKeptPlace from width → number_at from width new ≡ number_at from width old
  unfolding labelled counted
  number_kept from width place =
      let one = length-part 0x14 4 (omega arith) in
      let two = length-part 0x100 2 (omega arith) in
      let three = length-part 0x110 64 (omega arith) in
      sym (number_at-paste_at_apart 0x110 (bytes_at 0x110 64 old) new (omega (arith, enough, three)) from width (⊎_elim (λ low. inl low) (λ high. inr (omega (arith, high, three))) place.label))
      ∙ (sym (number_at-paste_at_apart 0x100 (bytes_at 0x100 2 old) labelled (omega (arith, enough, length-labelled, two)) from width
      (⊎_elim (λ low. inl low) (λ high. inr (omega (arith, high, two))) place.slots))
      ∙ (sym (number_at-paste_at_apart 0x14 (bytes_at 0x14 4 old) counted (omega (arith, enough, length-counted, one)) from width
      (⊎_elim (λ low. inl low) (λ high. inr (omega (arith, high, one))) place.clusters))
      ∙ ap (number_at from width) is))

  -- in the super's part
  part_kept : (at width : ℕ) → IsKeptPlace (0xc0 + at) width → number_at at width (drop 0xc0 new) ≡ number_at at width (drop 0xc0 old)
  part_kept at width place = number_at-drop at width 0xc0 new ∙ (number_kept (0xc0 + at) width place ∙ sym (number_at-drop at width 0xc0 old))

  pub numbers_kept : SuperKept old new
  numbers_kept = record {
    signature = number_kept 0x0 8 (record { clusters = inl (omega arith); slots = inl (omega arith); label = inl (omega arith) });
    block_bits = part_kept 0x38 4 (record { clusters = inr (omega arith); slots = inl (omega arith); label = inl (omega arith) });
    cluster_bits = part_kept 0x3c 4 (record { clusters = inr (omega arith); slots = inl (omega arith); label = inl (omega arith) });
    generation = number_kept 0x60 4 (record { clusters = inr (omega arith); slots = inl (omega arith); label = inl (omega arith) });
    sysdir = part_kept 0x30 8 (record { clusters = inr (omega arith); slots = inl (omega arith); label = inl (omega arith) });
  }

-- an allowed change of block 2
pub super_change_keeps : (v : Volume) (w : LoggedBlock) → 512 ≤ length (v.at 2) → 512 ≤ length w.bytes → is_super_change v w ≡ true → SuperKept (v.at 2) w.bytes
unfolding is_super_change
super_change_keeps v w long enough h =
    let one = and_parts (w.block == 2 && bytes_eq (with_old_numbers (v.at 2) w.bytes) (v.at 2) && nat_le (clusters_in w.bytes) (2 ^ 30)
    && list_all (λ slot. nat_lt slot (slots_in w.bytes)) (dirty_slots v)) _ h in
    let two = and_parts (w.block == 2 && bytes_eq (with_old_numbers (v.at 2) w.bytes) (v.at 2) && nat_le (clusters_in w.bytes) (2 ^ 30)) _ one.0 in
    let three = and_parts (w.block == 2 && bytes_eq (with_old_numbers (v.at 2) w.bytes) (v.at 2)) _ two.0 in
    let four = and_parts (w.block == 2) _ three.0 in
    numbers_kept (v.at 2) w.bytes long enough ((bytes_eq-Decides _ _).0 four.1)

-- ---- where the superblock is
super_found_alike : (J F : Image) (bits : ℕ) → length F ≡ length J → SuperKept (block_at (2 ^ bits) J 2) (block_at (2 ^ bits) F 2) → has_super F bits ≡ has_super J bits
unfolding has_super
super_found_alike J F bits size kept =
    ap (λ n. nat_le (3 * 2 ^ bits) (512 * n) && number_at 0x0 8 (block_at (2 ^ bits) F 2) == superblock_signature && (geometry_in_block (block_at (2 ^ bits) F 2)).block_bits == bits) size
    ∙ (ap (λ n. nat_le (3 * 2 ^ bits) (512 * length J) && n == superblock_signature && (geometry_in_block (block_at (2 ^ bits) F 2)).block_bits == bits) kept.signature
    ∙ ap (λ n. nat_le (3 * 2 ^ bits) (512 * length J) && number_at 0x0 8 (block_at (2 ^ bits) J 2) == superblock_signature && n == bits) kept.block_bits)

-- block 2 of smaller blocks lies before block 2
small_block : (k : ℕ) (J F : Image) (bits small : ℕ) → 2 ^ bits ≡ 512 * k → small < bits → ((s : ℕ) → s < 2 * k → sector F s ≡ sector J s) → block_at (2 ^ small) F 2 ≡ block_at (2 ^ small) J 2
small_block k J F bits small size less before = block_at-same (2 ^ small) F J 2 (λ i low.
    let half : 2 ^ (small + 1) ≤ 2 ^ bits = pow-le-pow_right (omega arith) (omega (arith, less)) in
    let double : 2 ^ (small + 1) ≡ 2 ^ small * 2 = pow-add 2 small 1 in
    before ((2 ^ small * 2 + i) / 512) (omega (arith, half, double, size, low)))

pub bits_alike : (k : ℕ) (J F : Image) (bits : ℕ) → 2 ^ bits ≡ 512 * k → superblock_bits J ≡ Some bits → length F ≡ length J → ((s : ℕ) → s < 2 * k → sector F s ≡ sector J s)
    → SuperKept (block_at (2 ^ bits) J 2) (block_at (2 ^ bits) F 2) → superblock_bits F ≡ Some bits
unfolding superblock_bits
bits_alike k J F bits size is same before kept =
    find_same (has_super J) (has_super F) block_sizes bits sizes_rise (λ small low. elim (cases_eq small bits) [
      | inl here ↦ subst (λ n. has_super F n ≡ has_super J n) (sym here) (super_found_alike J F bits same kept)
      | inr other ↦
          let blocks = small_block k J F bits small size (omega (arith, low, other)) before in
          super_found_alike J F small same (kept_itself (block_at (2 ^ small) J 2) (block_at (2 ^ small) F 2) blocks)
    ]) is

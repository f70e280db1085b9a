-- The record of the first cluster of a slot map.
use Rattle.std.proofs.Common.{◌≡◌, inl, inr, ℕ, ◌+◌, ◌-◌, ◌*◌, ◌^◌, ◌<◌, ◌≤◌, true, false, List, [], ◌∷◌, refl, sym, ◌∙◌, arith}
use Rattle.std.specs.Prelude.{find, Some}
use Rattle.std.proofs.lemmas.Bool.{cases_Bool, cases_lt}
use Rattle.std.proofs.lemmas.Bool.Decides.{nat_tests}
use Rattle.std.proofs.lemmas.List.Sums.{sum_by-cons}
use Rattle.std.proofs.Math.Nat.{mul-le-mul_right}
use Rattle.o2_model.specs.declared.leaf.Leaf.{Leaf}
use Rattle.o2_model.specs.Checks.SlotMap.{slot_entry_size, is_sound_slot_map}
use Rattle.o2_model.specs.Clusters.{cluster_size}
use Rattle.o2_model.specs.Contents.{maps_cluster}
use Rattle.o2_model.specs.Inodes.{leaf_records}
use Rattle.o2_model.specs.LeafRecords.{clusters_in, are_without_gap, follow_from}
use Rattle.o2_extent.specs.Readings.{Within}
use Rattle.o2_extent.proofs.Places.{found_about, found_inside}
use Rattle.o2_model.specs.Volume.{Volume, per_cluster}
use Rattle.o2_model.specs.declared.geo.Geo.{Geo}
use Rattle.o2_view.specs.Geos.{blocks_of}
use Rattle.o2_slots.specs.Entries.{has_extended_entries}
use Rattle.o2_slots.specs.Emptied.{map_place}

-- where records follow one another from cluster 0 on, one of them is about that
followed : (leaves : List Leaf) → follow_from 0 leaves ≡ true → 1 ≤ clusters_in leaves → (leaf : Leaf) × (find (maps_cluster 0) leaves ≡ Some leaf)
followed [] follow some = absurd (omega (arith, some))
followed (x ∷ xs) follow some = elim (cases_lt 0 x.clusters) [
  | inl full ↦
      let begins : x.cpos ≡ 0 = grind (arith, nat_tests) in
      let about : maps_cluster 0 x ≡ true = grind (arith, nat_tests) in
      (x, rw about refl)
  | inr void ↦
      let begins : x.cpos ≡ 0 = grind (arith, nat_tests) in
      let none : x.clusters ≡ 0 = omega (arith, void) in
      let other : maps_cluster 0 x ≡ false = grind (arith, nat_tests) in
      let rest : follow_from (0 + x.clusters) xs ≡ true = grind (arith, nat_tests) in
      let more : follow_from 0 xs ≡ true = rw none at rest in
      let (leaf, is) = followed xs more (omega (arith, some, none, sum_by-cons (λ (leaf : Leaf). leaf.clusters) x xs)) in
      (leaf, rw other is)
]

pub first_record : (v : Volume) (inode : ℕ) → 1 ≤ v.geo.slots → is_sound_slot_map v inode ≡ true → (leaf : Leaf) × (find (maps_cluster 0) (leaf_records v inode) ≡ Some leaf)
unfolding is_sound_slot_map
first_record v inode slots sound =
    let leaves = leaf_records v inode in
    let follow : are_without_gap leaves ≡ true = grind (arith, nat_tests) in
    let room : v.geo.slots * slot_entry_size v ≤ clusters_in leaves * cluster_size v = grind (arith, nat_tests) in
    let needed : v.geo.slots ≤ v.geo.slots * slot_entry_size v = elim (cases_Bool (has_extended_entries v.geo)) [
      | inl extended ↦ rw extended (omega arith)
      | inr short ↦ rw short (omega arith)
    ] in
    elim (cases_lt 0 (clusters_in leaves)) [
      | inl some ↦ followed leaves follow some
      | inr void ↦
          let none : clusters_in leaves ≡ 0 = omega (arith, void) in
          let nothing : v.geo.slots * slot_entry_size v ≤ 0 * cluster_size v = rw none at room in
          absurd (omega (arith, nothing, needed, slots))
    ]

-- the file begins at the record's first block
pub place_of : (v : Volume) (inode : ℕ) (leaf : Leaf) → find (maps_cluster 0) (leaf_records v inode) ≡ Some leaf → leaf.block ≡ map_place v inode
place_of v inode leaf found =
    let none : 0 - leaf.cpos ≡ 0 = omega arith in
    let here : leaf.block ≡ leaf.block + per_cluster v * (0 - leaf.cpos) = rw none (omega arith) in
    here ∙ sym (rw found refl)

-- and its first cluster lies within the volume
pub starts_within : (geo : Geo) (leaves : List Leaf) (leaf : Leaf) → Within geo leaves → Some leaf ≡ find (maps_cluster 0) leaves → leaf.block + 2 ^ (geo.cluster_bits - geo.block_bits) ≤ blocks_of geo
starts_within geo leaves leaf within found =
    let about : maps_cluster 0 leaf ≡ true = found_about 0 leaves leaf found in
    let inside = found_inside geo 0 leaves leaf within found in
    let low : leaf.cpos ≤ 0 = grind (arith, nat_tests) in
    let high : 0 < leaf.cpos + leaf.clusters = grind (arith, nat_tests) in
    let some : 1 ≤ leaf.clusters = omega (arith, low, high) in
    let more : 1 * 2 ^ (geo.cluster_bits - geo.block_bits) ≤ leaf.clusters * 2 ^ (geo.cluster_bits - geo.block_bits) = mul-le-mul_right (2 ^ (geo.cluster_bits - geo.block_bits)) some in
    omega (arith, inside, more)

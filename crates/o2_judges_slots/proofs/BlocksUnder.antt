-- The blocks under leaf records.
use Rattle.std.proofs.Common.{◌≡◌, inl, inr, ℕ, zero, suc, ◌+◌, ◌-◌, ◌*◌, ◌^◌, ◌<◌, ◌≤◌, List, [], ◌∷◌, ◌++◌, length, flat_map, find, refl, sym, ◌∙◌, ap, arith, Some, None}
use Rattle.std.specs.Prelude.{slice_get}
use Rattle.std.specs.List.{range_with_len}
use Rattle.std.proofs.lemmas.Bool.{cases_Bool}
use Rattle.std.proofs.lemmas.Bool.Decides.{nat_tests}
use Rattle.std.proofs.lemmas.List.{length-append}
use Rattle.std.proofs.lemmas.List.FromFn.{length-range_with_len}
use Rattle.std.proofs.lemmas.List.Sums.{sum_by-cons}
use Rattle.std.proofs.Math.Nat.{add-mul, mul-le-mul_right}
use Rattle.std.proofs.Math.Pow.{pow_mono}
use Rattle.o2_model.specs.declared.geo.Geo.{Geo}
use Rattle.o2_model.specs.declared.leaf.Leaf.{Leaf}
use Rattle.o2_model.specs.LeafRecords.{clusters_in, blocks_under}
use Rattle.o2_model.specs.Volume.{Volume, per_cluster}
use Rattle.o2_view.specs.Geos.{blocks_of}
use Rattle.o2_extent.specs.Readings.{IsWithin, Within}
use Rattle.o2_judges_slots.specs.Records.{has_clusters}

-- ---- how many there are
pub blocks_counted : (v : Volume) (leaves : List Leaf) → clusters_in leaves * per_cluster v ≡ length (flat_map (blocks_under v) leaves)
blocks_counted v [] = omega arith
blocks_counted v (x ∷ xs) =
    let pc = per_cluster v in
    let split : length (blocks_under v x ++ flat_map (blocks_under v) xs) ≡ length (blocks_under v x) + length (flat_map (blocks_under v) xs) = length-append (blocks_under v x) (flat_map (blocks_under v) xs) in
    let here : length (blocks_under v x) ≡ x.clusters * pc = length-range_with_len x.block (x.clusters * pc) in
    let total : clusters_in (x ∷ xs) ≡ x.clusters + clusters_in xs = sum_by-cons (λ (leaf : Leaf). leaf.clusters) x xs in
    ap (λ n. n * pc) total ∙ (add-mul x.clusters (clusters_in xs) pc ∙ sym (split ∙ (ap (λ n. n + length (flat_map (blocks_under v) xs)) here ∙ ap (λ n. x.clusters * pc + n) (sym (blocks_counted v xs)))))

-- ---- the first of them
first_in_range : (b n : ℕ) (rest : List ℕ) → 1 ≤ n → slice_get (range_with_len b n ++ rest) 0 ≡ Some b
first_in_range b zero rest some = absurd (omega (arith, some))
first_in_range b (suc n) rest some = refl

some_blocks : (v : Volume) (clusters : ℕ) → 1 ≤ clusters → 1 ≤ clusters * per_cluster v
some_blocks v clusters some =
    let one : 1 ≤ per_cluster v = pow_mono {i = 0} {j = v.geo.cluster_bits - v.geo.block_bits} (omega arith) in
    omega (arith, one, mul-le-mul_right (per_cluster v) some)

pub first_under : (v : Volume) (leaves : List Leaf) (leaf : Leaf) → Some leaf ≡ find has_clusters leaves → Some leaf.block ≡ slice_get (flat_map (blocks_under v) leaves) 0
first_under v [] leaf is = absurd (cc)
first_under v (x ∷ xs) leaf is = elim (cases_Bool (has_clusters x)) [
  | inl has ↦
      let same : leaf ≡ x = (let e : Some leaf ≡ Some x = is ∙ rw has refl in cc) in
      let some : 1 ≤ x.clusters = grind (arith, nat_tests) in
      ap (λ (l : Leaf). Some l.block) same ∙ sym (first_in_range x.block (x.clusters * per_cluster v) (flat_map (blocks_under v) xs) (some_blocks v x.clusters some))
  | inr void ↦
      let none : x.clusters ≡ 0 = grind (arith, nat_tests) in
      let nothing : 0 * per_cluster v ≡ 0 = omega arith in
      rw (none, nothing) (first_under v xs leaf (is ∙ rw void refl))
]

pub none_under : (v : Volume) (leaves : List Leaf) → None ≡ find has_clusters leaves → None ≡ slice_get (flat_map (blocks_under v) leaves) 0
none_under v [] is = refl
none_under v (x ∷ xs) is = elim (cases_Bool (has_clusters x)) [
  | inl has ↦ absurd (let e : None ≡ Some x = is ∙ rw has refl in cc)
  | inr void ↦
      let none : x.clusters ≡ 0 = grind (arith, nat_tests) in
      let nothing : 0 * per_cluster v ≡ 0 = omega arith in
      rw (none, nothing) (none_under v xs (is ∙ rw void refl))
]

-- where the clusters of the records lie within the volume, so does the first block
pub first_inside : (geo : Geo) (leaves : List Leaf) (leaf : Leaf) → Within geo leaves → Some leaf ≡ find has_clusters leaves → leaf.block < blocks_of geo
first_inside geo [] leaf within is = absurd (cc)
first_inside geo (x ∷ xs) leaf within is = elim (cases_Bool (has_clusters x)) [
  | inl has ↦
      let same : leaf ≡ x = (let e : Some leaf ≡ Some x = is ∙ rw has refl in cc) in
      let some : 1 ≤ x.clusters = grind (arith, nat_tests) in
      let one : 1 ≤ 2 ^ (geo.cluster_bits - geo.block_bits) = pow_mono {i = 0} {j = geo.cluster_bits - geo.block_bits} (omega arith) in
      let inside : IsWithin geo x = within 0 x (omega arith) in
      let more : 1 * 2 ^ (geo.cluster_bits - geo.block_bits) ≤ x.clusters * 2 ^ (geo.cluster_bits - geo.block_bits) = mul-le-mul_right (2 ^ (geo.cluster_bits - geo.block_bits)) some in
      rw same (omega (arith, one, inside, more))
  | inr void ↦ first_inside geo xs leaf (λ k d low. within (suc k) d (omega (arith, low))) (is ∙ rw void refl)
]

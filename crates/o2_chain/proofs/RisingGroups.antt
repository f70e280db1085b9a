-- The groups of the global bitmap, by their blocks: each has a place behind the one before.
use Rattle.std.proofs.Common.{◌≡◌, ℕ, zero, suc, ◌+◌, ◌-◌, ◌*◌, ◌/◌, ◌<◌, ◌≤◌, true, List, [], map, length, get_or, refl, sym, ◌∙◌, ap, subst, arith}
use Rattle.std.specs.Prelude.{◌≢◌, nat_eq, min}
use Rattle.std.specs.List.Sorted.{IsPermutation, IsNonDecreasingBy}
use Rattle.std.proofs.Math.Nat.{mul-le-mul_right, div-mul-le_self, add-mul}
use Rattle.std.proofs.lemmas.Nat.{le-div}
use Rattle.std.proofs.lemmas.Bool.Decides.{nat_tests}
use Rattle.std.proofs.lemmas.List.{get_or-map, length-map}
use Rattle.std.proofs.lemmas.List.Elements.{Contains-get_or}
use Rattle.std.proofs.lemmas.List.Sorted.{Contains-permutation, IsPermutation-sym, IsPermutation-map}
use Rattle.std.proofs.lemmas.Map.Keys.{IsDistinct-IsPermutation, IsDistinct-tail, apart_from_distinct}
use Rattle.o2_model.specs.declared.geo.Geo.{Geo}
use Rattle.o2_model.specs.Volume.{Volume, blocks, per_cluster}
use Rattle.o2_model.specs.ClusterGroups.{group_size, group_count, group_place, group_index}
use Rattle.o2_model.specs.Groups.{group_desc}
use Rattle.o2_view.specs.Geos.{HasSizes, blocks_of}
use Rattle.o2_extent.proofs.Sizes.{some_bytes, some_per_cluster}
use Rattle.o2_chain.specs.FreeGroups.{first_cluster, HasPlace}
use Rattle.o2_chain.specs.Met.{IsMet}
use Rattle.o2_chain.specs.Walks.{judged_as, AreSoundGroups}
use Rattle.o2_chain.specs.declared.group.Group.{Group}
use Rattle.o2_chain.proofs.Groups.{groups_met, blocks_apart}

-- ---- one group
-- what the place of a group of the global bitmap says in numbers
record IsPlaced (size clusters index bits : ℕ) : Type 0 where
  few : bits ≤ size
  within : index * size + bits ≤ clusters

placed : (size clusters index bits : ℕ) → 0 < size → index < (clusters + size - 1) / size → bits ≡ min size (clusters - index * size) → IsPlaced size clusters index bits
placed size clusters index bits some low is =
    let count = (clusters + size - 1) / size in
    let more : index + 1 ≤ count = omega (arith, low) in
    let sum : (index + 1) * size ≡ index * size + 1 * size = add-mul index 1 size in
    let inside : index * size < clusters = omega (arith, mul-le-mul_right size more, sum, div-mul-le_self (clusters + size - 1) size, some) in
    record {
      few = omega (arith, is);
      within = omega (arith, is, inside);
    }

div_mono : (m n k : ℕ) → 0 < k → m ≤ n → m / k ≤ n / k
div_mono m n k some low = le-div (m / k) n k some (omega (arith, div-mul-le_self m k, low))

module _ (v : Volume) (sizes : HasSizes v.geo) (bitmap : ℕ) where
  some_size : 0 < group_size v
  some_size = omega (arith, some_bytes v.geo sizes)

  is_placed : (g : Group) → IsMet v (judged_as true bitmap) g → IsPlaced (group_size v) v.geo.clusters (group_index v g.block) g.bits
  is_placed g met =
      let good = met.place refl in
      let low : group_index v g.block < group_count v = grind (arith, nat_tests, good) in
      let bits : (group_desc v g.block).bits ≡ min (group_size v) (v.geo.clusters - group_index v g.block * group_size v) = grind (arith, nat_tests, good) in
      placed (group_size v) v.geo.clusters (group_index v g.block) g.bits some_size low (met.bits ∙ bits)

  in_place : (g : Group) → IsMet v (judged_as true bitmap) g → group_place v (group_index v g.block) ≡ g.block
  in_place g met = let good = met.place refl in grind (arith, nat_tests, good)

  -- a group of a later block has later clusters
  group_behind : (g h : Group) → IsMet v (judged_as true bitmap) g → IsMet v (judged_as true bitmap) h → g.block < h.block → group_index v g.block * group_size v + g.bits ≤ group_index v h.block * group_size v
  group_behind g h met next before =
      let size = group_size v in
      let i = group_index v g.block in
      let j = group_index v h.block in
      let up : i ≤ j = div_mono _ _ size some_size (div_mono g.block h.block (per_cluster v) (some_per_cluster v.geo sizes) (omega (arith, before))) in
      let other : i ≢ j = λ is. omega (arith, before, sym (in_place g met) ∙ (ap (group_place v) is ∙ in_place h next)) in
      let more : i + 1 ≤ j = omega (arith, up, other) in
      let sum : (i + 1) * size ≡ i * size + 1 * size = add-mul i 1 size in
      omega (arith, mul-le-mul_right size more, sum, (is_placed g met).few)

  has_place : (g : Group) (end : ℕ) → IsMet v (judged_as true bitmap) g → end ≤ first_cluster v.geo g.block → HasPlace v.geo end g
  has_place g end met behind =
      let p = is_placed g met in
      record { block = met.below; room = p.few; within = p.within; behind = behind }

-- ---- all groups
module _ (v : Volume) (bitmap : ℕ) (groups sorted : List Group) (sound : AreSoundGroups v (judged_as true bitmap) [] groups) (same : IsPermutation groups sorted) where
  met_at : (i : ℕ) (d : Group) → i < length sorted → IsMet v (judged_as true bitmap) (get_or sorted i d)
  met_at i d low =
      let there = Contains-permutation sorted groups (get_or sorted i d) (IsPermutation-sym groups sorted same) (Contains-get_or sorted i d low) in
      groups_met v (judged_as true bitmap) [] groups sound.met (get_or sorted i d) there

  blocks_differ : (i j : ℕ) (d : Group) → 0 < blocks v → i < j → j < length sorted → (get_or sorted i d).block ≢ (get_or sorted j d).block
  blocks_differ i j d some less low =
      let apart = blocks_apart v (judged_as true bitmap) groups sound.met some in
      let distinct = IsDistinct-tail nat_eq 0 (map (λ (g : Group). g.block) groups) apart.distinct in
      let moved = IsDistinct-IsPermutation nat_eq (λ x y. grind (arith, nat_tests)) (map (λ (g : Group). g.block) groups) (map (λ (g : Group). g.block) sorted) (IsPermutation-map (λ (g : Group). g.block) groups sorted same) distinct in
      let other = apart_from_distinct nat_eq (map (λ (g : Group). g.block) sorted) i j 0 moved less (rw length-map low) in
      let here = get_or-map (λ (g : Group). g.block) sorted i d 0 (omega (arith, less, low)) in
      let there = get_or-map (λ (g : Group). g.block) sorted j d 0 low in
      λ is. grind (arith, nat_tests, other, here, there, is)

  blocks_rise : (i j : ℕ) (d : Group) → IsNonDecreasingBy (λ (g : Group). g.block) sorted → 0 < blocks v → i < j → j < length sorted → (get_or sorted i d).block < (get_or sorted j d).block
  blocks_rise i j d rising some less low =
      let other = blocks_differ i j d some less low in
      omega (arith, rising i j d (omega (arith, less)) low, other)

  -- where the clusters so far end with those of the group before, the next group has a place
  next_here : (end i : ℕ) (d : Group) → HasSizes v.geo → IsNonDecreasingBy (λ (g : Group). g.block) sorted → 0 < blocks v → i < length sorted → (i ≡ 0 → end ≡ 0)
      → ((j : ℕ) (e : Group) → i ≡ j + 1 → end ≡ first_cluster v.geo (get_or sorted j e).block + (get_or sorted j e).bits) → HasPlace v.geo end (get_or sorted i d)
  next_here end zero d sizes rising some low start last = has_place v sizes bitmap (get_or sorted zero d) end (met_at zero d low) (omega (arith, start refl))
  next_here end (suc j) d sizes rising some low start last =
      let behind = group_behind v sizes bitmap (get_or sorted j d) (get_or sorted (suc j) d) (met_at j d (omega (arith, low))) (met_at (suc j) d low) (blocks_rise j (suc j) d rising some (omega arith) low) in
      has_place v sizes bitmap (get_or sorted (suc j) d) end (met_at (suc j) d low) (omega (arith, behind, last j d (omega arith)))

  pub next_has_place : (geo : Geo) → v.geo ≡ geo → (end i : ℕ) (d : Group) → HasSizes geo → IsNonDecreasingBy (λ (g : Group). g.block) sorted → 0 < blocks_of geo → i < length sorted → (i ≡ 0 → end ≡ 0)
      → ((j : ℕ) (e : Group) → i ≡ j + 1 → end ≡ first_cluster geo (get_or sorted j e).block + (get_or sorted j e).bits) → HasPlace geo end (get_or sorted i d)
  next_has_place geo is end i d sizes rising some low start last =
      let old = sym is in
      subst (λ (n : Geo). HasPlace n end (get_or sorted i d)) is
      (next_here end i d
      (subst HasSizes old sizes) rising
      (subst (λ (n : Geo). 0 < blocks_of n) old some) low start
      (subst (λ (n : Geo). (j : ℕ) (e : Group) → i ≡ j + 1 → end ≡ first_cluster n (get_or sorted j e).block + (get_or sorted j e).bits) old last))

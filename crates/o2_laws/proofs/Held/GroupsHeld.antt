-- The descriptors of groups are held, and all blocks of groups of blocks.
use Rattle.std.proofs.Common.{◌≡◌, inl, inr, ◌⊎◌, ℕ, ◌+◌, ◌-◌, ◌*◌, ◌/◌, ◌%◌, ◌<◌, ◌≤◌, Bool, true, false, ◌&&◌, ◌||◌, not, ◌==◌, List, ◌++◌, map, refl, sym, ◌∙◌, ap, subst, arith}
use Rattle.std.specs.Prelude.{filter, flat_map, nat_lt}
use Rattle.std.specs.List.{list_any, Contains, range_with_len}
use Rattle.std.proofs.lemmas.Bool.{cases_Bool, and_from, or_left, or_right, eq-eqb, not_from_false}
use Rattle.std.proofs.lemmas.Bool.Decides.{nat_tests}
use Rattle.std.proofs.lemmas.List.Folds.{list_any-append}
use Rattle.std.proofs.lemmas.Nat.{pow_pos}
use Rattle.std.proofs.Math.Nat.{mul-add-div, mul-div_cancel, div-lt_iff_lt-mul}
use Rattle.o2_model.specs.declared.allocator.Allocator.{Allocator}
use Rattle.o2_model.specs.declared.allocator.Group.{Group}
use Rattle.o2_model.specs.declared.claim.Claim.{Claim}
use Rattle.o2_model.specs.declared.claim.Owner.TheVariants.{Super, GlobalGroup, Backup, Suballocator}
use Rattle.o2_model.specs.Orders.{from_to}
use Rattle.o2_model.specs.Volume.{Volume, per_cluster}
use Rattle.o2_model.specs.Clusters.{cluster_of}
use Rattle.o2_model.specs.ClusterGroups.{group_size, group_count, group_place, group_index, backup_clusters}
use Rattle.o2_model.specs.Allocators.{are_clusters}
use Rattle.o2_model.specs.Groups.{group_desc, is_bitmap_group, is_block_group, is_good_group, is_of_clusters, group_clusters, groups}
use Rattle.o2_model.specs.Claims.{claims_by, structure_claims}
use Rattle.o2_laws.proofs.Held.HeldBlocks.{is_held}
use Rattle.o2_laws.proofs.Found.{any_map, any_flat, any_filter, any_range, found}
use Rattle.o2_laws.proofs.Held.HeldBlocks.{holds, structure_held, by_claim}
use Rattle.o2_laws.proofs.GoodGroups.{groups_good}

-- ---- up to the first group
-- the claims of structures, list by list
abbrev pub super_claims : Volume → List Claim
super_claims v = claims_by Super (range_with_len 0 (cluster_of v v.geo.first_group + 1))

abbrev pub global_claims : Volume → List Claim
global_claims v = claims_by GlobalGroup (map (λ i. i * group_size v) (from_to 1 (group_count v)))

abbrev pub backup_claims : Volume → List Claim
backup_claims v = claims_by Backup (backup_clusters v)

abbrev pub clusters_claimed_by : Volume → Group → List Claim
clusters_claimed_by v g = claims_by (Suballocator g.of.block) (group_clusters v g.block g.bits)

abbrev pub block_group_claims : Volume → List Claim
block_group_claims v = flat_map (clusters_claimed_by v) (filter (λ g. not (is_of_clusters g)) (groups v))

pub structures-are : (v : Volume) → structure_claims v ≡ ((super_claims v ++ global_claims v) ++ backup_claims v) ++ block_group_claims v
unfolding structure_claims
structures-are v = refl

in_parts : (p : Claim → Bool) (ks bs cs ds : List Claim) → list_any p (((ks ++ bs) ++ cs) ++ ds) ≡ (list_any p ks || (list_any p bs || (list_any p cs || list_any p ds)))
in_parts p ks bs cs ds = simp list_any-append (grind arith)

structure_parts : (v : Volume) (b : ℕ) → list_any (holds v b) (structure_claims v)
    ≡ (list_any (holds v b) (super_claims v) || (list_any (holds v b) (global_claims v) || (list_any (holds v b) (backup_claims v) || list_any (holds v b) (block_group_claims v))))
structure_parts v b = ap (list_any (holds v b)) (structures-are v) ∙ in_parts (holds v b) (super_claims v) (global_claims v) (backup_claims v) (block_group_claims v)

one_of : (a b c d : Bool) → (a ≡ true) ⊎ ((b ≡ true) ⊎ (d ≡ true)) → (a || (b || (c || d))) ≡ true
one_of a b c d (inl first) = or_left a _ first
one_of a b c d (inr (inl second)) = or_right a _ (or_left b _ second)
one_of a b c d (inr (inr last)) = or_right a _ (or_right b _ (or_right c d last))

pub first_held : (v : Volume) (b : ℕ) → cluster_of v b ≤ cluster_of v v.geo.first_group → is_held v b ≡ true
first_held v b low =
    let here : list_any (λ c. c == cluster_of v b) (range_with_len 0 (cluster_of v v.geo.first_group + 1)) ≡ true
    = any_range (λ c. c == cluster_of v b) 0 (cluster_of v v.geo.first_group + 1) (cluster_of v b) (omega arith) (omega (arith, low)) (eq-eqb (cluster_of v b) (cluster_of v b) refl) in
    structure_held v b (structure_parts v b ∙ one_of (list_any (holds v b) (super_claims v)) (list_any (holds v b) (global_claims v)) (list_any (holds v b) (backup_claims v)) (list_any (holds v b) (block_group_claims v)) (inl (by_claim v b Super (range_with_len 0 (cluster_of v v.geo.first_group + 1)) refl here)))

-- ---- a later group of the global bitmap
global_held : (v : Volume) (b i : ℕ) → 0 < i → i < group_count v → cluster_of v b ≡ i * group_size v → is_held v b ≡ true
global_held v b i low high at =
    let from : list_any (λ i. i * group_size v == cluster_of v b) (from_to 1 (group_count v)) ≡ true
    = any_filter _ (λ n. not (nat_lt n 1)) (range_with_len 0 (group_count v))
    ∙ any_range (λ n. not (nat_lt n 1) && n * group_size v == cluster_of v b) 0 (group_count v) i (omega arith) (omega (arith, high)) (and_from _ _ (grind (arith, nat_tests)) (eq-eqb _ _ (sym at))) in
    let here : list_any (λ c. c == cluster_of v b) (map (λ i. i * group_size v) (from_to 1 (group_count v))) ≡ true = any_map _ (λ i. i * group_size v) (from_to 1 (group_count v)) ∙ from in
    structure_held v b (structure_parts v b ∙ one_of (list_any (holds v b) (super_claims v)) (list_any (holds v b) (global_claims v)) (list_any (holds v b) (backup_claims v)) (list_any (holds v b) (block_group_claims v)) (inr (inl (by_claim v b GlobalGroup _ refl here))))

-- ---- a backup of the superblock
pub backup_held : (v : Volume) (b : ℕ) → list_any (λ c. c == cluster_of v b) (backup_clusters v) ≡ true → is_held v b ≡ true
backup_held v b here = structure_held v b (structure_parts v b ∙ or_right _ _ (or_right _ _ (or_left _ _ (by_claim v b Backup (backup_clusters v) refl here))))

-- ---- groups of blocks
group_held : (v : Volume) (g : Group) (b : ℕ) → Contains (groups v) g → is_of_clusters g ≡ false → cluster_of v g.block ≤ cluster_of v b → cluster_of v b < cluster_of v g.block + g.bits / per_cluster v → is_held v b ≡ true
group_held v g b is blocks_of low high =
    let here : list_any (λ c. c == cluster_of v b) (group_clusters v g.block g.bits) ≡ true
    = any_range _ (cluster_of v g.block) (g.bits / per_cluster v) (cluster_of v b) low high (eq-eqb (cluster_of v b) (cluster_of v b) refl) in
    let among_all : list_any (holds v b) (block_group_claims v) ≡ true
    = any_flat (holds v b) (clusters_claimed_by v) (filter (λ g. not (is_of_clusters g)) (groups v))
    ∙ (any_filter (λ g. list_any (holds v b) (clusters_claimed_by v g)) (λ g. not (is_of_clusters g)) (groups v)
    ∙ found (λ g. not (is_of_clusters g) && list_any (holds v b) (clusters_claimed_by v g)) (groups v) g is
    (and_from _ _ (not_from_false _ blocks_of) (by_claim v b (Suballocator g.of.block) _ refl here))) in
    structure_held v b (structure_parts v b ∙ one_of (list_any (holds v b) (super_claims v)) (list_any (holds v b) (global_claims v)) (list_any (holds v b) (backup_claims v)) (list_any (holds v b) (block_group_claims v)) (inr (inr among_all)))

-- ---- numbers
-- block k of whole clusters
pub cluster_in : (p b n k : ℕ) → 0 < p → b % p ≡ 0 → n % p ≡ 0 → k < n → (b / p ≤ (b + k) / p) × ((b + k) / p < b / p + n / p)
cluster_in p b n k some whole whole' inside =
    let at : (p * (b / p) + k) / p ≡ b / p + k / p = mul-add-div some (b / p) k in
    let first : p * (b / p) ≡ b = omega (arith, some, whole) in
    let here : (b + k) / p ≡ b / p + k / p = ap (λ x. (x + k) / p) (sym first) ∙ at in
    let all : n / p * p ≡ n = omega (arith, some, whole') in
    let below : k / p < n / p = (div-lt_iff_lt-mul {k = p} {x = k} {y = n / p} some).1 (omega (arith, all, inside)) in
    (omega (arith, here), omega (arith, here, below))

-- ---- good groups
record InWholeClusters (v : Volume) (b bits : ℕ) : Type 0 where
  block : b % per_cluster v ≡ 0
  bits_whole : bits % per_cluster v ≡ 0
  two : 2 ≤ bits

whole_clusters : (v : Volume) (walked : List Group) (b : ℕ) → is_block_group v walked b ≡ true → InWholeClusters v b (group_desc v b).bits
whole_clusters v walked b h =
    record { block = grind (arith, nat_tests); bits_whole = grind (arith, nat_tests); two = grind (arith, nat_tests) }

record InPlace (v : Volume) (b : ℕ) : Type 0 where
  below : group_index v b < group_count v
  place : group_place v (group_index v b) ≡ b

in_place : (v : Volume) (b : ℕ) → is_bitmap_group v b ≡ true → InPlace v b
in_place v b h = record { below = grind (arith, nat_tests); place = grind (arith, nat_tests) }

good_clusters : (v : Volume) (a : Allocator) (walked : List Group) (b : ℕ) → are_clusters a.bit_use ≡ true → is_good_group v a walked b ≡ true → is_bitmap_group v b ≡ true
unfolding is_good_group
good_clusters v a walked b is good = grind (arith, nat_tests)

good_blocks : (v : Volume) (a : Allocator) (walked : List Group) (b : ℕ) → are_clusters a.bit_use ≡ false → is_good_group v a walked b ≡ true → is_block_group v walked b ≡ true
unfolding is_good_group
good_blocks v a walked b is good = grind (arith, nat_tests)

placed_held : (v : Volume) (b : ℕ) → InPlace v b → is_held v b ≡ true
placed_held v b is = elim (cases_Bool (group_index v b == 0)) [
  | inl first ↦
      let at : v.geo.first_group ≡ b = rw first at is.place in
      first_held v b (rw at (omega arith))
  | inr later ↦
      let i = group_index v b in
      let at : i * group_size v * per_cluster v ≡ b = rw later at is.place in
      let cluster : cluster_of v b ≡ i * group_size v = ap (λ x. x / per_cluster v) (sym at) ∙ mul-div_cancel (i * group_size v) (pow_pos (v.geo.cluster_bits - v.geo.block_bits)) in
      global_held v b i (grind (arith, nat_tests)) is.below cluster
]

-- every block of a group of blocks is held
pub group_blocks_held : (v : Volume) (g : Group) (k : ℕ) → Contains (groups v) g → is_of_clusters g ≡ false → k < g.bits → is_held v (g.block + k) ≡ true
group_blocks_held v g k is of_blocks inside =
    let good = groups_good v g is in
    let whole = whole_clusters v good.walked g.block (good_blocks v g.of good.walked g.block of_blocks good.good) in
    let within = cluster_in (per_cluster v) g.block g.bits k (pow_pos (v.geo.cluster_bits - v.geo.block_bits)) whole.block (rw good.bits whole.bits_whole) inside in
    group_held v g (g.block + k) is of_blocks within.0 within.1

-- and every group's descriptor
pub descriptor_held : (v : Volume) (g : Group) → Contains (groups v) g → is_held v g.block ≡ true
descriptor_held v g is =
    let good = groups_good v g is in
    elim (cases_Bool (is_of_clusters g)) [
      | inl of_clusters ↦ placed_held v g.block (in_place v g.block (good_clusters v g.of good.walked g.block of_clusters good.good))
      | inr of_blocks ↦
          let whole = whole_clusters v good.walked g.block (good_blocks v g.of good.walked g.block of_blocks good.good) in
          subst (λ x. is_held v x ≡ true) (omega arith) (group_blocks_held v g 0 is of_blocks (omega (arith, good.bits, whole.two)))
    ]

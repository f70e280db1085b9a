-- A good group of blocks has a cluster that nothing walked before it stands in, so its block was not walked before.
use Rattle.std.proofs.Common.{◌≡◌, inl, inr, ℕ, zero, suc, ◌+◌, ◌-◌, ◌*◌, ◌/◌, ◌%◌, ◌<◌, ◌≤◌, Bool, true, false, ◌&&◌, ◌||◌, ◌==◌, eqb, List, [], ◌∷◌, map, refl, sym, ◌∙◌, ap, subst, arith}
use Rattle.std.specs.Prelude.{not}
use Rattle.std.specs.List.{range_with_len, list_any, list_all, AllByRecursion}
use Rattle.std.proofs.Math.Nat.{div-add-mod, mul-div_cancel_left, mul-mod_left, mul_comm}
use Rattle.std.proofs.Math.Pow.{pow_mono}
use Rattle.std.proofs.lemmas.Bool.{cases_Bool, and_parts, or_left, or_right, or_parts, not-true, eqb-true, false≢true}
use Rattle.std.proofs.lemmas.Bool.Decides.{nat_tests}
use Rattle.o2_model.specs.declared.allocator.Allocator.{Allocator}
use Rattle.o2_model.specs.declared.allocator.Group.{Group}
use Rattle.o2_model.specs.Words.{among, push}
use Rattle.o2_model.specs.Volume.{Volume, per_cluster}
use Rattle.o2_model.specs.Clusters.{cluster_of}
use Rattle.o2_model.specs.ClusterGroups.{group_size, group_index}
use Rattle.o2_model.specs.Allocators.{are_clusters}
use Rattle.o2_model.specs.Groups.{group_desc, group_clusters, holds_cluster, is_fixed, is_bitmap_group, is_block_group, is_good_group}
use Rattle.o2_view.specs.declared.run.Run.{Run}
use Rattle.o2_chain.specs.Walks.{group_of_run, walked_before}
use Rattle.o2_chain.proofs.FixedClusters.{fixed_below, fixed_start}

-- the cluster in which the group begins is fixed, or one of its own
abbrev pub stands_in_its_cluster : Volume → Group → Bool
stands_in_its_cluster v g = is_fixed v (cluster_of v g.block) || holds_cluster v (cluster_of v g.block) g

abbrev pub AllStand : Volume → List Group → Type 0
AllStand v gs = AllByRecursion (λ g. stands_in_its_cluster v g ≡ true) gs

pub stand_push : (v : Volume) (gs : List Group) (g : Group) → AllStand v gs → stands_in_its_cluster v g ≡ true → AllStand v (push gs g)
stand_push v [] g all is = (is, tt)
stand_push v (x ∷ xs) g all is = (all.0, stand_push v xs g all.1 is)

-- ---- clusters in a row
first_in_row : (c count : ℕ) → 0 < count → among (range_with_len c count) c ≡ true
first_in_row c zero some = absurd (omega (arith, some))
first_in_row c (suc count) some = or_left (eqb c c) _ (grind (arith, nat_tests))

all_from_first : (p : ℕ → Bool) (c count : ℕ) → 0 < count → list_all p (range_with_len c count) ≡ true → p c ≡ true
all_from_first p c zero some all = absurd (omega (arith, some))
all_from_first p c (suc count) some all = (and_parts (p c) _ all).0

module _ (v : Volume) where
  pub some_per_cluster : 0 < per_cluster v
  some_per_cluster = pow_mono {i = 0} {j = v.geo.cluster_bits - v.geo.block_bits} (omega arith)

  pub divided : (n : ℕ) → n * per_cluster v / per_cluster v ≡ n
  divided n = ap (λ m. m / per_cluster v) (mul_comm n (per_cluster v)) ∙ mul-div_cancel_left n some_per_cluster

  -- whole clusters, and not none
  some_clusters : (bits : ℕ) → bits % per_cluster v ≡ 0 → 2 ≤ bits → 0 < bits / per_cluster v
  some_clusters bits whole some = not_none (bits / per_cluster v) (div-add-mod bits (per_cluster v))
    where
      not_none : (count : ℕ) → per_cluster v * count + bits % per_cluster v ≡ bits → 0 < count
      not_none zero sum = absurd (omega (arith, sum, whole, some))
      not_none (suc count) sum = omega arith

  -- ---- which groups stand so
  run_stands : (run : Run) → 0 < run.clusters → stands_in_its_cluster v (group_of_run v run) ≡ true
  run_stands run some =
      or_right (is_fixed v (cluster_of v (run.start * per_cluster v))) _
      (first_in_row (cluster_of v (run.start * per_cluster v)) (run.clusters * per_cluster v / per_cluster v) (rw (divided run.clusters) some))

  bitmap_fixed : (b : ℕ) → is_bitmap_group v b ≡ true → is_fixed v (cluster_of v b) ≡ true
  bitmap_fixed b place = elim (cases_Bool (group_index v b == 0)) [
    | inl at_first ↦
        let same : v.geo.first_group ≡ b = grind (arith, nat_tests, place, at_first) in
        fixed_below v (cluster_of v b) (omega (arith, ap (cluster_of v) same))
    | inr further ↦
        let same : group_index v b * group_size v * per_cluster v ≡ b = grind (arith, nat_tests, place, further) in
        let start : cluster_of v b ≡ group_index v b * group_size v = sym (ap (cluster_of v) same) ∙ divided (group_index v b * group_size v) in
        fixed_start v (cluster_of v b) (ap (λ c. c % group_size v) start ∙ mul-mod_left (group_index v b) (group_size v))
  ]

  pub block_clusters : (walked : List Group) (b : ℕ) → is_block_group v walked b ≡ true → 0 < (group_desc v b).bits / per_cluster v
  block_clusters walked b good = some_clusters (group_desc v b).bits (grind (arith, nat_tests, good)) (grind (arith, nat_tests, good))

  pub good_stands : (a : Allocator) (walked : List Group) (chain b : ℕ) → is_good_group v a walked b ≡ true → stands_in_its_cluster v (record { of = a; chain = chain; block = b; bits = (group_desc v b).bits }) ≡ true
  unfolding is_good_group
  good_stands a walked chain b good = elim (cases_Bool (are_clusters a.bit_use)) [
    | inl clusters ↦ or_left (is_fixed v (cluster_of v b)) _ (bitmap_fixed b (grind (arith, nat_tests, good, clusters)))
    | inr blocks ↦
        let group : is_block_group v walked b ≡ true = grind (arith, nat_tests, good, blocks) in
        let own : among (group_clusters v b (group_desc v b).bits) (cluster_of v b) ≡ true = first_in_row (cluster_of v b) ((group_desc v b).bits / per_cluster v) (block_clusters walked b group) in
        or_right (is_fixed v (cluster_of v b)) _ (rw (blocks, own) refl)
  ]

  pub runs_stand : (before : List Run) → AllByRecursion (λ (run : Run). 0 < run.clusters) before → AllStand v (walked_before v before)
  runs_stand [] some = tt
  runs_stand (run ∷ runs) some = (run_stands run some.0, runs_stand runs some.1)

  -- ---- so a good group of blocks is a new one
  unmet : (walked : List Group) (b : ℕ) → AllStand v walked → is_fixed v (cluster_of v b) ≡ false → list_any (holds_cluster v (cluster_of v b)) walked ≡ false → among (map (λ g. g.block) walked) b ≡ false
  unmet [] b all free none = refl
  unmet (g ∷ gs) b all free none = elim (cases_Bool (eqb b g.block)) [
    | inl same ↦
        let is : b ≡ g.block = eqb-true b g.block same in
        let stands : (is_fixed v (cluster_of v b) || holds_cluster v (cluster_of v b) g) ≡ true = subst (λ c. (is_fixed v (cluster_of v c) || holds_cluster v (cluster_of v c) g) ≡ true) (sym is) all.0 in
        absurd (false≢true (sym (or_parts (holds_cluster v (cluster_of v b) g) _ none).0 ∙ rw free at stands))
    | inr other ↦ rw other (unmet gs b all.1 free (or_parts (holds_cluster v (cluster_of v b) g) _ none).1)
  ]

  pub blocks_unmet : (walked : List Group) (b : ℕ) → AllStand v walked → is_block_group v walked b ≡ true → among (map (λ g. g.block) walked) b ≡ false
  blocks_unmet walked b all good =
      let row : list_all (λ c. not (is_fixed v c) && not (list_any (holds_cluster v c) walked)) (group_clusters v b (group_desc v b).bits) ≡ true = grind (arith, nat_tests, good) in
      let free : (not (is_fixed v (cluster_of v b)) && not (list_any (holds_cluster v (cluster_of v b)) walked)) ≡ true =
      all_from_first (λ c. not (is_fixed v c) && not (list_any (holds_cluster v c) walked)) (cluster_of v b) ((group_desc v b).bits / per_cluster v) (block_clusters walked b good) row
      in
      unmet walked b all (not-true _ (and_parts _ _ free).0) (not-true _ (and_parts _ _ free).1)

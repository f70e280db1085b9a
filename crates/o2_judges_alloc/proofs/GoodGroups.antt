-- Each group that the walk reaches is a good one.
use Rattle.std.proofs.Common.{◌≡◌, inl, inr, ℕ, zero, suc, ◌+◌, ◌-◌, ◌*◌, ◌<◌, ◌≤◌, min, Bool, true, false, ◌&&◌, ◌==◌, nat_le, List, [], ◌∷◌, refl, arith}
use Rattle.std.specs.List.{AllByRecursion}
use Rattle.std.proofs.Math.Nat.{min-le_right}
use Rattle.std.proofs.lemmas.Bool.{cases_Bool, eqb-true}
use Rattle.std.proofs.lemmas.Bool.Decides.{nat_tests}
use Rattle.o2_model.specs.declared.allocator.Allocator.{Allocator}
use Rattle.o2_model.specs.declared.allocator.Group.{Group}
use Rattle.o2_model.specs.Words.{push}
use Rattle.o2_model.specs.Volume.{Volume, blocks}
use Rattle.o2_model.specs.ClusterGroups.{group_size, group_index}
use Rattle.o2_model.specs.Allocators.{allocators, chain_heads}
use Rattle.o2_model.specs.Groups.{GroupWalk, group_desc, is_of_clusters, is_bitmap_group, is_block_group, is_good_group, with_group, walk_chain, walk_chains, walk_allocators, group_walk, groups}

-- it is a good group behind those that were walked before it, with the bits that its descriptor tells
pub record IsGoodGroup (v : Volume) (g : Group) : Type 0 where
  pub walked : List Group
  pub good : is_good_group v g.of walked g.block ≡ true
  pub bits : g.bits ≡ (group_desc v g.block).bits

-- ---- the walk
-- What holds of no groups, and of groups with a good one behind them where it held of them, holds of those that the walk reaches.
module _ (v : Volume) (P : List Group → Type 0)
    (more : (a : Allocator) (chain b : ℕ) (gs : List Group) → P gs → is_good_group v a gs b ≡ true → P (push gs (record { of = a; chain = chain; block = b; bits = (group_desc v b).bits })))
  where
    chain_keeps : (a : Allocator) (chain most holder link : ℕ) (w : GroupWalk) → P w.groups → P (walk_chain v a chain most holder link w).groups
    chain_keeps a chain zero holder link w h = h
    chain_keeps a chain (suc most) holder link w h =
        elim (cases_Bool (link == 0)) [
          | inl end ↦ rw end h
          | inr further ↦ elim (cases_Bool (is_good_group v a w.groups link)) [
            | inr bad ↦ rw (further, bad) h
            | inl good ↦
                rw (further, good)
                (chain_keeps a chain most link (group_desc v link).next_group (with_group w a chain link (group_desc v link).bits) (more a chain link w.groups h good))
          ]
        ]

    chains_keep : (a : Allocator) (chain : ℕ) (heads : List ℕ) (w : GroupWalk) → P w.groups → P (walk_chains v a chain heads w).groups
    chains_keep a chain [] w h = h
    chains_keep a chain (head ∷ rest) w h = chains_keep a (chain + 1) rest _ (chain_keeps a chain (blocks v) a.block head w h)

    allocators_keep : (some : List Allocator) (w : GroupWalk) → P w.groups → P (walk_allocators v some w).groups
    allocators_keep [] w h = h
    allocators_keep (a ∷ some) w h = allocators_keep some _ (chains_keep a 0 (chain_heads v a) w h)

    pub groups_by : P [] → P (groups v)
    unfolding group_walk
    groups_by none = allocators_keep (allocators v) _ none

pub each_push : {A : Type 0} (P : A → Type 0) (xs : List A) (x : A) → AllByRecursion P xs → P x → AllByRecursion P (push xs x)
each_push P [] x all is = (is, tt)
each_push P (y ∷ ys) x all is = (all.0, each_push P ys x all.1 is)

pub good_more : (v : Volume) (a : Allocator) (chain b : ℕ) (gs : List Group) → AllByRecursion (IsGoodGroup v) gs → is_good_group v a gs b ≡ true
    → AllByRecursion (IsGoodGroup v) (push gs (record { of = a; chain = chain; block = b; bits = (group_desc v b).bits }))
good_more v a chain b gs all good = each_push (IsGoodGroup v) gs _ all (record { walked = gs; good = good; bits = refl })

pub groups_good : (v : Volume) → AllByRecursion (IsGoodGroup v) (groups v)
groups_good v = groups_by v (AllByRecursion (IsGoodGroup v)) (good_more v) tt

-- ---- what a group of blocks has
before : (a b : Bool) → (a && b) ≡ true → a ≡ true
before true b h = refl
before false b h = h

behind : (a b : Bool) → (a && b) ≡ true → b ≡ true
behind true b h = h
behind false b h = cc

pub is_of_blocks : (v : Volume) (g : Group) (good : IsGoodGroup v g) → is_of_clusters g ≡ false → is_block_group v good.walked g.block ≡ true
unfolding is_good_group
is_of_blocks v g good other = let all = rw other at good.good in behind _ _ (before _ _ all)

at_most : (a b : ℕ) → nat_le a b ≡ true → a ≤ b
at_most a b h = grind (arith, nat_tests)

-- it has two bits or more, and ends within the volume
pub some_bits : (v : Volume) (g : Group) → IsGoodGroup v g → is_of_clusters g ≡ false → 2 ≤ g.bits
some_bits v g good other =
    let two = behind _ _ (before _ _ (before _ _ (is_of_blocks v g good other))) in
    rw good.bits (at_most _ _ two)

pub within : (v : Volume) (g : Group) → IsGoodGroup v g → is_of_clusters g ≡ false → g.block + g.bits ≤ blocks v
within v g good other =
    let end = behind _ _ (before _ _ (is_of_blocks v g good other)) in
    rw good.bits (at_most _ _ end)

-- ---- what a group of the global bitmap has
is_of_bitmap : (v : Volume) (g : Group) → IsGoodGroup v g → is_of_clusters g ≡ true → is_bitmap_group v g.block ≡ true
unfolding is_good_group
is_of_bitmap v g good is = let all = rw is at good.good in behind _ _ (before _ _ all)

-- its clusters are the volume's
pub cluster_within : (v : Volume) (g : Group) (k : ℕ) → IsGoodGroup v g → is_of_clusters g ≡ true → k < g.bits → group_index v g.block * group_size v + k < v.geo.clusters
cluster_within v g k good is low =
    let most : ℕ = min (group_size v) (v.geo.clusters - group_index v g.block * group_size v) in
    let size : (group_desc v g.block).bits ≡ most = eqb-true (group_desc v g.block).bits most (behind _ _ (is_of_bitmap v g good is)) in
    omega (arith, size, good.bits, low, min-le_right (group_size v) (v.geo.clusters - group_index v g.block * group_size v))

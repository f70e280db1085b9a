-- Each group that the walk reaches is a good one.
use Rattle.std.proofs.Common.{◌≡◌, inl, inr, ℕ, zero, suc, ◌+◌, ◌≤◌, Bool, true, false, ◌&&◌, ◌==◌, nat_le, List, [], ◌∷◌, refl, arith}
use Rattle.std.specs.List.{AllByRecursion}
use Rattle.std.proofs.lemmas.Bool.{cases_Bool}
use Rattle.std.proofs.lemmas.Bool.Decides.{nat_tests}
use Rattle.o2_model.specs.declared.allocator.Allocator.{Allocator}
use Rattle.o2_model.specs.declared.allocator.Group.{Group}
use Rattle.o2_model.specs.Words.{push}
use Rattle.o2_model.specs.Volume.{Volume, blocks}
use Rattle.o2_model.specs.Allocators.{allocators, chain_heads}
use Rattle.o2_model.specs.Groups.{GroupWalk, group_desc, is_of_clusters, is_block_group, is_good_group, with_group, walk_chain, walk_chains, walk_allocators, group_walk, groups}

-- it is a good group behind those that were walked before it, with the bits that its descriptor tells
pub record IsGoodGroup (v : Volume) (g : Group) : Type 0 where
  pub walked : List Group
  pub good : is_good_group v g.of walked g.block ≡ true
  pub bits : g.bits ≡ (group_desc v g.block).bits

-- ---- the walk
abbrev AllGood : Volume → GroupWalk → Type 0
AllGood v w = AllByRecursion (IsGoodGroup v) w.groups

good_push : (v : Volume) (gs : List Group) (g : Group) → AllByRecursion (IsGoodGroup v) gs → IsGoodGroup v g → AllByRecursion (IsGoodGroup v) (push gs g)
good_push v [] g all is = (is, tt)
good_push v (x ∷ xs) g all is = (all.0, good_push v xs g all.1 is)

chain_good : (v : Volume) (a : Allocator) (chain most holder link : ℕ) (w : GroupWalk) → AllGood v w → AllGood v (walk_chain v a chain most holder link w)
chain_good v a chain zero holder link w h = h
chain_good v a chain (suc most) holder link w h =
    elim (cases_Bool (link == 0)) [
      | inl end ↦ rw end h
      | inr further ↦ elim (cases_Bool (is_good_group v a w.groups link)) [
        | inr bad ↦ rw (further, bad) h
        | inl good ↦
            let more = good_push v w.groups (record { of = a; chain = chain; block = link; bits = (group_desc v link).bits }) h (record { walked = w.groups; good = good; bits = refl }) in
            rw (further, good) (chain_good v a chain most link (group_desc v link).next_group (with_group w a chain link (group_desc v link).bits) more)
      ]
    ]

chains_good : (v : Volume) (a : Allocator) (chain : ℕ) (heads : List ℕ) (w : GroupWalk) → AllGood v w → AllGood v (walk_chains v a chain heads w)
chains_good v a chain [] w h = h
chains_good v a chain (head ∷ rest) w h = chains_good v a (chain + 1) rest _ (chain_good v a chain (blocks v) a.block head w h)

allocators_good : (v : Volume) (more : List Allocator) (w : GroupWalk) → AllGood v w → AllGood v (walk_allocators v more w)
allocators_good v [] w h = h
allocators_good v (a ∷ more) w h = allocators_good v more _ (chains_good v a 0 (chain_heads v a) w h)

pub groups_good : (v : Volume) → AllByRecursion (IsGoodGroup v) (groups v)
unfolding group_walk
groups_good v = allocators_good v (allocators v) _ tt

-- ---- what a group of blocks has
before : (a b : Bool) → (a && b) ≡ true → a ≡ true
before true b h = refl
before false b h = h

behind : (a b : Bool) → (a && b) ≡ true → b ≡ true
behind true b h = h
behind false b h = cc

is_of_blocks : (v : Volume) (g : Group) (good : IsGoodGroup v g) → is_of_clusters g ≡ false → is_block_group v good.walked g.block ≡ true
unfolding is_good_group
is_of_blocks v g good other = let all = rw other at good.good in behind _ _ (before _ _ all)

at_most : (a b : ℕ) → nat_le a b ≡ true → a ≤ b
at_most a b h = grind (arith, nat_tests)

-- it ends within the volume
pub within : (v : Volume) (g : Group) → IsGoodGroup v g → is_of_clusters g ≡ false → g.block + g.bits ≤ blocks v
within v g good other =
    let end = behind _ _ (before _ _ (is_of_blocks v g good other)) in
    rw good.bits (at_most _ _ end)

-- Each group that the walk reaches is a good one.
use Rattle.std.proofs.Common.{inl, inr, ℕ, zero, suc, ◌+◌, ◌==◌, List, [], ◌∷◌, refl}
use Rattle.std.specs.List.{AllByRecursion, Contains}
use Rattle.std.proofs.lemmas.Bool.{cases_Bool}
use Rattle.o2_model.specs.declared.allocator.Allocator.{Allocator}
use Rattle.o2_model.specs.declared.allocator.Group.{Group}
use Rattle.o2_model.specs.Words.{push}
use Rattle.o2_model.specs.Volume.{Volume, blocks}
use Rattle.o2_model.specs.Allocators.{allocators, chain_heads}
use Rattle.o2_model.specs.Groups.{GroupWalk, group_desc, is_good_group, with_group, walk_chain, walk_chains, walk_allocators, group_walk, groups}
use Rattle.o2_laws.specs.Walked.{IsGoodGroup}
use Rattle.o2_laws.proofs.Found.{each_of}

abbrev AllGood : Volume → GroupWalk → Type 0
AllGood v w = AllByRecursion (IsGoodGroup v) w.groups

good_push : (v : Volume) (gs : List Group) (g : Group) → AllByRecursion (IsGoodGroup v) gs → IsGoodGroup v g → AllByRecursion (IsGoodGroup v) (push gs g)
good_push v [] g all is = (is, tt)
good_push v (x ∷ xs) g all is = (all.0, good_push v xs g all.1 is)

chain_good : (v : Volume) (a : Allocator) (chain most holder link : ℕ) (w : GroupWalk) → AllGood v w → AllGood v (walk_chain v a chain most holder link w)
chain_good v a chain zero holder link w h = h
chain_good v a chain (suc most) holder link w h =
    elim (cases_Bool (link == 0)) [
      | inl end ↦ rw end h
      | inr further ↦ elim (cases_Bool (is_good_group v a w.groups link)) [
        | inr bad ↦ rw (further, bad) h
        | inl good ↦
            let more = good_push v w.groups (record { of = a; chain = chain; block = link; bits = (group_desc v link).bits }) h (record { walked = w.groups; good = good; bits = refl }) in
            rw (further, good) (chain_good v a chain most link (group_desc v link).next_group (with_group w a chain link (group_desc v link).bits) more)
      ]
    ]

chains_good : (v : Volume) (a : Allocator) (chain : ℕ) (heads : List ℕ) (w : GroupWalk) → AllGood v w → AllGood v (walk_chains v a chain heads w)
chains_good v a chain [] w h = h
chains_good v a chain (head ∷ rest) w h = chains_good v a (chain + 1) rest _ (chain_good v a chain (blocks v) a.block head w h)

allocators_good : (v : Volume) (more : List Allocator) (w : GroupWalk) → AllGood v w → AllGood v (walk_allocators v more w)
allocators_good v [] w h = h
allocators_good v (a ∷ more) w h = allocators_good v more _ (chains_good v a 0 (chain_heads v a) w h)

all_good : (v : Volume) → AllGood v (group_walk v)
unfolding group_walk
all_good v = allocators_good v (allocators v) _ tt

pub groups_good : (v : Volume) (g : Group) → Contains (groups v) g → IsGoodGroup v g
groups_good v g is = each_of (IsGoodGroup v) (groups v) g (all_good v) is

-- No group is walked twice, so that the bound of a chain is never felt.
use Rattle.std.proofs.Common.{◌≡◌, inl, inr, ℕ, zero, suc, ◌+◌, ◌<◌, ◌≤◌, true, false, ◌==◌, eqb, List, [], ◌∷◌, map, length, refl, sym, subst, arith}
use Rattle.std.specs.List.{list_any}
use Rattle.std.proofs.lemmas.Bool.{cases_Bool}
use Rattle.std.proofs.lemmas.Bool.Decides.{nat_tests}
use Rattle.std.proofs.lemmas.List.{map-append, length-map, length_push}
use Rattle.o2_model.specs.declared.allocator.Allocator.{Allocator}
use Rattle.o2_model.specs.declared.allocator.Group.{Group}
use Rattle.o2_model.specs.Words.{Apart}
use Rattle.o2_model.specs.Volume.{Volume, blocks}
use Rattle.o2_model.specs.Allocators.{allocators, chain_heads}
use Rattle.o2_model.specs.Groups.{GroupWalk, group_desc, is_good_group, with_group, walk_chain, walk_chains, walk_allocators, group_walk}
use Rattle.o2_laws.specs.Frames.{group_blocks}
use Rattle.o2_model.proofs.Looks.{apart_none, apart_more, room_left}

good_below : (v : Volume) (a : Allocator) (walked : List Group) (b : ℕ) → is_good_group v a walked b ≡ true → b < blocks v
unfolding is_good_group
good_below v a walked b good = grind (arith, nat_tests)

good_new : (v : Volume) (a : Allocator) (walked : List Group) (b : ℕ) → is_good_group v a walked b ≡ true → list_any (eqb b) (0 ∷ map (λ g. g.block) walked) ≡ false
unfolding is_good_group
good_new v a walked b good = grind (arith, nat_tests)

-- one good group more
group_apart : (v : Volume) (a : Allocator) (chain b bits : ℕ) (w : GroupWalk) → is_good_group v a w.groups b ≡ true → Apart (blocks v) (group_blocks w) → Apart (blocks v) (group_blocks (with_group w a chain b bits))
group_apart v a chain b bits w good h =
    subst (Apart (blocks v)) (sym (map-append (λ (g : Group). g.block) w.groups (record { of = a; chain = chain; block = b; bits = bits } ∷ [])))
    (apart_more (blocks v) (group_blocks w) b (good_below v a w.groups b good) (good_new v a w.groups b good) h)

chain_apart : (v : Volume) (a : Allocator) (chain most holder link : ℕ) (w : GroupWalk) → Apart (blocks v) (group_blocks w) → Apart (blocks v) (group_blocks (walk_chain v a chain most holder link w))
chain_apart v a chain zero holder link w h = h
chain_apart v a chain (suc most) holder link w h =
    elim (cases_Bool (link == 0)) [
      | inl end ↦ rw end h
      | inr further ↦ elim (cases_Bool (is_good_group v a w.groups link)) [
        | inr bad ↦ rw (further, bad) h
        | inl good ↦ rw (further, good) (chain_apart v a chain most link (group_desc v link).next_group _ (group_apart v a chain link (group_desc v link).bits w good h))
      ]
    ]

chains_apart : (v : Volume) (a : Allocator) (chain : ℕ) (heads : List ℕ) (w : GroupWalk) → Apart (blocks v) (group_blocks w) → Apart (blocks v) (group_blocks (walk_chains v a chain heads w))
chains_apart v a chain [] w h = h
chains_apart v a chain (head ∷ rest) w h = chains_apart v a (chain + 1) rest _ (chain_apart v a chain (blocks v) a.block head w h)

allocators_apart : (v : Volume) (more : List Allocator) (w : GroupWalk) → Apart (blocks v) (group_blocks w) → Apart (blocks v) (group_blocks (walk_allocators v more w))
allocators_apart v [] w h = h
allocators_apart v (a ∷ more) w h = allocators_apart v more _ (chains_apart v a 0 (chain_heads v a) w h)

-- The groups are all different, none is block 0, and each is below the volume's end.
pub groups_apart : (v : Volume) → 0 < blocks v → Apart (blocks v) (group_blocks (group_walk v))
unfolding group_walk
groups_apart v some = allocators_apart v (allocators v) _ (apart_none (blocks v) some)

-- Two bounds of which neither is felt give the same chain.
same_chain : (v : Volume) (a : Allocator) (chain m n holder link : ℕ) (w : GroupWalk) → Apart (blocks v) (group_blocks w) → blocks v ≤ m + length w.groups → blocks v ≤ n + length w.groups → walk_chain v a chain m holder link w ≡ walk_chain v a chain n holder link w
same_chain v a chain zero n holder link w h enough enough' = absurd (omega (arith, room_left (blocks v) (group_blocks w) h, length-map w.groups (λ (g : Group). g.block)))
same_chain v a chain (suc m) zero holder link w h enough enough' = absurd (omega (arith, room_left (blocks v) (group_blocks w) h, length-map w.groups (λ (g : Group). g.block)))
same_chain v a chain (suc m) (suc n) holder link w h enough enough' =
    elim (cases_Bool (link == 0)) [
      | inl end ↦ rw end refl
      | inr further ↦ elim (cases_Bool (is_good_group v a w.groups link)) [
        | inr bad ↦ rw (further, bad) refl
        | inl good ↦
            let next = with_group w a chain link (group_desc v link).bits in
            let longer : length next.groups ≡ length w.groups + 1 = length_push w.groups _ in
            rw (further, good)
            (same_chain v a chain m n link (group_desc v link).next_group next (group_apart v a chain link (group_desc v link).bits w good h) (omega (arith, longer)) (omega (arith, longer)))
      ]
    ]

-- Past its bound a chain stands still.
pub chain_ends : (v : Volume) (a : Allocator) (chain holder link : ℕ) (w : GroupWalk) → Apart (blocks v) (group_blocks w) → (k : ℕ) → walk_chain v a chain (k + blocks v) holder link w ≡ walk_chain v a chain (blocks v) holder link w
chain_ends v a chain holder link w h k = same_chain v a chain (k + blocks v) (blocks v) holder link w h (omega arith) (omega arith)

-- Two volumes that agree on what the walk of the chains reads have the same groups.
use Rattle.std.proofs.Common.{◌≡◌, inl, inr, ℕ, zero, suc, ◌+◌, Bool, true, false, cond, ◌==◌, List, [], ◌∷◌, ◌++◌, map, refl, ◌∙◌, ap}
use Rattle.std.proofs.lemmas.Bool.{cases_Bool, or_right, or_left, eq-eqb}
use Rattle.std.proofs.lemmas.List.Folds.{list_any-append}
use Rattle.std.proofs.lemmas.List.{map-append}
use Rattle.std.specs.List.{AllByRecursion}
use Rattle.o2_model.specs.Words.{among}
use Rattle.o2_laws.specs.Frames.{SameOn, group_blocks as places}
use Rattle.o2_model.specs.Volume.{Volume, over, blocks}
use Rattle.o2_ondisk.specs.declared.group_desc.GroupDesc.{GroupDesc}
use Rattle.o2_model.specs.declared.allocator.Allocator.{Allocator}
use Rattle.o2_model.specs.declared.allocator.Group.{Group}
use Rattle.o2_model.specs.Allocators.{chain_heads, chains, is_sound_chain_header, allocators}
use Rattle.o2_model.specs.Groups.{GroupWalk, group_desc, is_good_group, with_group, with_bad_link, walk_chain, walk_chains, walk_allocators, group_walk}
use Rattle.o2_laws.proofs.Readings.{push_some}

-- what the walk reads of a group is the same: all but its count of free bits, its chain and its bits
pub record SameLinks (x y : GroupDesc) : Type 0 where
  pub signature : x.signature.0 ≡ y.signature.0
  pub size : x.size ≡ y.size
  pub bits : x.bits ≡ y.bits
  pub generation : x.generation ≡ y.generation
  pub next_group : x.next_group ≡ y.next_group
  pub parent_dinode : x.parent_dinode ≡ y.parent_dinode
  pub blkno : x.blkno ≡ y.blkno

-- in these groups
pub record LinkedAs (at_groups : List ℕ) (v : Volume) (at : ℕ → List ℕ) : Type 0 where
  pub each : (b : ℕ) → among at_groups b ≡ true → SameLinks (group_desc (over v at) b) (group_desc v b)

same_good : (v : Volume) (at : ℕ → List ℕ) (a : Allocator) (walked : List Group) (b : ℕ) → SameLinks (group_desc (over v at) b) (group_desc v b) → is_good_group (over v at) a walked b ≡ is_good_group v a walked b
unfolding is_good_group
same_good v at a walked b same = simp (same.signature, same.size, same.bits, same.generation, same.parent_dinode, same.blkno) refl

record Grows (t u : GroupWalk) : Type 0 where
  places : (b : ℕ) → among (places t) b ≡ true → among (places u) b ≡ true
  faults : u.faults ≡ [] → t.faults ≡ []

grows_none : (t : GroupWalk) → Grows t t
grows_none t = record { places = λ b h. h; faults = λ h. h }

grows_both : {t u s : GroupWalk} → Grows t u → Grows u s → Grows t s
grows_both g h = record { places = λ b k. h.places b (g.places b k); faults = λ k. g.faults (h.faults k) }

grows_cond : (c : Bool) (t u s : GroupWalk) → Grows t u → Grows t s → Grows t (cond c u s)
grows_cond true t u s g h = g
grows_cond false t u s g h = h

places-with : (w : GroupWalk) (a : Allocator) (chain b bits : ℕ) → places (with_group w a chain b bits) ≡ places w ++ b ∷ []
places-with w a chain b bits = map-append (λ (g : Group). g.block) w.groups _

grows_group : (w : GroupWalk) (a : Allocator) (chain b bits : ℕ) → Grows w (with_group w a chain b bits)
grows_group w a chain b bits = record {
  places = λ c h. ap (λ ps. among ps c) (places-with w a chain b bits) ∙ (list_any-append (λ m. c == m) (places w) (b ∷ []) ∙ or_left _ _ h);
  faults = λ h. h;
}

group_has : (w : GroupWalk) (a : Allocator) (chain b bits : ℕ) → among (places (with_group w a chain b bits)) b ≡ true
group_has w a chain b bits = ap (λ ps. among ps b) (places-with w a chain b bits) ∙ (list_any-append (λ m. b == m) (places w) (b ∷ []) ∙ or_right _ _ (or_left _ _ (eq-eqb b b refl)))

grows_fault : (w : GroupWalk) (b : ℕ) → Grows w (with_bad_link w b)
grows_fault w b = record { places = λ c h. h; faults = λ h. absurd (push_some w.faults b h) }

chain_grows : (v : Volume) (a : Allocator) (chain most holder link : ℕ) (w : GroupWalk) → Grows w (walk_chain v a chain most holder link w)
chain_grows v a chain zero holder link w = grows_none w
chain_grows v a chain (suc most) holder link w =
    grows_cond (link == 0) w _ _ (grows_none w)
    (grows_cond (is_good_group v a w.groups link) w _ _
    (grows_both (grows_group w a chain link (group_desc v link).bits) (chain_grows v a chain most link (group_desc v link).next_group _))
    (grows_fault w holder))

chains_grow : (v : Volume) (a : Allocator) (chain : ℕ) (hs : List ℕ) (w : GroupWalk) → Grows w (walk_chains v a chain hs w)
chains_grow v a chain [] w = grows_none w
chains_grow v a chain (h ∷ hs) w = grows_both (chain_grows v a chain (blocks v) a.block h w) (chains_grow v a (chain + 1) hs _)

allocators_grow : (v : Volume) (more : List Allocator) (w : GroupWalk) → Grows w (walk_allocators v more w)
allocators_grow v [] w = grows_none w
allocators_grow v (a ∷ more) w = grows_both (chains_grow v a 0 (chain_heads v a) w) (allocators_grow v more _)

linked_before : {bs cs : List ℕ} {v : Volume} {at : ℕ → List ℕ} → ((b : ℕ) → among bs b ≡ true → among cs b ≡ true) → LinkedAs cs v at → LinkedAs bs v at
linked_before sub same = record { each = λ b h. same.each b (sub b h) }

chain_same : (v : Volume) (at : ℕ → List ℕ) (a : Allocator) (chain most holder link : ℕ) (w : GroupWalk) → LinkedAs (places (walk_chain v a chain most holder link w)) v at → (walk_chain v a chain most holder link w).faults ≡ [] → walk_chain (over v at) a chain most holder link w ≡ walk_chain v a chain most holder link w
chain_same v at a chain zero holder link w same none = refl
chain_same v at a chain (suc most) holder link w same none =
    elim (cases_Bool (link == 0)) [
      | inl last ↦ rw last refl
      | inr further ↦ elim (cases_Bool (is_good_group v a w.groups link)) [
        | inr bad ↦ absurd (push_some w.faults holder (rw (further, bad) at none))
        | inl good ↦
            let next = with_group w a chain link (group_desc v link).bits in
            let then' = (group_desc v link).next_group in
            let same' : LinkedAs (places (walk_chain v a chain most link then' next)) v at = rw (further, good) at same in
            let here = same'.each link ((chain_grows v a chain most link then' next).places link (group_has w a chain link _)) in
            rw (further, same_good v at a w.groups link here, good, here.next_group, here.bits)
            (chain_same v at a chain most link then' next same' (rw (further, good) at none))
      ]
    ]

chains_same : (v : Volume) (at : ℕ → List ℕ) (a : Allocator) (chain : ℕ) (hs : List ℕ) (w : GroupWalk) → LinkedAs (places (walk_chains v a chain hs w)) v at → (walk_chains v a chain hs w).faults ≡ [] → walk_chains (over v at) a chain hs w ≡ walk_chains v a chain hs w
chains_same v at a chain [] w same none = refl
chains_same v at a chain (h ∷ hs) w same none =
    let rest = chains_grow v a (chain + 1) hs (walk_chain v a chain (blocks v) a.block h w) in
    rw (chain_same v at a chain (blocks v) a.block h w (linked_before rest.places same) (rest.faults none))
    (chains_same v at a (chain + 1) hs _ same none)

allocators_same : (v : Volume) (at : ℕ → List ℕ) (more : List Allocator) (w : GroupWalk) → AllByRecursion (λ a. chain_heads (over v at) a ≡ chain_heads v a) more → LinkedAs (places (walk_allocators v more w)) v at → (walk_allocators v more w).faults ≡ [] → walk_allocators (over v at) more w ≡ walk_allocators v more w
allocators_same v at [] w heads same none = refl
allocators_same v at (a ∷ more) w heads same none =
    let rest = allocators_grow v more (walk_chains v a 0 (chain_heads v a) w) in
    rw (heads.0, chains_same v at a 0 (chain_heads v a) w (linked_before rest.places same) (rest.faults none))
    (allocators_same v at more _ heads.1 same none)

-- The groups are the same where the allocators, their heads and the links are.
pub group_walk-same : (v : Volume) (at : ℕ → List ℕ) → allocators (over v at) ≡ allocators v → AllByRecursion (λ a. chain_heads (over v at) a ≡ chain_heads v a) (allocators v) → LinkedAs (places (group_walk v)) v at → (group_walk v).faults ≡ [] → group_walk (over v at) ≡ group_walk v
unfolding group_walk
group_walk-same v at more heads same none = rw more (allocators_same v at (allocators v) _ heads same none)

-- the same bytes have the same heads and links
same_heads : (v : Volume) (at : ℕ → List ℕ) (a : Allocator) → at a.block ≡ v.at a.block → chain_heads (over v at) a ≡ chain_heads v a
unfolding chain_heads chains is_sound_chain_header
same_heads v at a same = rw same refl

same_links : (v : Volume) (at : ℕ → List ℕ) (b : ℕ) → at b ≡ v.at b → SameLinks (group_desc (over v at) b) (group_desc v b)
same_links v at b same = rw same (record { signature = refl; size = refl; bits = refl; generation = refl; next_group = refl; parent_dinode = refl; blkno = refl })

all_heads : (v : Volume) (at : ℕ → List ℕ) (more : List Allocator) → SameOn (map (λ a. a.block) more) v at → AllByRecursion (λ a. chain_heads (over v at) a ≡ chain_heads v a) more
all_heads v at [] same = tt
all_heads v at (a ∷ more) same =
    (same_heads v at a (same.same a.block (or_left _ _ (eq-eqb a.block a.block refl))), all_heads v at more (record { same = λ b h. same.same b (or_right _ _ h) }))

-- The groups are the same where the allocators are, and the bytes of their dinodes and of the groups.
pub groups_keep : (v : Volume) (at : ℕ → List ℕ) → allocators (over v at) ≡ allocators v → SameOn (map (λ a. a.block) (allocators v)) v at → SameOn (places (group_walk v)) v at → (group_walk v).faults ≡ [] → group_walk (over v at) ≡ group_walk v
groups_keep v at alike dinodes descriptors none =
    group_walk-same v at alike (all_heads v at (allocators v) dinodes) (record { each = λ b is. same_links v at b (descriptors.same b is) }) none

-- What the walk of an allocator meets.
use Rattle.std.proofs.Common.{◌≡◌, inl, inr, ℕ, zero, suc, ◌+◌, ◌/◌, ◌<◌, true, false, ◌==◌, eqb, List, [], ◌∷◌, ◌++◌, map, refl, sym, ◌∙◌, ap, subst, arith}
use Rattle.std.specs.List.{list_any, AllByRecursion, Contains}
use Rattle.std.proofs.lemmas.Bool.{cases_Bool}
use Rattle.std.proofs.lemmas.Bool.Decides.{nat_tests}
use Rattle.std.proofs.lemmas.List.{append_cancel_left, map-append}
use Rattle.o2_model.specs.declared.allocator.Allocator.{Allocator}
use Rattle.o2_model.specs.declared.allocator.Group.{Group as Walked}
use Rattle.o2_model.specs.Words.{Apart}
use Rattle.o2_model.specs.Volume.{Volume, blocks, per_cluster}
use Rattle.o2_model.specs.Allocators.{are_clusters, chain_heads}
use Rattle.o2_model.specs.Groups.{GroupWalk, group_desc, is_good_group, with_group, with_bad_link, walk_chain, walk_chains}
use Rattle.o2_model.proofs.Looks.{apart_none, apart_more}
use Rattle.o2_view.specs.declared.run.Run.{Run}
use Rattle.o2_chain.specs.declared.group.Group.{Group}
use Rattle.o2_chain.specs.Walks.{walked_before, allocator_walk, group_in, AreGroups}
use Rattle.o2_chain.specs.Met.{IsMet}
use Rattle.o2_chain.proofs.WalkedBefore.{block_clusters}

-- ---- what a walk adds
-- where its bits are blocks, the group has clusters
abbrev pub HasClusters : Volume → Allocator → Group → Type 0
HasClusters v a g = are_clusters a.bit_use ≡ false → 0 < g.bits / per_cluster v

-- The walk has these groups more, and each of them is met.
record Adds (v : Volume) (a : Allocator) (old new : GroupWalk) : Type 0 where
  more : List Group
  groups : new.groups ≡ old.groups ++ map (group_in a) more
  met : AllByRecursion (IsMet v a) more
  some : AllByRecursion (HasClusters v a) more

good_met : (v : Volume) (a : Allocator) (walked : List Walked) (chain b : ℕ) → is_good_group v a walked b ≡ true → IsMet v a (record { chain = chain; block = b; bits = (group_desc v b).bits })
unfolding is_good_group
good_met v a walked chain b good = record {
  above = grind (arith, nat_tests);
  below = grind (arith, nat_tests);
  signature = grind (arith, nat_tests);
  bits = refl;
  room = grind (arith, nat_tests);
  fits = grind (arith, nat_tests);
  place = λ of_clusters. grind (arith, nat_tests, of_clusters);
}

good_some : (v : Volume) (a : Allocator) (walked : List Walked) (chain b : ℕ) → is_good_group v a walked b ≡ true → HasClusters v a (record { chain = chain; block = b; bits = (group_desc v b).bits })
unfolding is_good_group
good_some v a walked chain b good others = block_clusters v walked b (grind (arith, nat_tests, good, others))

adds_none : (v : Volume) (a : Allocator) (w : GroupWalk) → Adds v a w w
adds_none v a w = record { more = []; groups = sym (append_none w.groups); met = tt; some = tt }
  where
    append_none : {A : Type 0} (xs : List A) → xs ++ [] ≡ xs
    append_none [] = refl
    append_none (x ∷ xs) = ap (λ rest. x ∷ rest) (append_none xs)

append_assoc : {A : Type 0} (xs ys zs : List A) → (xs ++ ys) ++ zs ≡ xs ++ (ys ++ zs)
append_assoc [] ys zs = refl
append_assoc (x ∷ xs) ys zs = ap (λ rest. x ∷ rest) (append_assoc xs ys zs)

all_append : {A : Type 0} (P : A → Type 0) (xs ys : List A) → AllByRecursion P xs → AllByRecursion P ys → AllByRecursion P (xs ++ ys)
all_append P [] ys first later = later
all_append P (x ∷ xs) ys first later = (first.0, all_append P xs ys first.1 later)

-- a bad link adds nothing
adds_bad : (v : Volume) (a : Allocator) (holder : ℕ) (w : GroupWalk) → Adds v a w (with_bad_link w holder)
adds_bad v a holder w = let none = adds_none v a w in record { more = none.more; groups = none.groups; met = none.met; some = none.some }

adds_both : (v : Volume) (a : Allocator) (u w x : GroupWalk) → Adds v a u w → Adds v a w x → Adds v a u x
adds_both v a u w x first later = record {
  more = first.more ++ later.more;
  groups = later.groups ∙ (ap (λ gs. gs ++ map (group_in a) later.more) first.groups ∙ (append_assoc u.groups _ _ ∙ ap (λ gs. u.groups ++ gs) (sym (map-append (group_in a) first.more later.more))));
  met = all_append (IsMet v a) first.more later.more first.met later.met;
  some = all_append (HasClusters v a) first.more later.more first.some later.some;
}

adds_one : (v : Volume) (a : Allocator) (w : GroupWalk) (chain b : ℕ) → is_good_group v a w.groups b ≡ true → Adds v a w (with_group w a chain b (group_desc v b).bits)
adds_one v a w chain b good = record {
  more = record { chain = chain; block = b; bits = (group_desc v b).bits } ∷ [];
  groups = refl;
  met = (good_met v a w.groups chain b good, tt);
  some = (good_some v a w.groups chain b good, tt);
}

chain_adds : (v : Volume) (a : Allocator) (chain most holder link : ℕ) (w : GroupWalk) → Adds v a w (walk_chain v a chain most holder link w)
chain_adds v a chain zero holder link w = adds_none v a w
chain_adds v a chain (suc most) holder link w =
    elim (cases_Bool (link == 0)) [
      | inl end ↦ rw end (adds_none v a w)
      | inr further ↦ elim (cases_Bool (is_good_group v a w.groups link)) [
        | inr bad ↦ rw (further, bad) (adds_bad v a holder w)
        | inl good ↦ rw (further, good) (adds_both v a w _ _ (adds_one v a w chain link good) (chain_adds v a chain most link (group_desc v link).next_group _))
      ]
    ]

chains_add : (v : Volume) (a : Allocator) (chain : ℕ) (heads : List ℕ) (w : GroupWalk) → Adds v a w (walk_chains v a chain heads w)
chains_add v a chain [] w = adds_none v a w
chains_add v a chain (head ∷ rest) w = adds_both v a w _ _ (chain_adds v a chain (blocks v) a.block head w) (chains_add v a (chain + 1) rest _)

-- ---- so each group is met
abbrev group_out : Walked → Group
group_out g = record { chain = g.chain; block = g.block; bits = g.bits }

back_out : (a : Allocator) (gs : List Group) → map group_out (map (group_in a) gs) ≡ gs
back_out a [] = refl
back_out a (g ∷ gs) = ap (λ rest. g ∷ rest) (back_out a gs)

pub each_of : {A : Type 0} (P : A → Type 0) (xs : List A) (x : A) → AllByRecursion P xs → Contains xs x → P x
each_of P [] x all is = absurd (omega (arith, is.1))
each_of P (y ∷ ys) x all (zero, low, same) = subst P same all.0
each_of P (y ∷ ys) x all (suc i, low, same) = each_of P ys x all.1 (i, omega (arith, low), same)

module _ (v : Volume) (a : Allocator) (before : List Run) (groups : List Group) (are : AreGroups v a before groups) where
  adds : Adds v a (record { groups = walked_before v before; faults = [] }) (allocator_walk v a before)
  unfolding allocator_walk
  adds = chains_add v a 0 (chain_heads v a) (record { groups = walked_before v before; faults = [] })

  these : adds.more ≡ groups
  these =
      let same : map (group_in a) adds.more ≡ map (group_in a) groups = append_cancel_left (walked_before v before) _ _ (sym adds.groups ∙ are) in
      sym (back_out a adds.more) ∙ (ap (map group_out) same ∙ back_out a groups)

  pub all_met : AllByRecursion (IsMet v a) groups
  all_met = subst (AllByRecursion (IsMet v a)) these adds.met

  pub all_some : AllByRecursion (HasClusters v a) groups
  all_some = subst (AllByRecursion (HasClusters v a)) these adds.some

  pub groups_met : (g : Group) → Contains groups g → IsMet v a g
  groups_met g is = each_of (IsMet v a) groups g all_met is

-- ---- the groups' blocks differ
abbrev blocks_in : List Walked → List ℕ
blocks_in gs = map (λ g. g.block) gs

good_new : (v : Volume) (a : Allocator) (walked : List Walked) (b : ℕ) → is_good_group v a walked b ≡ true → list_any (eqb b) (0 ∷ blocks_in walked) ≡ false
unfolding is_good_group
good_new v a walked b good = grind (arith, nat_tests)

one_apart : (v : Volume) (a : Allocator) (w : GroupWalk) (chain b bits : ℕ) → is_good_group v a w.groups b ≡ true → Apart (blocks v) (blocks_in w.groups) → Apart (blocks v) (blocks_in (with_group w a chain b bits).groups)
one_apart v a w chain b bits good h =
    subst (Apart (blocks v)) (sym (map-append (λ (g : Walked). g.block) w.groups (record { of = a; chain = chain; block = b; bits = bits } ∷ [])))
    (apart_more (blocks v) (blocks_in w.groups) b (good_met v a w.groups chain b good).below (good_new v a w.groups b good) h)

chain_apart : (v : Volume) (a : Allocator) (chain most holder link : ℕ) (w : GroupWalk) → Apart (blocks v) (blocks_in w.groups) → Apart (blocks v) (blocks_in (walk_chain v a chain most holder link w).groups)
chain_apart v a chain zero holder link w h = h
chain_apart v a chain (suc most) holder link w h =
    elim (cases_Bool (link == 0)) [
      | inl end ↦ rw end h
      | inr further ↦ elim (cases_Bool (is_good_group v a w.groups link)) [
        | inr bad ↦ rw (further, bad) h
        | inl good ↦ rw (further, good) (chain_apart v a chain most link (group_desc v link).next_group _ (one_apart v a w chain link (group_desc v link).bits good h))
      ]
    ]

chains_apart : (v : Volume) (a : Allocator) (chain : ℕ) (heads : List ℕ) (w : GroupWalk) → Apart (blocks v) (blocks_in w.groups) → Apart (blocks v) (blocks_in (walk_chains v a chain heads w).groups)
chains_apart v a chain [] w h = h
chains_apart v a chain (head ∷ rest) w h = chains_apart v a (chain + 1) rest _ (chain_apart v a chain (blocks v) a.block head w h)

pub blocks_out : (a : Allocator) (gs : List Group) → blocks_in (map (group_in a) gs) ≡ map (λ g. g.block) gs
blocks_out a [] = refl
blocks_out a (g ∷ gs) = ap (λ rest. g.block ∷ rest) (blocks_out a gs)

-- Where no clusters count as walked, the blocks of the groups, and 0, are all different.
pub blocks_apart : (v : Volume) (a : Allocator) (groups : List Group) → AreGroups v a [] groups → 0 < blocks v → Apart (blocks v) (map (λ g. g.block) groups)
unfolding allocator_walk
blocks_apart v a groups are some =
    subst (Apart (blocks v)) (ap blocks_in are ∙ blocks_out a groups) (chains_apart v a 0 (chain_heads v a) (record { groups = []; faults = [] }) (apart_none (blocks v) some))

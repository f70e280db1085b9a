-- The walk of one allocator within the volume's own walk.
use Rattle.std.proofs.Common.{◌≡◌, inl, inr, ℕ, zero, suc, ◌+◌, ◌*◌, ◌<◌, true, false, ◌==◌, List, [], ◌∷◌, ◌++◌, map, refl, sym, ◌∙◌, ap, arith}
use Rattle.std.specs.List.{range_with_len, list_any, AllByRecursion}
use Rattle.std.proofs.lemmas.Bool.{cases_Bool}
use Rattle.std.proofs.lemmas.Bool.Decides.{nat_tests}
use Rattle.std.proofs.lemmas.List.{append_cancel_left}
use Rattle.std.proofs.lemmas.List.Elements.{recursion_from_All}
use Rattle.o2_model.specs.declared.allocator.Allocator.{Allocator}
use Rattle.o2_model.specs.declared.allocator.BitUse.{BitUse}
use Rattle.o2_model.specs.declared.allocator.BitUse.TheVariants.{Clusters, Inodes, Metadata}
use Rattle.o2_model.specs.declared.allocator.Group.{Group as Walked}
use Rattle.o2_ondisk.specs.declared.chain_list_header.ChainListHeader.{ChainListHeader}
use Rattle.o2_model.specs.Words.{among}
use Rattle.o2_model.specs.Volume.{Volume, per_cluster, blocks}
use Rattle.o2_model.specs.Allocators.{are_clusters, allocators, chain_list_header, chain_heads, chains, is_sound_chain_header, is_sound_chain_size}
use Rattle.o2_model.specs.Groups.{GroupWalk, group_desc, group_clusters, holds_cluster, is_good_group, with_group, walk_chain, walk_chains, walk_allocators}
use Rattle.o2_view.specs.declared.run.Run.{Run}
use Rattle.o2_chain.specs.declared.group.Group.{Group}
use Rattle.o2_view.specs.FreeRuns.{is_of_run, is_of_runs}
use Rattle.o2_chain.specs.Walks.{group_of_run, walked_before, allocator_walk, group_in, judged_as, AreGroups}
use Rattle.o2_chain.specs.Earlier.{AreBefore, walk_of}
use Rattle.o2_chain.proofs.Walking.{among_row}
use Rattle.o2_chain.proofs.WalkedBefore.{AllStand, divided, good_stands, stand_push, runs_stand}
use Rattle.o2_chain.proofs.BesideWalks.{AreAlike, GoBeside, judged, chains_beside}
use Rattle.o2_chain.proofs.FirstAllocators.{bitmap_first}

-- ---- its chains
same_size : (v : Volume) (bit_use : BitUse) (block : ℕ) (h : ChainListHeader) → is_sound_chain_size v bit_use h ≡ is_sound_chain_size v (judged_as (are_clusters bit_use) block).bit_use h
same_size v Clusters block h = refl
same_size v Inodes block h = refl
same_size v Metadata block h = refl

pub same_heads : (v : Volume) (a : Allocator) → chain_heads v a ≡ chain_heads v (judged a)
unfolding chain_heads chains is_sound_chain_header
same_heads v a = rw (same_size v a.bit_use a.block (chain_list_header v a.block)) refl

walk_last : (v : Volume) (earlier : List Allocator) (a : Allocator) (w : GroupWalk) → walk_allocators v (earlier ++ a ∷ []) w ≡ walk_chains v a 0 (chain_heads v a) (walk_allocators v earlier w)
walk_last v [] a w = refl
walk_last v (e ∷ earlier) a w = walk_last v earlier a _

-- ---- what was walked stands in its clusters
module _ (v : Volume) where
  chain_stands : (a : Allocator) (chain most holder link : ℕ) (w : GroupWalk) → AllStand v w.groups → AllStand v (walk_chain v a chain most holder link w).groups
  chain_stands a chain zero holder link w h = h
  chain_stands a chain (suc most) holder link w h =
      elim (cases_Bool (link == 0)) [
        | inl end ↦ rw end h
        | inr further ↦ elim (cases_Bool (is_good_group v a w.groups link)) [
          | inr bad ↦ rw (further, bad) h
          | inl good ↦ rw (further, good) (chain_stands a chain most link (group_desc v link).next_group (with_group w a chain link (group_desc v link).bits) (stand_push v w.groups _ h (good_stands v a w.groups chain link good)))
        ]
      ]

  chains_stand : (a : Allocator) (chain : ℕ) (heads : List ℕ) (w : GroupWalk) → AllStand v w.groups → AllStand v (walk_chains v a chain heads w).groups
  chains_stand a chain [] w h = h
  chains_stand a chain (head ∷ rest) w h = chains_stand a (chain + 1) rest _ (chain_stands a chain (blocks v) a.block head w h)

  allocators_stand : (some : List Allocator) (w : GroupWalk) → AllStand v w.groups → AllStand v (walk_allocators v some w).groups
  allocators_stand [] w h = h
  allocators_stand (a ∷ rest) w h = allocators_stand rest _ (chains_stand a 0 (chain_heads v a) w h)

  -- ---- the runs
  run_clusters : (run : Run) (c : ℕ) → is_of_run c run ≡ holds_cluster v c (group_of_run v run)
  run_clusters run c = sym (ap (λ cs. among cs c) row ∙ among_row run.start run.clusters c)
    where
      row : group_clusters v (run.start * per_cluster v) (run.clusters * per_cluster v) ≡ range_with_len run.start run.clusters
      row = rw (divided v run.start, divided v run.clusters) refl

  runs_clusters : (before : List Run) (c : ℕ) → is_of_runs before c ≡ list_any (holds_cluster v c) (walked_before v before)
  runs_clusters [] c = refl
  runs_clusters (run ∷ runs) c = rw (run_clusters run c, runs_clusters runs c) refl

back_out : (a : Allocator) (gs : List Group) → map (λ (g : Walked). record { chain = g.chain; block = g.block; bits = g.bits }) (map (group_in a) gs) ≡ gs
back_out a [] = refl
back_out a (g ∷ gs) = ap (λ rest. g ∷ rest) (back_out a gs)

same_groups : (a : Allocator) (gs hs : List Group) → map (group_in a) gs ≡ map (group_in a) hs → gs ≡ hs
same_groups a gs hs same = sym (back_out a gs) ∙ (ap (map (λ (g : Walked). record { chain = g.chain; block = g.block; bits = g.bits })) same ∙ back_out a hs)

-- runs of no clusters are none
no_runs : (before : List Run) → AllByRecursion (λ (run : Run). 0 < run.clusters) before → ((c : ℕ) → is_of_runs before c ≡ false) → before ≡ []
no_runs [] some none = refl
no_runs (run ∷ runs) some none = let has : 0 < run.clusters = some.0 in let out = none run.start in absurd (grind (arith, nat_tests, has, out))

module _ (v : Volume) (earlier later : List Allocator) (a : Allocator) (is : allocators v ≡ earlier ++ a ∷ later) (before : List Run) (h : AreBefore v earlier before) where
  some : AllByRecursion (λ (run : Run). 0 < run.clusters) before
  some = recursion_from_All (λ (run : Run). 0 < run.clusters) before h.some

  -- the bitmap is walked first
  same_blocks : are_clusters a.bit_use ≡ true → (b : ℕ) → among (map (λ g. g.block) (walk_of v earlier).groups) b ≡ among (map (λ g. g.block) (walked_before v before)) b
  same_blocks clusters b =
      let first : earlier ≡ [] = bitmap_first v earlier later a is clusters in
      let none : before ≡ [] = no_runs before some (λ c. h.clusters c ∙ ap (λ es. list_any (holds_cluster v c) (walk_of v es).groups) first) in
      ap (λ es. among (map (λ (g : Walked). g.block) (walk_of v es).groups) b) first ∙ sym (ap (λ runs. among (map (λ (g : Walked). g.block) (walked_before v runs)) b) none)

  alike : AreAlike v a (walk_of v earlier).groups (walked_before v before)
  alike = record {
    held = λ c. sym (h.clusters c) ∙ runs_clusters v before c;
    placed = same_blocks;
    stand = λ others. allocators_stand v earlier (record { groups = []; faults = [] }) tt;
    stand_too = λ others. runs_stand v before some;
  }

  beside : GoBeside v a (walk_of v earlier) (record { groups = walked_before v before; faults = [] }) (walk_of v (earlier ++ a ∷ [])) (allocator_walk v (judged a) before)
  unfolding allocator_walk
  beside = rw (walk_last v earlier a (record { groups = []; faults = [] }), sym (same_heads v a)) (chains_beside v a 0 (chain_heads v a) (walk_of v earlier) (record { groups = walked_before v before; faults = [] }) alike)

  pub groups_within : (groups : List Group) → AreGroups v (judged a) before groups → (walk_of v (earlier ++ a ∷ [])).groups ≡ (walk_of v earlier).groups ++ map (group_in a) groups
  groups_within groups are =
      let same : map (group_in (judged a)) beside.more ≡ map (group_in (judged a)) groups = append_cancel_left (walked_before v before) _ _ (sym beside.counted.groups ∙ are) in
      let met : beside.more ≡ groups = same_groups (judged a) beside.more groups same in
      beside.walked.groups ∙ ap (λ gs. (walk_of v earlier).groups ++ map (group_in a) gs) met

  pub links_within : (walk_of v (earlier ++ a ∷ [])).faults ≡ (walk_of v earlier).faults ++ (allocator_walk v (judged a) before).faults
  links_within = beside.walked.faults ∙ ap (λ bs. (walk_of v earlier).faults ++ bs) (sym beside.counted.faults)

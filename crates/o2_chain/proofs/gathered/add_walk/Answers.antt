-- The groups, the bad links, and the clusters of the groups of blocks.
use Rattle.std.proofs.Common.{◌≡◌, ℕ, ◌<◌, false, List, [], ◌∷◌, ◌++◌, All, map, sym, ◌∙◌, ap, subst}
use Rattle.o2_model.specs.declared.allocator.Allocator.{Allocator}
use Rattle.o2_model.specs.declared.allocator.Group.{Group as Of-volume}
use Rattle.o2_model.specs.declared.geo.Geo.{Geo}
use Rattle.o2_model.specs.Volume.{Volume}
use Rattle.o2_model.specs.Allocators.{allocators, are_clusters}
use Rattle.o2_view.specs.Geos.{blocks_of}
use Rattle.o2_view.specs.declared.run.Run.{Run}
use Rattle.o2_chain.specs.Earlier.{AreBefore, walk_of}
use Rattle.o2_chain.specs.Readings.{Keeps}
use Rattle.o2_chain.specs.Walks.{allocator_walk, group_in}
use Rattle.o2_chain.specs.Whole.{HasGathered, run_of_group}
use Rattle.o2_chain.specs.declared.gathered.Gathered.{Gathered}
use Rattle.o2_chain.specs.declared.group.Group.{Group}
use Rattle.o2_chain.specs.declared.walked.Walked.{Walked}
use Rattle.o2_chain.proofs.BesideWalks.{judged}
use Rattle.o2_chain.proofs.ClustersAdded.{each_below, before_still, before_more}
use Rattle.o2_chain.proofs.OneAllocator.{groups_within, links_within}
use Rattle.o2_chain.proofs.gathered.add_walk.Goals as goal

module _ (v : Volume) (earlier later : List Allocator) (a : Allocator) (is : allocators v ≡ earlier ++ a ∷ later) (old : Gathered) (h : HasGathered v earlier old) (walked : Walked) (keeps : Keeps v (judged a) old.runs.items walked (allocator_walk v (judged a) old.runs.items)) where
  with_groups : (met : List Group) (new : List Of-volume) → met ≡ walked.groups.items → new ≡ old.groups.items ++ map (group_in a) met → new ≡ (walk_of v (earlier ++ a ∷ [])).groups
  with_groups met new same added =
      added
      ∙ (ap (λ gs. gs ++ map (group_in a) met) h.groups
      ∙ (ap (λ ms. (walk_of v earlier).groups ++ map (group_in a) ms) same
      ∙ sym (groups_within v earlier later a is old.runs.items h.runs walked.groups.items keeps.groups)))

  with_faults : (bad new : List ℕ) → bad ≡ walked.faults.items → new ≡ old.faults.items ++ bad → new ≡ (walk_of v (earlier ++ a ∷ [])).faults
  with_faults bad new same added =
      added
      ∙ (ap (λ bs. bs ++ bad) h.faults
      ∙ (ap (λ bs. (walk_of v earlier).faults ++ bs) (same ∙ keeps.faults)
      ∙ sym (links_within v earlier later a is old.runs.items h.runs)))

  with_runs : (geo : Geo) (met : List Group) (new : List Run) → v.geo ≡ geo → met ≡ walked.groups.items → are_clusters a.bit_use ≡ false
      → (All (λ (g : Group). g.block < blocks_of geo) met → new ≡ old.runs.items ++ map (run_of_group geo) met) → AreBefore v (earlier ++ a ∷ []) new
  with_runs geo met new numbers same others added =
      let below : All (λ (g : Group). g.block < blocks_of geo) met =
      subst (λ (n : Geo). All (λ (g : Group). g.block < blocks_of n) met) numbers (subst (All (λ (g : Group). g.block < blocks_of v.geo)) (sym same) (each_below v earlier later a is old.runs.items h.runs walked.groups.items keeps.groups))
      in
      let runs : new ≡ old.runs.items ++ map (run_of_group v.geo) walked.groups.items =
      added below ∙ (ap (λ (n : Geo). old.runs.items ++ map (run_of_group n) met) (sym numbers) ∙ ap (λ ms. old.runs.items ++ map (run_of_group v.geo) ms) same)
      in
      subst (AreBefore v (earlier ++ a ∷ [])) (sym runs) (before_more v earlier later a is old.runs.items h.runs walked.groups.items keeps.groups others)

pub returns-then-is_bitmap : goal.returns-then-is_bitmap
returns-then-is_bitmap c v numbers earlier later is h keeps =
    let a = c.args.a.now in
    let old = c.args.gathered.now in
    let walked = c.args.walked.now in
    record {
      groups = with_groups v earlier later a is old h walked keeps c.as_slice-met.result.now _ c.as_slice-met.ensures.value c.in_ok-add_groups.ensures;
      faults = with_faults v earlier later a is old h walked keeps c.as_slice.result.now _ c.as_slice.ensures.value c.in_ok-add_faults.ensures;
      runs = before_still v earlier later a is old.runs.items h.runs walked.groups.items keeps.groups (sym c.is_bitmap.ensures ∙ c.if-is_bitmap.true);
    }

pub returns : goal.returns
returns c v numbers earlier later is h keeps =
    let a = c.args.a.now in
    let old = c.args.gathered.now in
    let walked = c.args.walked.now in
    record {
      groups = with_groups v earlier later a is old h walked keeps c.as_slice-met.result.now _ c.as_slice-met.ensures.value c.in_ok-add_groups.ensures;
      faults = with_faults v earlier later a is old h walked keeps c.as_slice.result.now _ c.as_slice.ensures.value c.in_ok-add_faults.ensures;
      runs = with_runs v earlier later a is old h walked keeps c.args.geo.now c.as_slice-met.result.now _ numbers c.as_slice-met.ensures.value (sym c.is_bitmap.ensures ∙ c.if-is_bitmap.false) (λ inside. c.in_ok-add_runs.ensures);
    }

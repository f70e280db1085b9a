-- The clusters that count as walked once an allocator was walked.
use Rattle.std.proofs.Common.{◌≡◌, ℕ, ◌/◌, ◌<◌, Bool, true, false, ◌||◌, List, [], ◌∷◌, ◌++◌, map, refl, sym, ◌∙◌, ap}
use Rattle.std.specs.Prelude.{All}
use Rattle.std.specs.List.{list_any, AllByRecursion}
use Rattle.std.proofs.lemmas.List.Elements.{All-append, All-from_recursion}
use Rattle.std.proofs.lemmas.List.Folds.{list_any-append}
use Rattle.o2_model.specs.declared.allocator.Allocator.{Allocator}
use Rattle.o2_model.specs.Volume.{Volume, blocks, per_cluster}
use Rattle.o2_model.specs.Allocators.{allocators, are_clusters}
use Rattle.o2_model.specs.Groups.{holds_cluster}
use Rattle.o2_view.specs.FreeRuns.{is_of_run, is_of_runs}
use Rattle.o2_view.specs.declared.run.Run.{Run}
use Rattle.o2_chain.specs.Earlier.{AreBefore, walk_of}
use Rattle.o2_chain.specs.Met.{IsMet}
use Rattle.o2_chain.specs.Walks.{group_in, AreGroups}
use Rattle.o2_chain.specs.Whole.{run_of_group}
use Rattle.o2_chain.specs.declared.group.Group.{Group}
use Rattle.o2_chain.proofs.BesideWalks.{judged, judged_clusters}
use Rattle.o2_chain.proofs.Groups.{HasClusters, all_met, all_some}
use Rattle.o2_chain.proofs.OneAllocator.{groups_within}
use Rattle.o2_chain.proofs.Walking.{among_row}

-- ---- groups that are met
below_all : (v : Volume) (a : Allocator) (groups : List Group) → AllByRecursion (IsMet v a) groups → AllByRecursion (λ (g : Group). g.block < blocks v) groups
below_all v a [] met = tt
below_all v a (g ∷ groups) met = (met.0.below, below_all v a groups met.1)

some_all : (v : Volume) (a : Allocator) (groups : List Group) → are_clusters a.bit_use ≡ false → AllByRecursion (HasClusters v a) groups → AllByRecursion (λ (run : Run). 0 < run.clusters) (map (run_of_group v.geo) groups)
some_all v a [] others some = tt
some_all v a (g ∷ groups) others some = (some.0 others, some_all v a groups others some.1)

-- ---- the clusters of groups
run_holds : (v : Volume) (a : Allocator) (g : Group) (c : ℕ) → are_clusters a.bit_use ≡ false → is_of_run c (run_of_group v.geo g) ≡ holds_cluster v c (group_in a g)
run_holds v a g c others = rw others (sym (among_row (g.block / per_cluster v) (g.bits / per_cluster v) c))

runs_hold : (v : Volume) (a : Allocator) (groups : List Group) (c : ℕ) → are_clusters a.bit_use ≡ false → is_of_runs (map (run_of_group v.geo) groups) c ≡ list_any (holds_cluster v c) (map (group_in a) groups)
runs_hold v a [] c others = refl
runs_hold v a (g ∷ groups) c others = rw (run_holds v a g c others, runs_hold v a groups c others) refl

none_hold : (v : Volume) (a : Allocator) (groups : List Group) (c : ℕ) → are_clusters a.bit_use ≡ true → list_any (holds_cluster v c) (map (group_in a) groups) ≡ false
none_hold v a [] c clusters = refl
none_hold v a (g ∷ groups) c clusters = rw (clusters, none_hold v a groups c clusters) refl

or_none : (x : Bool) → (x || false) ≡ x
or_none true = refl
or_none false = refl

either : {x y p q : Bool} → x ≡ p → y ≡ q → (x || y) ≡ (p || q)
either e f = cc

module _ (v : Volume) (earlier later : List Allocator) (a : Allocator) (is : allocators v ≡ earlier ++ a ∷ later) (before : List Run) (h : AreBefore v earlier before) (groups : List Group) (are : AreGroups v (judged a) before groups) where
  held : (c : ℕ) → list_any (holds_cluster v c) (walk_of v (earlier ++ a ∷ [])).groups ≡ (list_any (holds_cluster v c) (walk_of v earlier).groups || list_any (holds_cluster v c) (map (group_in a) groups))
  held c = ap (list_any (holds_cluster v c)) (groups_within v earlier later a is before h groups are) ∙ list_any-append (holds_cluster v c) (walk_of v earlier).groups (map (group_in a) groups)

  -- each group begins in the volume
  pub each_below : All (λ (g : Group). g.block < blocks v) groups
  each_below = All-from_recursion (λ (g : Group). g.block < blocks v) groups (below_all v (judged a) groups (all_met v (judged a) before groups are))

  -- a group of the bitmap has no clusters that count
  pub before_still : are_clusters a.bit_use ≡ true → AreBefore v (earlier ++ a ∷ []) before
  before_still clusters = record {
    some = h.some;
    clusters = λ c. h.clusters c ∙ sym (held c ∙ (either refl (none_hold v a groups c clusters) ∙ or_none _));
  }

  pub before_more : are_clusters a.bit_use ≡ false → AreBefore v (earlier ++ a ∷ []) (before ++ map (run_of_group v.geo) groups)
  before_more others = record {
    some = All-append (λ (run : Run). 0 < run.clusters) before (map (run_of_group v.geo) groups) h.some
        (All-from_recursion (λ (run : Run). 0 < run.clusters) (map (run_of_group v.geo) groups) (some_all v (judged a) groups (judged_clusters (are_clusters a.bit_use) a.block ∙ others) (all_some v (judged a) before groups are)));
    clusters = λ c. list_any-append (is_of_run c) before (map (run_of_group v.geo) groups) ∙ (either (h.clusters c) (runs_hold v a groups c others) ∙ sym (held c));
  }

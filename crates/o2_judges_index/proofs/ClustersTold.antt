-- What is counted and owned tells whether an index has its clusters for itself.
use Rattle.std.proofs.Common.{◌≡◌, inl, inr, ℕ, zero, suc, ◌+◌, ◌-◌, ◌/◌, ◌<◌, ◌≤◌, Bool, true, false, cond, ◌&&◌, not, ◌==◌, List, [], ◌∷◌, refl, sym, ◌∙◌, ap, arith}
use Rattle.std.specs.List.{AllByRecursion, range_with_len, list_all}
use Rattle.std.proofs.lemmas.Bool.{cases_Bool}
use Rattle.std.proofs.lemmas.Bool.Decides.{nat_tests}
use Rattle.std.proofs.lemmas.List.Folds.{list_all-append, flat_map-map}
use Rattle.std.proofs.lemmas.List.Sums.{sum_by-cons}
use Rattle.o2_ondisk.specs.DxRoots.{dx_root_list_place, dx_root_records_place}
use Rattle.o2_model.specs.declared.claim.Claim.{Claim}
use Rattle.o2_model.specs.Words.{among}
use Rattle.o2_model.specs.Volume.{Volume, block_size}
use Rattle.o2_model.specs.Claims.{claimed_clusters}
use Rattle.o2_model.specs.Files.{times_in}
use Rattle.o2_model.specs.Indexes.{index_root, index_extents, index_clusters, is_index_root, is_inline_index}
use Rattle.o2_model.specs.LeafRecords.{clusters_under}
use Rattle.o2_model.specs.SoundIndexes.{has_own_index_clusters}
use Rattle.o2_tables.specs.declared.inodes.ClusterRun.{ClusterRun}
use Rattle.o2_tables.specs.Rows.{run_of}
use Rattle.o2_tally.specs.Gathered.{IsCount}
use Rattle.o2_tally.specs.declared.counts.Counts.{Counts}
use Rattle.o2_claims.specs.Owners.{clusters_of, has_owner, AreOwners}
use Rattle.o2_claims.specs.declared.claims.Claims.{Claims}
use Rattle.o2_claims.proofs.FirstOwners.{claimed_is}
use Rattle.o2_tree.specs.declared.indexes.IndexRow.{IndexRow}
use Rattle.o2_tree.specs.TreeRows.{IsIndexRow}
use Rattle.o2_judges_alloc.proofs.RowsTold.{each_is, same_all}
use Rattle.o2_judges_claims.proofs.Inside.{IsInside, list_inside}
use Rattle.o2_judges_claims.proofs.Members.{each_flat}
use Rattle.o2_judges_index.specs.IndexRows.{clusters_of_run, clusters_of_runs, is_new_once, are_new_once}

-- ---- by runs and by clusters
all_shifted : (p : ℕ → Bool) (a b n : ℕ) → list_all (λ k. p (a + k)) (range_with_len b n) ≡ list_all p (range_with_len (a + b) n)
all_shifted p a b zero = refl
all_shifted p a b (suc n) = ap (λ r. p (a + b) && r) (all_shifted p a (b + 1) n ∙ ap (λ m. list_all p (range_with_len m n)) (omega arith))

run_is : (p : ℕ → Bool) (run : ClusterRun) → list_all (λ k. p (run.start + k)) (range_with_len 0 run.clusters) ≡ list_all p (clusters_of_run run)
run_is p run = all_shifted p run.start 0 run.clusters ∙ ap (λ a. list_all p (range_with_len a run.clusters)) (omega arith)

runs_are : (p : ℕ → Bool) (runs : List ClusterRun) → list_all (λ run. list_all (λ k. p (run.start + k)) (range_with_len 0 run.clusters)) runs ≡ list_all p (clusters_of_runs runs)
runs_are p [] = refl
runs_are p (run ∷ runs) =
    ap (λ b. b && list_all (λ (r : ClusterRun). list_all (λ k. p (r.start + k)) (range_with_len 0 r.clusters)) runs) (run_is p run)
    ∙ (ap (λ b. list_all p (clusters_of_run run) && b) (runs_are p runs)
    ∙ sym (list_all-append p (clusters_of_run run) (clusters_of_runs runs)))

-- What each run tells, where its clusters were counted, is what its clusters tell.
pub counted_is : (claims : Claims) (counts : Counts) (runs : List ClusterRun) → IsCount (clusters_of_runs runs) counts
    → list_all (λ run. list_all (λ k. is_new_once claims counts (run.start + k)) (range_with_len 0 run.clusters)) runs ≡ are_new_once claims (clusters_of_runs runs)
counted_is claims counts runs are =
    runs_are (is_new_once claims counts) runs
    ∙ same_all (is_new_once claims counts) (λ c. times_in (clusters_of_runs runs) c == 1 && not (has_owner claims c)) (λ c. ap (λ n. n == 1 && not (has_owner claims c)) (are.each c)) (clusters_of_runs runs)

-- ---- numbers that do not come
never : (ns : List ℕ) (c : ℕ) → (times_in ns c == 0) ≡ not (among ns c)
never [] c = refl
never (n ∷ ns) c = ap (λ m. m == 0) (sum_by-cons (λ d. cond (d == c) 1 0) n ns) ∙ elim (cases_Bool (n == c)) [
  | inl here ↦ rw (here, turned n c true here) (some (times_in ns c))
  | inr other ↦ rw (other, turned n c false other) (none (times_in ns c) ∙ never ns c)
]
  where
    turned : (a b : ℕ) (r : Bool) → (a == b) ≡ r → (b == a) ≡ r
    turned a b true h = grind (arith, nat_tests)
    turned a b false h = grind (arith, nat_tests)

    some : (m : ℕ) → (1 + m == 0) ≡ false
    some m = grind (arith, nat_tests)

    none : (m : ℕ) → (0 + m == 0) ≡ (m == 0)
    none m = ap (λ k. k == 0) (omega arith)

-- ---- the clusters of an index
inside_index : (v : Volume) (d : ℕ) → AllByRecursion (IsInside v) (index_extents v d).leaves
unfolding index_extents
inside_index v d = elim (cases_Bool (is_index_root v d (index_root v d) && not (is_inline_index v (index_root v d)))) [
  | inl has ↦ rw has (list_inside v 3 (index_root v d) dx_root_list_place ((block_size v - dx_root_records_place) / 16))
  | inr none ↦ rw none tt
]

range_inside : (low n end : ℕ) → low + n ≤ end → AllByRecursion (λ c. c < end) (range_with_len low n)
range_inside low zero end fits = tt
range_inside low (suc n) end fits = (omega (arith, fits), range_inside (low + 1) n end (omega (arith, fits)))

clusters_inside : (v : Volume) (d : ℕ) → AllByRecursion (λ c. c < v.geo.clusters) (index_clusters v d)
unfolding index_clusters
clusters_inside v d =
    each_flat (λ c. c < v.geo.clusters) (clusters_under v) (index_extents v d).leaves (each_is (λ leaf inside. range_inside _ _ v.geo.clusters inside) (index_extents v d).leaves (inside_index v d))

runs_tell : (v : Volume) (r : IndexRow) → IsIndexRow v r → clusters_of_runs r.runs ≡ index_clusters v r.directory
unfolding index_clusters
runs_tell v r is = ap clusters_of_runs is.runs ∙ flat_map-map clusters_of_run (run_of v) (index_extents v r.directory).leaves

all_as : {A : Type 0} (p q : A → Bool) (xs : List A) → AllByRecursion (λ x. p x ≡ q x) xs → list_all p xs ≡ list_all q xs
all_as p q [] same = refl
all_as p q (x ∷ xs) same = ap (λ b. b && list_all p xs) same.0 ∙ ap (λ b. q x && b) (all_as p q xs same.1)

pub clusters_told : (v : Volume) (before : List Claim) (claims : Claims) (r : IndexRow) → IsIndexRow v r → clusters_of claims ≡ v.geo.clusters → AreOwners before claims
    → are_new_once claims (clusters_of_runs r.runs) ≡ has_own_index_clusters v (claimed_clusters before) r.directory
clusters_told v before claims r is all are =
    ap (are_new_once claims) (runs_tell v r is)
    ∙ all_as (λ c. times_in cs c == 1 && not (has_owner claims c)) (λ c. times_in cs c == 1 && times_in (claimed_clusters before) c == 0) cs
    (each_is (λ c low. ap (λ b. times_in cs c == 1 && b) (ap not (claimed_is before claims c are (omega (arith, all, low))) ∙ sym (never (claimed_clusters before) c))) cs (clusters_inside v r.directory))
  where
    cs : List ℕ
    cs = index_clusters v r.directory

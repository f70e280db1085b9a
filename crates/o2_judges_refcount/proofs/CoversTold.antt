-- Rows of inodes and of trees tell where REF_COVER fails.
use Rattle.std.proofs.Common.{◌≡◌, ◌⊎◌, inl, inr, eqb, ℕ, zero, suc, ◌+◌, Bool, true, false, ◌&&◌, ◌||◌, not, ◌==◌, List, [], ◌∷◌, map, filter, flat_map, fold, refl, sym, ◌∙◌, ap, arith, Option, Some, None}
use Rattle.std.specs.List.{AllByRecursion, range_with_len, list_all, list_any}
use Rattle.std.specs.Option.{option_map_or}
use Rattle.std.specs.BTreeSet.{BTreeSet}
use Rattle.std.proofs.lemmas.Bool.{cases_Bool, eqb-true, false≢true}
use Rattle.std.proofs.lemmas.Bool.Decides.{nat_tests}
use Rattle.std.proofs.lemmas.List.Concat.{flat_map-cons}
use Rattle.o2_model.specs.declared.check.Check.TheVariants as check
use Rattle.o2_model.specs.declared.placed_refcount.PlacedRefcount.{PlacedRefcount}
use Rattle.o2_model.specs.Faults.{fails_unless}
use Rattle.o2_model.specs.Words.{among}
use Rattle.o2_model.specs.Volume.{Volume}
use Rattle.o2_model.specs.RefcountTrees.{refcount_roots, is_refcount_block, refcounts}
use Rattle.o2_model.specs.Checks.RefCover.{tree_references, record_clusters, is_shared_evenly, is_covered, is_covering as model_covering}
use Rattle.o2_model.specs.Failing.{faults}
use Rattle.o2_tally.specs.Again.{has_number}
use Rattle.o2_tables.specs.Rows.{IsInodeTable, IsRefcountTreeRow, IsRefcountTreeTable}
use Rattle.o2_tables.specs.declared.inodes.ClusterRun.{ClusterRun}
use Rattle.o2_tables.specs.declared.inodes.InodeRow.{InodeRow}
use Rattle.o2_tables.specs.declared.refcounts.RefcountTreeRow.{RefcountTreeRow}
use Rattle.o2_view.specs.Plans.{is_in_run, is_in_runs}
use Rattle.o2_judges_refcount.specs.References.{clusters_in, shared_in, is_of_tree, AreReferences}
use Rattle.o2_judges_refcount.specs.TreeRows.{is_shared}
use Rattle.o2_judges_refcount.specs.CoverRows.{run_of, runs_of, has_cluster, has_run, has_shared, misses, is_covering, cover_faults, AreCovers, AreMissing}
use Rattle.o2_judges_refcount.specs.declared.covers.Covers.{Covers}
use Rattle.o2_judges_refcount.specs.declared.sharing.References.{References}
use Rattle.o2_judges_refcount.proofs.PairsTold.{references_of_tree}
use Rattle.o2_judges_refcount.proofs.RowsTold.{each_both, each_there, one_by_one, rows_give, same_all, all_append}
use Rattle.o2_judges_refcount.proofs.TreesTold.{shared_evenly_is}

-- ---- the clusters of records
among_row : (first count c : ℕ) → among (range_with_len first count) c ≡ is_in_run c (first, count)
among_row first zero c = grind (arith, nat_tests)
among_row first (suc count) c = elim (cases_Bool (eqb c first)) [
  | inl same ↦ rw same (grind (arith, nat_tests))
  | inr other ↦ rw (other, among_row (first + 1) count c) (grind (arith, nat_tests))
]

runs_have : (ps : List PlacedRefcount) (c : ℕ) → is_in_runs (map run_of ps) c ≡ list_any (λ p. among (record_clusters p.fields) c) ps
runs_have [] c = refl
runs_have (p ∷ ps) c =
    ap (λ b. b || is_in_runs (map run_of ps) c) (sym (among_row p.fields.cpos p.fields.clusters c))
    ∙ ap (λ b. among (record_clusters p.fields) c || b) (runs_have ps c)

-- what is kept of a root is what any row with this root tells
kept : (v : Volume) (root : ℕ) (trees : List RefcountTreeRow) → AllByRecursion (IsRefcountTreeRow v) trees → (s : Option (List (ℕ × ℕ)))
    → (s ≡ Some (map run_of (refcounts v root).records)) ⊎ (list_any (λ t. t.root.block == root) trees ≡ true)
    → fold (λ before t. Some (runs_of t)) s (filter (λ t. t.root.block == root) trees) ≡ Some (map run_of (refcounts v root).records)
kept v root [] all s (inl is) = is
kept v root [] all s (inr there) = absurd (false≢true there)
kept v root (t ∷ ts) all s given = elim (cases_Bool (t.root.block == root)) [
  | inl same ↦ rw same (kept v root ts all.1 (Some (runs_of t)) (inl (its same)))
  | inr other ↦ rw other (kept v root ts all.1 s (later other given))
]
  where
    its : (t.root.block == root) ≡ true → Some (runs_of t) ≡ Some (map run_of (refcounts v root).records)
    its same = ap (λ ps. Some (map run_of ps)) (all.0.records ∙ ap (λ b. (refcounts v b).records) (eqb-true t.root.block root same))

    later : (t.root.block == root) ≡ false → (s ≡ Some (map run_of (refcounts v root).records)) ⊎ (list_any (λ u. u.root.block == root) (t ∷ ts) ≡ true)
        → (s ≡ Some (map run_of (refcounts v root).records)) ⊎ (list_any (λ u. u.root.block == root) ts ≡ true)
    later other (inl is) = inl is
    later other (inr there) = inr (sym (ap (λ b. b || list_any (λ u. u.root.block == root) ts) other) ∙ there)

covered_is : (v : Volume) (trees : List RefcountTreeRow) (covers : Covers) → AreCovers trees covers → IsRefcountTreeTable v trees
    → (root : ℕ) → list_any (λ t. t.root.block == root) trees ≡ true → (c : ℕ) → has_cluster covers root c ≡ is_covered v root c
covered_is v trees covers are table root there c =
    ap (λ o. option_map_or (λ runs. is_in_runs runs c) o false) (are.each root ∙ kept v root trees table.each None (inr there))
    ∙ runs_have (refcounts v root).records c

-- ---- what inodes refer to
shared_had : (covers : Covers) (root : ℕ) (runs : List ClusterRun)
    → list_all (λ run. not run.is_shared || has_run covers root run) runs ≡ list_all (has_cluster covers root) (flat_map clusters_in (filter (λ run. run.is_shared) runs))
shared_had covers root [] = refl
shared_had covers root (run ∷ runs) = elim (cases_Bool run.is_shared) [
  | inl shared ↦ rw shared
      (ap (λ b. has_run covers root run && b) (shared_had covers root runs)
      ∙ (sym (all_append (has_cluster covers root) (clusters_in run) (flat_map clusters_in (filter (λ r. r.is_shared) runs)))
      ∙ ap (list_all (has_cluster covers root)) (sym (flat_map-cons clusters_in run (filter (λ r. r.is_shared) runs)))))
  | inr alone ↦ rw alone (shared_had covers root runs)
]

misses_is : (covers : Covers) (root : ℕ) (row : InodeRow) (tree : Option ℕ) → row.named_tree ≡ tree → misses covers root row ≡ (is_of_tree root row && not (has_shared covers root row))
misses_is covers root row None is = rw is refl
misses_is covers root row (Some named) is = rw is (by (named == root) refl)
  where
    by : (same : Bool) → (named == root) ≡ same → (named == root && not (has_shared covers named row)) ≡ (named == root && not (has_shared covers root row))
    by true same = ap (λ b. named == root && not (has_shared covers b row)) (eqb-true named root same)
    by false other = rw other refl

-- none is missed where the tree has all references of its inodes
none_missed : (covers : Covers) (root : ℕ) (rows : List InodeRow)
    → not (list_any (misses covers root) rows) ≡ list_all (has_cluster covers root) (flat_map shared_in (filter (is_of_tree root) rows))
none_missed covers root [] = refl
none_missed covers root (row ∷ rows) =
    ap (λ b. not (b || list_any (misses covers root) rows)) (misses_is covers root row row.named_tree refl) ∙ elim (cases_Bool (is_of_tree root row)) [
      | inl is ↦ rw is
          (neither (has_shared covers root row) (list_any (misses covers root) rows)
          ∙ (ap (λ b. b && not (list_any (misses covers root) rows)) (shared_had covers root row.runs)
          ∙ (ap (λ b. list_all (has_cluster covers root) (shared_in row) && b) (none_missed covers root rows)
          ∙ (sym (all_append (has_cluster covers root) (shared_in row) (flat_map shared_in (filter (is_of_tree root) rows)))
          ∙ ap (list_all (has_cluster covers root)) (sym (flat_map-cons shared_in row (filter (is_of_tree root) rows)))))))
      | inr other ↦ rw other (none_missed covers root rows)
    ]
  where
    neither : (a b : Bool) → not (not a || b) ≡ (a && not b)
    neither true b = refl
    neither false b = refl

-- ---- REF_COVER
module _ (v : Volume) (r : References) (covers : Covers) (missing : BTreeSet ℕ) (inodes : List InodeRow) (trees : List RefcountTreeRow)
    (are : AreReferences v r) (had : AreCovers trees covers) (missed : AreMissing covers inodes missing) (first : IsInodeTable v inodes) (second : IsRefcountTreeTable v trees) where
  none_is : (root : ℕ) → list_any (λ t. t.root.block == root) trees ≡ true → not (has_number missing root) ≡ list_all (is_covered v root) (tree_references v root)
  none_is root there =
      ap not (missed.each root)
      ∙ (none_missed covers root inodes
      ∙ (ap (list_all (has_cluster covers root)) (references_of_tree v root inodes first)
      ∙ same_all (has_cluster covers root) (is_covered v root) (covered_is v trees covers had second root there) (tree_references v root)))

  covering_is : (t : RefcountTreeRow) → IsRefcountTreeRow v t → list_any (λ u. u.root.block == t.root.block) trees ≡ true → is_covering r missing t ≡ model_covering v t.root.block
  unfolding model_covering
  covering_is t is there =
      ap (λ ps. list_all (λ p. is_shared r t.root.block p.fields) ps && not (has_number missing t.root.block)) is.records
      ∙ (ap (λ b. b && not (has_number missing t.root.block))
      (same_all (λ p. is_shared r t.root.block p.fields) (λ p. is_shared_evenly (tree_references v t.root.block) p.fields) (λ p. shared_evenly_is v r t.root.block are p.fields) (refcounts v t.root.block).records)
      ∙ ap (λ b. list_all (λ p. is_shared_evenly (tree_references v t.root.block) p.fields) (refcounts v t.root.block).records && b) (none_is t.root.block there))

  pub cover_told : flat_map (cover_faults r missing) trees ≡ faults v check.RefCover
  unfolding faults
  cover_told =
      rows_give (λ t. t.root.block) (λ t. t.root.is_refcount_block) (is_refcount_block v) (λ t. fails_unless t.root.block (is_covering r missing t)) (λ root. fails_unless root (model_covering v root))
      trees (refcount_roots v) second.roots
      (each_both (λ t is there. (is.root.is, λ sound. ap (fails_unless t.root.block) (covering_is t is there))) trees second.each (each_there (λ t. t.root.block) trees trees (λ k h. h)))
      ∙ one_by_one (λ b. b) (model_covering v) (filter (is_refcount_block v) (refcount_roots v))

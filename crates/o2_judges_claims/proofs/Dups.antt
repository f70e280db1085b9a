-- DUP_CLUSTERS by the rows of the inodes.
use Rattle.std.proofs.Common.{◌≡◌, ◌⊎◌, inl, inr, ℕ, zero, suc, ◌+◌, ◌<◌, add-zero, subst, Bool, true, false, ◌&&◌, ◌||◌, not, ◌==◌, List, [], ◌∷◌, ◌++◌, map, flat_map, filter, length, Option, Some, None, refl, sym, ◌∙◌, ap, arith}
use Rattle.std.specs.List.{AllByRecursion, range_with_len, list_all, Contains}
use Rattle.std.specs.Option.{option_map_or}
use Rattle.std.specs.BTreeMap.{get}
use Rattle.std.specs.Ordering.{nat_cmp}
use Rattle.std.proofs.lemmas.Bool.{cases_Bool, eqb-true, eq-eqb}
use Rattle.std.proofs.lemmas.List.Folds.{list_all-append}
use Rattle.o2_model.specs.declared.check.Check.TheVariants as check
use Rattle.o2_model.specs.declared.leaf.Leaf.{Leaf}
use Rattle.o2_model.specs.Faults.{fails_at}
use Rattle.o2_model.specs.Volume.{Volume, dinode}
use Rattle.o2_model.specs.Inodes.{records_of}
use Rattle.o2_model.specs.Groups.{inodes_of}
use Rattle.o2_model.specs.Claims.{structure_claims, is_claimed}
use Rattle.o2_model.specs.Failing.{faults}
use Rattle.o2_model.specs.Checks.RefTree.{has_tree}
use Rattle.o2_model.specs.Checks.DupClusters.{ClusterUse, uses_by, uses_of, uses_under, may_share, share_tree, is_sole_or_shared}
use Rattle.o2_tables.specs.declared.inodes.InodeRow.{InodeRow}
use Rattle.o2_tables.specs.Rows.{run_of, tree_of, IsInodeRow, IsInodeTable}
use Rattle.o2_claims.specs.Owners.{clusters_of, AreOwners}
use Rattle.o2_claims.specs.declared.claims.Claims.{Claims}
use Rattle.o2_claims.proofs.FirstOwners.{claimed_is}
use Rattle.o2_judges_alloc.proofs.RowsTold.{all_rows_tell}
use Rattle.o2_judges_claims.specs.declared.sharers.Sharer.{Sharer}
use Rattle.o2_judges_claims.specs.declared.sharers.PlacedUse.{PlacedUse}
use Rattle.o2_judges_claims.specs.declared.sharers.Together.{Together}
use Rattle.o2_judges_claims.specs.declared.uses.Uses.{Uses}
use Rattle.o2_judges_claims.specs.Uses.{AreUses, is_same, sharer_of, sharer, use_at, uses_in_run, uses_in_row, with_use, is_good, is_good_at, is_free_and_good, are_good_in_run, are_good_in_row}
use Rattle.o2_judges_claims.proofs.Togethers.{may, all_together, together_is, good_is}
use Rattle.o2_judges_claims.proofs.Inside.{IsUseInside, uses_inside}
use Rattle.o2_judges_claims.proofs.Members.{contains_first, contains_later, contains_flat, kept_in, mapped_in, each_has}

-- ---- uses, as the rows tell them
-- the use with its sharer
abbrev pub placed : Volume → ClusterUse → PlacedUse
placed v u = record { cluster = u.cluster; is_shared = u.is_shared; by = sharer_of u.inode (tree_of v u.inode) }

map_map : {A B C : Type 0} (f : B → C) (g : A → B) (xs : List A) → map f (map g xs) ≡ map (λ x. f (g x)) xs
map_map f g [] = refl
map_map f g (x ∷ xs) = ap (λ ys. f (g x) ∷ ys) (map_map f g xs)

map_flat : {A B C : Type 0} (f : B → C) (g : A → List B) (xs : List A) → map f (flat_map g xs) ≡ flat_map (λ x. map f (g x)) xs
map_flat f g [] = refl
map_flat f g (x ∷ xs) = map_both f (g x) (flat_map g xs) ∙ ap (λ ys. map f (g x) ++ ys) (map_flat f g xs)
  where
    map_both : {B C : Type 0} (f : B → C) (xs ys : List B) → map f (xs ++ ys) ≡ map f xs ++ map f ys
    map_both f [] ys = refl
    map_both f (x ∷ xs) ys = ap (λ zs. f x ∷ zs) (map_both f xs ys)

-- numbers from a on, by their distance
shifted : {A : Type 0} (f : ℕ → A) (a b n : ℕ) → map (λ k. f (a + k)) (range_with_len b n) ≡ map f (range_with_len (a + b) n)
shifted f a b zero = refl
shifted f a b (suc n) = ap (λ ys. f (a + b) ∷ ys) (shifted f a (b + 1) n ∙ ap (λ m. map f (range_with_len m n)) (omega arith))

abbrev use_of : Sharer → Bool → ℕ → PlacedUse
use_of by is_shared c = record { cluster = c; is_shared = is_shared; by = by }

-- the uses of an inode by its row
row_uses : (v : Volume) (row : InodeRow) → IsInodeRow v row → uses_in_row row ≡ map (placed v) (uses_by v row.block)
unfolding uses_by
row_uses v row is =
    ap (λ o. flat_map (uses_in_run (sharer_of row.block o)) row.runs) is.tree
    ∙ (ap (λ rs. flat_map (uses_in_run (sharer_of row.block (tree_of v row.block))) rs) is.runs
    ∙ (by (records_of v row.block)
    ∙ sym (map_flat (placed v) (uses_under v row.block) (records_of v row.block))))
  where
    one : (r : Leaf) → uses_in_run (sharer_of row.block (tree_of v row.block)) (run_of v r) ≡ map (placed v) (uses_under v row.block r)
    one r =
        let f = λ (c : ℕ). use_of (sharer_of row.block (tree_of v row.block)) (run_of v r).is_shared c in
        shifted f (run_of v r).start 0 (run_of v r).clusters
        ∙ (ap (λ a. map f (range_with_len a (run_of v r).clusters)) (add-zero (run_of v r).start)
        ∙ sym (map_map (placed v) (λ c. record { inode = row.block; cluster = c; is_shared = (run_of v r).is_shared }) (range_with_len (run_of v r).start (run_of v r).clusters)))

    by : (rs : List Leaf) → flat_map (uses_in_run (sharer_of row.block (tree_of v row.block))) (map (run_of v) rs) ≡ flat_map (λ r. map (placed v) (uses_under v row.block r)) rs
    by [] = refl
    by (r ∷ rs) = ap (λ ws. ws ++ flat_map (uses_in_run (sharer_of row.block (tree_of v row.block))) (map (run_of v) rs)) (one r) ∙ ap (λ ws. map (placed v) (uses_under v row.block r) ++ ws) (by rs)

all_uses : (v : Volume) (rows : List InodeRow) → AllByRecursion (IsInodeRow v) rows → flat_map uses_in_row rows ≡ map (placed v) (flat_map (uses_by v) (map (λ r. r.block) rows))
all_uses v [] all = refl
all_uses v (r ∷ rs) all =
    ap (λ ws. ws ++ flat_map uses_in_row rs) (row_uses v r all.0)
    ∙ (ap (λ ws. map (placed v) (uses_by v r.block) ++ ws) (all_uses v rs all.1)
    ∙ sym (both (uses_by v r.block) (flat_map (uses_by v) (map (λ r. r.block) rs))))
  where
    both : (xs ys : List ClusterUse) → map (placed v) (xs ++ ys) ≡ map (placed v) xs ++ map (placed v) ys
    both [] ys = refl
    both (x ∷ xs) ys = ap (λ zs. placed v x ∷ zs) (both xs ys)

filter_placed : (v : Volume) (c : ℕ) (us : List ClusterUse) → filter (λ w. w.cluster == c) (map (placed v) us) ≡ map (placed v) (filter (λ u. u.cluster == c) us)
filter_placed v c [] = refl
filter_placed v c (u ∷ us) = elim (cases_Bool (u.cluster == c)) [
  | inl same ↦ rw same (ap (λ ws. placed v u ∷ ws) (filter_placed v c us))
  | inr other ↦ rw other (filter_placed v c us)
]

-- ---- sharers
by_cases : (v : Volume) (a b : ℕ) (s t : Bool) → has_tree v a ≡ s → has_tree v b ≡ t
    → is_same (sharer_of a (tree_of v a)) (sharer_of b (tree_of v b)) ≡ (a == b || share_tree v a b)
by_cases v a b true true p q = rw (p, q) (alike a b (cases_Bool (a == b)))
  where
    alike : (a b : ℕ) → ((a == b) ≡ true) ⊎ ((a == b) ≡ false) → ((dinode v a).refcount_loc == (dinode v b).refcount_loc) ≡ (a == b || (dinode v a).refcount_loc == (dinode v b).refcount_loc)
    alike a b (inl same) = rw same (eq-eqb _ _ (ap (λ n. (dinode v n).refcount_loc) (eqb-true a b same)))
    alike a b (inr other) = rw other refl
by_cases v a b true false p q = rw (p, q) (sym (apart (a == b) refl))
  where
    apart : (r : Bool) → (a == b) ≡ r → (r || false) ≡ false
    apart true is = let e : true ≡ false = sym p ∙ (ap (has_tree v) (eqb-true a b is) ∙ q) in cc
    apart false is = refl
by_cases v a b false true p q = rw (p, q) (sym (apart (a == b) refl))
  where
    apart : (r : Bool) → (a == b) ≡ r → (r || false) ≡ false
    apart true is = let e : false ≡ true = sym p ∙ (ap (has_tree v) (eqb-true a b is) ∙ q) in cc
    apart false is = refl
by_cases v a b false false p q = rw (p, q) (or_none (a == b))
  where
    or_none : (r : Bool) → r ≡ (r || false)
    or_none true = refl
    or_none false = refl

may_is : (v : Volume) (a b : ClusterUse) → may (placed v a) (placed v b) ≡ may_share v a b
may_is v a b = ap (λ t. a.is_shared && b.is_shared && t) (by_cases v a.inode b.inode (has_tree v a.inode) (has_tree v b.inode) refl refl)

-- ---- tests of lists
all_map : {A B : Type 0} (p : B → Bool) (f : A → B) (xs : List A) → list_all p (map f xs) ≡ list_all (λ x. p (f x)) xs
all_map p f [] = refl
all_map p f (x ∷ xs) = ap (λ b. p (f x) && b) (all_map p f xs)

all_flat : {A B : Type 0} (p : B → Bool) (f : A → List B) (xs : List A) → list_all p (flat_map f xs) ≡ list_all (λ x. list_all p (f x)) xs
all_flat p f [] = refl
all_flat p f (x ∷ xs) = list_all-append p (f x) (flat_map f xs) ∙ ap (λ b. list_all p (f x) && b) (all_flat p f xs)

all_same : {A : Type 0} (p q : A → Bool) (xs : List A) → ((z : A) → Contains xs z → p z ≡ q z) → list_all p xs ≡ list_all q xs
all_same p q [] same = refl
all_same p q (x ∷ xs) same =
    ap (λ b. b && list_all p xs) (same x (contains_first x xs)) ∙ ap (λ b. q x && b) (all_same p q xs (λ z is. same z (contains_later x z xs is)))

length_map : {A B : Type 0} (f : A → B) (xs : List A) → length (map f xs) ≡ length xs
length_map f [] = refl
length_map f (x ∷ xs) = ap suc (length_map f xs)

-- ---- one use
good_at : (o : Option Together) (us : List PlacedUse) (u : PlacedUse) → Contains us u → all_together us ≡ o → option_map_or is_good o true ≡ (length us == 1 || list_all (may u) us)
good_at (Some t) us u is h = good_is us u is t h
good_at None [] u is h = absurd (omega (arith, is.1))
good_at None (x ∷ xs) u is h = absurd (never _ (sym (together_is (with_use None x) xs) ∙ h))
  where
    never : (t : Together) → Some t ≡ None → ⊥
    never t e = cc

each_within : {Q : InodeRow → Type 0} (v : Volume) (all : List ℕ) → ((r : InodeRow) → IsInodeRow v r → Contains all r.block → Q r) → (rs : List InodeRow)
    → ((b : ℕ) → Contains (map (λ r. r.block) rs) b → Contains all b) → AllByRecursion (IsInodeRow v) rs → AllByRecursion Q rs
each_within v all so [] inside is = tt
each_within v all so (r ∷ rs) inside is = (
  so r is.0 (inside r.block (contains_first r.block (map (λ (x : InodeRow). x.block) rs))),
  each_within v all so rs (λ b there. inside b (contains_later r.block b (map (λ (x : InodeRow). x.block) rs) there)) is.1,
)

module _ (v : Volume) (structures : Claims) (all : clusters_of structures ≡ v.geo.clusters) (own : AreOwners (structure_claims v) structures) where
  module _ (rows : List InodeRow) (table : IsInodeTable v rows) (uses : Uses) (are : AreUses (flat_map uses_in_row rows) uses) where
    -- what is kept of the cluster is made of all uses of it
    kept_is : (c : ℕ) → get nat_cmp uses.of c ≡ all_together (map (placed v) (uses_of v c))
    kept_is c =
        are.each c
        ∙ ap (λ ws. all_together ws)
        (ap (λ ws. filter (λ w. w.cluster == c) ws) (all_uses v rows table.each ∙ ap (λ bs. map (placed v) (flat_map (uses_by v) bs)) table.inodes)
        ∙ filter_placed v c (flat_map (uses_by v) (inodes_of v)))

    use_is : (u : ClusterUse) → u.cluster < v.geo.clusters → Contains (flat_map (uses_by v) (inodes_of v)) u → is_free_and_good structures uses u.cluster ≡ is_sole_or_shared v u
    unfolding is_sole_or_shared
    use_is u low is =
        let c = u.cluster in
        let here = kept_in (λ w. w.cluster == c) (flat_map (uses_by v) (inodes_of v)) u is (eq-eqb c c refl) in
        let placed_here = mapped_in (placed v) (uses_of v c) u here in
        ap (λ b. not b && is_good_at uses c) (claimed_is (structure_claims v) structures c own (omega (arith, all, low)))
        ∙ ap (λ b. not (is_claimed (structure_claims v) c) && b)
        (good_at (get nat_cmp uses.of c) (map (placed v) (uses_of v c)) (placed v u) placed_here (sym (kept_is c))
        ∙ (ap (λ n. n == 1 || list_all (may (placed v u)) (map (placed v) (uses_of v c))) (length_map (placed v) (uses_of v c))
        ∙ ap (λ b. length (uses_of v c) == 1 || b) (all_map (may (placed v u)) (placed v) (uses_of v c) ∙ all_same (λ w. may (placed v u) (placed v w)) (may_share v u) (uses_of v c) (λ w _. may_is v u w))))

    -- ---- one row, and all of them
    row_is : (row : InodeRow) → IsInodeRow v row → Contains (inodes_of v) row.block → are_good_in_row structures uses row ≡ list_all (is_sole_or_shared v) (uses_by v row.block)
    row_is row is inside =
        let good = λ (w : PlacedUse). is_free_and_good structures uses w.cluster in
        sym (all_flat good (uses_in_run (sharer row)) row.runs
        ∙ all_same (λ run. list_all good (uses_in_run (sharer row) run)) (are_good_in_run structures uses) row.runs (λ run _. all_map good (use_at (sharer row) run) (range_with_len 0 run.clusters)))
        ∙ (ap (list_all good) (row_uses v row is)
        ∙ (all_map good (placed v) (uses_by v row.block)
        ∙ all_same (λ u. is_free_and_good structures uses u.cluster) (is_sole_or_shared v) (uses_by v row.block)
        (λ u in_row. use_is u (each_has (IsUseInside v) (uses_by v row.block) u (uses_inside v row.block) in_row) (contains_flat (uses_by v) (inodes_of v) row.block u inside in_row))))

    pub dup_told : fails_at (λ r. r.block) (are_good_in_row structures uses) rows ≡ faults v check.DupClusters
    unfolding faults
    dup_told =
        all_rows_tell (λ r. r.block) (λ b. b) (λ b. list_all (is_sole_or_shared v) (uses_by v b)) (are_good_in_row structures uses) rows (inodes_of v) table.inodes
        (each_within v (inodes_of v) row_is rows (λ b there. subst (λ bs. Contains bs b) table.inodes there) table.each)

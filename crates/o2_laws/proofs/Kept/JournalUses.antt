-- Where nothing fails, a journal's clusters have no other use: no structure claims them, and no other inode maps them.
use Rattle.std.proofs.Common.{◌≡◌, ⊎_elim, ℕ, Bool, true, false, ◌&&◌, ◌||◌, not, ◌==◌, List, [], ◌∷◌, length, refl, sym, ◌∙◌, subst, arith}
use Rattle.std.specs.Prelude.{flat_map, slice_get}
use Rattle.std.specs.List.{list_any, list_all, Contains}
use Rattle.std.proofs.lemmas.Bool.{and_from, and_parts, or_cases, eq-eqb, eqb-true, not_from_false, false≢true, not-true, or_left}
use Rattle.o2_model.specs.declared.leaf.Leaf.{Leaf}
use Rattle.o2_model.specs.declared.check.Check.TheVariants as check
use Rattle.o2_model.specs.Words.{among}
use Rattle.o2_model.specs.Volume.{Volume}
use Rattle.o2_model.specs.Inodes.{records_of, leaf_records}
use Rattle.o2_model.specs.LeafRecords.{clusters_under, is_refcounted}
use Rattle.o2_model.specs.Groups.{is_inode, inodes_of}
use Rattle.o2_model.specs.Journals.{journals, journal_blocks}
use Rattle.o2_model.specs.Claims.{is_claimed, structure_claims, clusters_of}
use Rattle.o2_model.specs.Checks.DupClusters.{ClusterUse, uses_under, uses_by, uses_of, may_share, is_sole_or_shared, dup_clusters_faults}
use Rattle.o2_model.specs.Failing.{faults, failing}
use Rattle.o2_laws.proofs.NothingFails.{no_check_fails}
use Rattle.o2_laws.proofs.Failing.{none_fails}
use Rattle.o2_laws.proofs.Found.{found, any_map, any_flat, any_filter, passing, each_of, passes_of_all}
use Rattle.o2_laws.proofs.WellRead.{records_are}
use Rattle.o2_laws.proofs.Held.DataHeld.{among_inodes, data_mapped}
use Rattle.o2_laws.proofs.Held.HeldTells.{inode_listed}
use Rattle.o2_laws.proofs.Held.OwnInodes.{journal_is_inode}
use Rattle.o2_laws.proofs.Kept.JournalsKeep.{journal_holds}
use Rattle.std.specs.Option.{option_map_or}
use Rattle.o2_model.specs.Owned.{is_first_of_journal}
use Rattle.o2_model.specs.Clusters.{cluster_of}

-- ---- uses
-- an inode that maps the cluster has a use of it that passes what all its uses of it pass
used_by : (v : Volume) (i c : ℕ) (q : ClusterUse → Bool) → ((r : Leaf) → Contains (records_of v i) r → q (record { inode = i; cluster = c; is_shared = is_refcounted r }) ≡ true)
    → list_any (λ n. n == c) (clusters_of v i) ≡ true → list_any q (uses_by v i) ≡ true
unfolding uses_by
used_by v i c q passes h =
    let r = passing (λ r. list_any (λ n. n == c) (clusters_under v r)) (records_of v i) (sym (any_flat (λ n. n == c) (clusters_under v) (records_of v i)) ∙ h) in
    let n = passing (λ n. n == c) (clusters_under v r.item) r.passes in
    let made : ℕ → ClusterUse = λ m. record { inode = i; cluster = m; is_shared = is_refcounted r.item } in
    let here : q (made n.item) ≡ true = subst (λ m. q (made m) ≡ true) (sym (eqb-true n.item c n.passes)) (passes r.item r.inside) in
    any_flat q (uses_under v i) (records_of v i)
    ∙ found (λ r. list_any q (uses_under v i r)) (records_of v i) r.item r.inside
    (any_map q made (clusters_under v r.item) ∙ found (λ m. q (made m)) (clusters_under v r.item) n.item n.inside here)

-- so it is among the uses of that cluster
abbrev by_inode : ℕ → ClusterUse → Bool
by_inode i u = u.inode == i

inode_uses : (v : Volume) (i c : ℕ) → is_inode v i ≡ true → list_any (λ n. n == c) (clusters_of v i) ≡ true → list_any (by_inode i) (uses_of v c) ≡ true
inode_uses v i c is h =
    let q : ClusterUse → Bool = λ u. u.cluster == c && by_inode i u in
    any_filter (by_inode i) (λ u. u.cluster == c) (flat_map (uses_by v) (inodes_of v))
    ∙ (any_flat q (uses_by v) (inodes_of v)
    ∙ among_inodes v i (λ d. list_any q (uses_by v d)) is (used_by v i c q (λ r inside. and_from _ _ (eq-eqb c c refl) (eq-eqb i i refl)) h))

-- one use is by one inode
one_use : (i j : ℕ) (us : List ClusterUse) → length us ≡ 1 → list_any (by_inode i) us ≡ true → list_any (by_inode j) us ≡ true → i ≡ j
one_use i j [] one a b = absurd (omega arith)
one_use i j (u ∷ w ∷ us) one a b = absurd (omega arith)
one_use i j (u ∷ []) one a b = sym (eqb-true u.inode i (alone (u.inode == i) a)) ∙ eqb-true u.inode j (alone (u.inode == j) b)
  where
    alone : (x : Bool) → (x || false) ≡ true → x ≡ true
    alone true h = refl
    alone false h = h

-- a use that is not refcounted shares with none
shares_none : (v : Volume) (u : ClusterUse) (i : ℕ) (us : List ClusterUse) → u.is_shared ≡ false → list_any (by_inode i) us ≡ true → list_all (may_share v u) us ≡ true → ⊥
shares_none v u i us alone some all =
    let w = passing (by_inode i) us some in
    let share = passes_of_all (may_share v u) us w.item all w.inside in
    false≢true (sym alone ∙ (and_parts u.is_shared w.item.is_shared (and_parts (u.is_shared && w.item.is_shared) _ share).0).0)

-- ---- a journal's cluster
dup_holds : (v : Volume) → failing v ≡ [] → dup_clusters_faults v ≡ []
unfolding faults
dup_holds v none = no_check_fails v none check.DupClusters

-- What DUP_CLUSTERS says of a cluster that a journal maps.
pub record IsApart (v : Volume) (j c : ℕ) : Type 0 where
  pub structures : is_claimed (structure_claims v) c ≡ false
  pub inodes : (i : ℕ) → is_inode v i ≡ true → list_any (λ n. n == c) (clusters_of v i) ≡ true → i ≡ j

plain_record : (v : Volume) (j : ℕ) (r : Leaf) → failing v ≡ [] → among (journals v) j ≡ true → Contains (records_of v j) r → is_refcounted r ≡ false
plain_record v j r none journal is =
    let flags : r.flags ≡ 0
    = eqb-true r.flags 0 (passes_of_all (λ r. r.flags == 0) (leaf_records v j) r (journal_holds v j none journal).plain (subst (λ rs. Contains rs r) (records_are v j) is)) in
    rw flags refl

not_both : (a b : Bool) → (not a && b) ≡ true → (a ≡ false) × (b ≡ true)
not_both true b h = absurd (false≢true h)
not_both false b h = (refl, h)

pub is_apart : (v : Volume) (j c : ℕ) → failing v ≡ [] → among (journals v) j ≡ true → list_any (λ n. n == c) (clusters_of v j) ≡ true → IsApart v j c
unfolding is_sole_or_shared
is_apart v j c none journal maps =
    let is = journal_is_inode v j none journal in
    let q : ClusterUse → Bool = λ u. u.cluster == c && not u.is_shared in
    let u = passing q (uses_by v j) (used_by v j c q (λ r inside. and_from _ _ (eq-eqb c c refl) (not_from_false _ (plain_record v j r none journal inside))) maps) in
    let here : u.item.cluster ≡ c = eqb-true u.item.cluster c (and_parts (u.item.cluster == c) (not u.item.is_shared) u.passes).0 in
    let alone : u.item.is_shared ≡ false = not-true u.item.is_shared (and_parts (u.item.cluster == c) (not u.item.is_shared) u.passes).1 in
    let all = each_of (λ b. list_all (is_sole_or_shared v) (uses_by v b) ≡ true) (inodes_of v) j (none_fails (λ b. b) (λ b. list_all (is_sole_or_shared v) (uses_by v b)) (inodes_of v) (dup_holds v none)) (inode_listed v j is) in
    let sole = not_both (is_claimed (structure_claims v) u.item.cluster) _ (passes_of_all (is_sole_or_shared v) (uses_by v j) u.item all u.inside) in
    let mine = inode_uses v j c is maps in
    record {
      structures = subst (λ n. is_claimed (structure_claims v) n ≡ false) here sole.0;
      inodes = λ i other h. ⊎_elim
          (λ one. one_use i j (uses_of v c) (subst (λ n. length (uses_of v n) ≡ 1) here (eqb-true (length (uses_of v u.item.cluster)) 1 one)) (inode_uses v i c other h) mine)
          (λ share. absurd (shares_none v u.item j (uses_of v c) alone mine (subst (λ n. list_all (may_share v u.item) (uses_of v n) ≡ true) here share)))
          (or_cases _ _ sole.1);
    }

-- ---- its first block
first_listed : (bs : List ℕ) (b : ℕ) → option_map_or (λ c. c == b) (slice_get bs 0) false ≡ true → among bs b ≡ true
first_listed [] b h = absurd (false≢true h)
first_listed (c ∷ cs) b h = or_left _ _ (eq-eqb b c (sym (eqb-true c b h)))

pub journal_maps : (v : Volume) (j b : ℕ) → is_first_of_journal v j b ≡ true → list_any (λ n. n == cluster_of v b) (clusters_of v j) ≡ true
unfolding journal_blocks
journal_maps v j b first = data_mapped v j b (first_listed (journal_blocks v j) b first)

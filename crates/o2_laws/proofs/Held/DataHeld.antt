-- The blocks of an inode's clusters are held.
use Rattle.std.proofs.Common.{◌≡◌, inl, inr, ℕ, ◌+◌, ◌-◌, ◌*◌, ◌/◌, ◌<◌, ◌≤◌, Bool, true, false, ◌&&◌, ◌==◌, List, map, refl, sym, ◌∙◌, ap, subst, arith}
use Rattle.std.specs.Prelude.{filter, flat_map, nat_lt}
use Rattle.std.specs.List.{list_any, AllByRecursion, Contains, range_with_len}
use Rattle.std.proofs.lemmas.Bool.{cases_Bool, and_from, and_parts, eq-eqb, eqb-true, not_from_false}
use Rattle.std.proofs.lemmas.Bool.Decides.{nat_tests}
use Rattle.std.proofs.lemmas.Nat.{pow_pos}
use Rattle.std.proofs.Math.Nat.{mul-div_cancel, mul-mod_left}
use Rattle.o2_model.specs.declared.leaf.Leaf.{Leaf}
use Rattle.o2_model.specs.declared.claim.Claim.{Claim}
use Rattle.o2_model.specs.declared.claim.Owner.{Owner}
use Rattle.o2_model.specs.declared.claim.Owner.TheVariants.{Inode}
use Rattle.o2_model.specs.Words.{among}
use Rattle.o2_model.specs.Volume.{Volume, blocks, per_cluster, is_valid}
use Rattle.o2_model.specs.Clusters.{cluster_of}
use Rattle.o2_model.specs.Inodes.{leaf_records, is_inline}
use Rattle.o2_model.specs.LeafRecords.{clusters_under, blocks_under}
use Rattle.o2_model.specs.Directories.{dir_block, mapped, is_written, dir_blocks}
use Rattle.o2_model.specs.Journals.{journals}
use Rattle.o2_model.specs.Groups.{is_inode, inodes_of, has_inode_bit}
use Rattle.o2_laws.specs.Frames.{content_blocks}
use Rattle.o2_model.specs.Claims.{claims_by, clusters_of, inode_claims, claims_of}
use Rattle.o2_laws.proofs.Held.HeldBlocks.{holds_bytes, is_held}
use Rattle.o2_laws.proofs.Found.{found, any_map, any_flat, any_filter, any_range, passing, range_bounds, each_of}
use Rattle.o2_laws.proofs.Members.{among_contains, among_one}
use Rattle.o2_laws.proofs.Held.HeldBlocks.{inodes_find, by_need}
use Rattle.o2_laws.proofs.Held.GroupsHeld.{cluster_in}
use Rattle.o2_laws.proofs.WellRead.{BeginsCluster, extents_well, records_are}
use Rattle.o2_laws.proofs.Held.BitsHeld.{dinode_held}

-- ---- the claims of an inode
inode_below : (v : Volume) (b : ℕ) → is_valid v b ≡ true → b < blocks v
unfolding is_valid
inode_below v b h = grind (arith, nat_tests)

inode_in : (v : Volume) (i : ℕ) → is_inode v i ≡ true → i < blocks v
unfolding is_inode
inode_in v i h = inode_below v i (and_parts (is_valid v i) (has_inode_bit v i) h).0

-- a test that an inode passes finds one
pub among_inodes : (v : Volume) (i : ℕ) (p : ℕ → Bool) → is_inode v i ≡ true → p i ≡ true → list_any p (inodes_of v) ≡ true
unfolding inodes_of
among_inodes v i p is h =
    any_filter p (is_inode v) (range_with_len 0 (blocks v)) ∙ any_range (λ b. is_inode v b && p b) 0 (blocks v) i (omega arith) (omega (arith, inode_in v i is)) (and_from _ _ is h)

-- a block of a cluster that an inode maps, by what an owner needs
pub mapped_claimed : (needs : Owner → Bool) (v : Volume) (i b : ℕ) → is_inode v i ≡ true → needs (Inode i) ≡ true → list_any (λ c. c == cluster_of v b) (clusters_of v i) ≡ true
    → list_any (λ k. k.cluster == cluster_of v b && needs k.owner) (claims_of v) ≡ true
unfolding inode_claims
mapped_claimed needs v i b is need h =
    let p : Claim → Bool = λ k. k.cluster == cluster_of v b && needs k.owner in
    inodes_find v p (any_flat p (λ d. claims_by (Inode d) (clusters_of v d)) (inodes_of v)
    ∙ among_inodes v i (λ d. list_any p (claims_by (Inode d) (clusters_of v d))) is (by_need needs v b (Inode i) (clusters_of v i) need h))

-- it is held, where the inode is no journal
mapped_held : (v : Volume) (i b : ℕ) → is_inode v i ≡ true → among (journals v) i ≡ false → list_any (λ c. c == cluster_of v b) (clusters_of v i) ≡ true → is_held v b ≡ true
unfolding is_held
mapped_held v i b is apart h = mapped_claimed (holds_bytes v) v i b is (not_from_false _ apart) h

-- ---- records
-- the cluster of a block under a record is under it
under_cluster : (v : Volume) (r : Leaf) (b : ℕ) → BeginsCluster v r → Contains (blocks_under v r) b → list_any (λ c. c == cluster_of v b) (clusters_under v r) ≡ true
under_cluster v r b begins is =
    let n = r.clusters in
    let per = per_cluster v in
    let some : 0 < per = pow_pos (v.geo.cluster_bits - v.geo.block_bits) in
    let within = range_bounds r.block (n * per) b is in
    let k = b - r.block in
    let place : r.block + k ≡ b = omega (arith, within.0) in
    let inside = cluster_in per r.block (n * per) k some begins (mul-mod_left n per) (omega (arith, within.0, within.1)) in
    let low : cluster_of v r.block ≤ cluster_of v b = subst (λ x. r.block / per ≤ x / per) place inside.0 in
    let high : cluster_of v b < cluster_of v r.block + n = subst (λ x. x / per < r.block / per + n) place (subst (λ m. (r.block + k) / per < r.block / per + m) (mul-div_cancel n some) inside.1) in
    any_range (λ c. c == cluster_of v b) (cluster_of v r.block) n (cluster_of v b) low high (eq-eqb (cluster_of v b) (cluster_of v b) refl)

-- the blocks of an inode's clusters
abbrev pub data_blocks : Volume → ℕ → List ℕ
data_blocks v i = flat_map (blocks_under v) (leaf_records v i)

-- the cluster of a block under some records is under them
pub under_records : (v : Volume) (b : ℕ) (rs : List Leaf) → AllByRecursion (BeginsCluster v) rs → among (flat_map (blocks_under v) rs) b ≡ true → list_any (λ c. c == cluster_of v b) (flat_map (clusters_under v) rs) ≡ true
under_records v b rs all h =
    let r = passing (λ r. among (blocks_under v r) b) rs (sym (any_flat (λ m. b == m) (blocks_under v) rs) ∙ h) in
    any_flat (λ c. c == cluster_of v b) (clusters_under v) rs
    ∙ found (λ r. list_any (λ c. c == cluster_of v b) (clusters_under v r)) rs r.item r.inside
    (under_cluster v r.item b (each_of (BeginsCluster v) rs r.item all r.inside) (among_contains (blocks_under v r.item) b r.passes))

pub data_mapped : (v : Volume) (i b : ℕ) → among (data_blocks v i) b ≡ true → list_any (λ c. c == cluster_of v b) (clusters_of v i) ≡ true
data_mapped v i b h = ap (λ rs. list_any (λ c. c == cluster_of v b) (flat_map (clusters_under v) rs)) (records_are v i) ∙ under_records v b (leaf_records v i) (extents_well v i).leaves h

pub data_held : (v : Volume) (i b : ℕ) → is_inode v i ≡ true → among (journals v) i ≡ false → among (data_blocks v i) b ≡ true → is_held v b ≡ true
data_held v i b is apart h = mapped_held v i b is apart (data_mapped v i b h)

-- ---- some of these blocks
written_among : (v : Volume) (b : ℕ) (rs : List Leaf) → among (flat_map (blocks_under v) (filter is_written rs)) b ≡ true → among (flat_map (blocks_under v) rs) b ≡ true
written_among v b rs h =
    let r = passing (λ r. is_written r && among (blocks_under v r) b) rs
    (sym (any_filter (λ r. among (blocks_under v r) b) is_written rs) ∙ (sym (any_flat (λ m. b == m) (blocks_under v) (filter is_written rs)) ∙ h)) in
    any_flat (λ m. b == m) (blocks_under v) rs ∙ found (λ r. among (blocks_under v r) b) rs r.item r.inside (and_parts (is_written r.item) (among (blocks_under v r.item) b) r.passes).1

pub content_held : (v : Volume) (i b : ℕ) → is_inode v i ≡ true → among (journals v) i ≡ false → among (content_blocks v i) b ≡ true → is_held v b ≡ true
content_held v i b is apart h = data_held v i b is apart (written_among v b (leaf_records v i) h)

mapped_among : (v : Volume) (limit b : ℕ) (r : Leaf) → list_any (λ x. b == x.block) (mapped v limit r) ≡ true → among (blocks_under v r) b ≡ true
mapped_among v limit b r h =
    let first = r.cpos * per_cluster v in
    let n = r.clusters * per_cluster v in
    let below = λ (k : ℕ). nat_lt (first + k) limit in
    let k = passing (λ k. below k && b == r.block + k) (range_with_len 0 n)
    (sym (any_filter (λ k. b == r.block + k) below (range_with_len 0 n)) ∙ (sym (any_map (λ x. b == x.block) (dir_block v first r.block) (filter below (range_with_len 0 n))) ∙ h)) in
    let at : b ≡ r.block + k.item = eqb-true b (r.block + k.item) (and_parts (below k.item) (b == r.block + k.item) k.passes).1 in
    let within = range_bounds 0 n k.item k.inside in
    any_range (λ m. b == m) r.block n b (omega (arith, at)) (omega (arith, at, within.1)) (eq-eqb b b refl)

runs_among : (v : Volume) (limit b : ℕ) (rs : List Leaf) → among (map (λ x. x.block) (flat_map (mapped v limit) rs)) b ≡ true → among (flat_map (blocks_under v) rs) b ≡ true
runs_among v limit b rs h =
    let r = passing (λ r. list_any (λ x. b == x.block) (mapped v limit r)) rs
    (sym (any_flat (λ x. b == x.block) (mapped v limit) rs) ∙ (sym (any_map (λ m. b == m) (λ x. x.block) (flat_map (mapped v limit) rs)) ∙ h)) in
    any_flat (λ m. b == m) (blocks_under v) rs ∙ found (λ r. among (blocks_under v r) b) rs r.item r.inside (mapped_among v limit b r.item r.passes)

pub directory_held : (v : Volume) (d b : ℕ) → is_inode v d ≡ true → among (journals v) d ≡ false → among (map (λ x. x.block) (dir_blocks v d)) b ≡ true → is_held v b ≡ true
unfolding dir_blocks
directory_held v d b is apart h = elim (cases_Bool (is_inline v d)) [
  | inl inline ↦
      subst (λ x. is_held v x ≡ true) (omega (arith, eqb-true b d (among_one b d (rw inline at h)))) (dinode_held v d is)
  | inr outside ↦ content_held v d b is apart (runs_among v _ b (filter is_written (leaf_records v d)) (rw outside at h))
]

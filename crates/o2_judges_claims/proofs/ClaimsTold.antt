-- Rows tell the claims of structures and inodes.
use Rattle.std.proofs.Common.{◌≡◌, inl, inr, ℕ, ◌+◌, ◌-◌, ◌*◌, ◌≤◌, not, nat_lt, List, [], ◌∷◌, ◌++◌, map, filter, refl, sym, ◌∙◌, ap, arith}
use Rattle.std.specs.Prelude.{flat_map}
use Rattle.std.specs.List.{AllByRecursion, range_with_len}
use Rattle.std.proofs.lemmas.Bool.{cases_Bool}
use Rattle.std.proofs.lemmas.List.{map-append}
use Rattle.std.proofs.lemmas.List.Elements.{filter-append}
use Rattle.o2_model.specs.declared.claim.Claim.{Claim}
use Rattle.o2_model.specs.declared.claim.Owner.{Owner}
use Rattle.o2_model.specs.declared.claim.Owner.TheVariants.{Backup, Suballocator, Inode}
use Rattle.o2_model.specs.declared.allocator.Group.{Group}
use Rattle.o2_model.specs.declared.geo.Geo.{Geo}
use Rattle.o2_model.specs.declared.leaf.Leaf.{Leaf}
use Rattle.o2_model.specs.Volume.{Volume}
use Rattle.o2_model.specs.ClusterGroups.{backup_clusters}
use Rattle.o2_model.specs.Claims.{claims_by, clusters_of, structure_claims, inode_claims}
use Rattle.o2_model.specs.Groups.{group_clusters, is_of_clusters}
use Rattle.o2_model.specs.Inodes.{records_of}
use Rattle.o2_model.specs.LeafRecords.{clusters_under}
use Rattle.o2_tables.specs.declared.groups.GroupRow.{GroupRow}
use Rattle.o2_tables.specs.declared.inodes.InodeRow.{InodeRow}
use Rattle.o2_tables.specs.Rows.{run_of, IsInodeRow, IsGroupTable, IsInodeTable}
use Rattle.o2_view.specs.Geos.{bare}
use Rattle.o2_judges_alloc.proofs.Ranges.{from_one}
use Rattle.o2_model.specs.Orders.{from_to}
use Rattle.o2_judges_claims.proofs.Lists.{next_in_range}
use Rattle.o2_judges_claims.specs.ClaimRows.{super_claims, descriptor_claims, group_claims, runs_claims, row_claims}

-- ---- structures
-- what the groups of blocks claim
abbrev claims_by_group : Volume → Group → List Claim
claims_by_group v g = claims_by (Suballocator g.of.block) (group_clusters v g.block g.bits)

groups_tell : (v : Volume) (rows : List GroupRow) → flat_map (group_claims v.geo) rows ≡ flat_map (claims_by_group v) (filter (λ g. not (is_of_clusters g)) (map (λ r. r.group) rows))
groups_tell v [] = refl
groups_tell v (r ∷ rs) = elim (cases_Bool (is_of_clusters r.group)) [
  | inl bitmap ↦ rw bitmap (groups_tell v rs)
  | inr blocks ↦ rw blocks (ap (λ ks. claims_by_group v r.group ++ ks) (groups_tell v rs))
]

-- what is claimed by these numbers and rows
abbrev pub told_claims : Geo → List GroupRow → List Claim
told_claims geo rows = super_claims geo ++ descriptor_claims geo ++ claims_by Backup (backup_clusters (bare geo)) ++ flat_map (group_claims geo) rows

pub structures_told : (v : Volume) (geo : Geo) (rows : List GroupRow) → v.geo ≡ geo → IsGroupTable v rows → told_claims geo rows ≡ structure_claims v
unfolding structure_claims
structures_told v geo rows same table =
    ap (λ g. told_claims g rows) (sym same)
    ∙ ap (λ ks. super_claims v.geo ++ descriptor_claims v.geo ++ claims_by Backup (backup_clusters (bare v.geo)) ++ ks)
    (groups_tell v rows ∙ ap (λ gs. flat_map (claims_by_group v) (filter (λ g. not (is_of_clusters g)) gs)) table.groups)

-- ---- inodes
-- the claims of runs, and of the clusters under their records
pub runs_tell : (v : Volume) (owner : Owner) (leaves : List Leaf)
    → runs_claims owner (map (run_of v) leaves) ≡ claims_by owner (flat_map (clusters_under v) leaves)
runs_tell v owner [] = refl
runs_tell v owner (leaf ∷ leaves) =
    ap (λ ks. claims_by owner (clusters_under v leaf) ++ ks) (runs_tell v owner leaves)
    ∙ sym (map-append (λ (c : ℕ). record { owner = owner; cluster = c }) (clusters_under v leaf) (flat_map (clusters_under v) leaves))

row_tells : (v : Volume) (row : InodeRow) → IsInodeRow v row → row_claims row ≡ claims_by (Inode row.block) (clusters_of v row.block)
row_tells v row is = ap (runs_claims (Inode row.block)) is.runs ∙ runs_tell v (Inode row.block) (records_of v row.block)

rows_tell_claims : (v : Volume) (rows : List InodeRow) → AllByRecursion (IsInodeRow v) rows
    → flat_map row_claims rows ≡ flat_map (λ b. claims_by (Inode b) (clusters_of v b)) (map (λ r. r.block) rows)
rows_tell_claims v [] all = refl
rows_tell_claims v (r ∷ rs) all =
    ap (λ ks. ks ++ flat_map row_claims rs) (row_tells v r all.0)
    ∙ ap (λ ks. claims_by (Inode r.block) (clusters_of v r.block) ++ ks) (rows_tell_claims v rs all.1)

pub inodes_told : (v : Volume) (rows : List InodeRow) → IsInodeTable v rows → flat_map row_claims rows ≡ inode_claims v
unfolding inode_claims
inodes_told v rows table = rows_tell_claims v rows table.each ∙ ap (flat_map (λ b. claims_by (Inode b) (clusters_of v b))) table.inodes

-- ---- numbers that are kept, one more
pub next_kept : (owner : Owner) (n : ℕ) (place : ℕ → ℕ) (k : ℕ)
    → claims_by owner (filter (λ c. nat_lt c n) (map place (range_with_len 0 k))) ++ claims_by owner (filter (λ c. nat_lt c n) (place k ∷ []))
    ≡ claims_by owner (filter (λ c. nat_lt c n) (map place (range_with_len 0 (k + 1))))
next_kept owner n place k =
    let low = λ (c : ℕ). nat_lt c n in
    let here : 0 + k ≡ k = omega arith in
    sym (map-append (λ (c : ℕ). record { owner = owner; cluster = c }) (filter low (map place (range_with_len 0 k))) (filter low (place k ∷ [])))
    ∙ ap (claims_by owner)
    (sym (filter-append low (map place (range_with_len 0 k)) (place k ∷ []))
    ∙ ap (filter low) (ap (λ j. map place (range_with_len 0 k) ++ place j ∷ []) (sym here) ∙ next_in_range place 0 k))

-- ---- later descriptors
pub next_descriptor : (owner : Owner) (size i : ℕ) → 1 ≤ i
    → claims_by owner (map (λ j. j * size) (range_with_len 1 (i - 1))) ++ record { owner = owner; cluster = i * size } ∷ []
    ≡ claims_by owner (map (λ j. j * size) (range_with_len 1 (i + 1 - 1)))
next_descriptor owner size i some =
    let here : 1 + (i - 1) ≡ i = omega (arith, some) in
    let next : i - 1 + 1 ≡ i + 1 - 1 = omega (arith, some) in
    ap (λ j. claims_by owner (map (λ j. j * size) (range_with_len 1 (i - 1))) ++ record { owner = owner; cluster = j * size } ∷ []) (sym here)
    ∙ (sym (map-append (λ (c : ℕ). record { owner = owner; cluster = c }) (map (λ j. j * size) (range_with_len 1 (i - 1))) ((1 + (i - 1)) * size ∷ []))
    ∙ ap (claims_by owner) (next_in_range (λ j. j * size) 1 (i - 1) ∙ ap (λ n. map (λ j. j * size) (range_with_len 1 n)) next))

-- all of them
pub all_descriptors : (owner : Owner) (size count i : ℕ) → count ≤ i → i ≤ 1 + (count - 1)
    → claims_by owner (map (λ j. j * size) (range_with_len 1 (i - 1))) ≡ claims_by owner (map (λ j. j * size) (from_to 1 count))
all_descriptors owner size count i last within =
    let same : i - 1 ≡ count - 1 = omega (arith, last, within) in
    ap (λ ns. claims_by owner (map (λ j. j * size) ns)) (ap (range_with_len 1) same ∙ sym (from_one count))

-- Rows tell of the groups of the global bitmap which bits stand for claimed clusters.
use Rattle.std.proofs.Common.{◌≡◌, ℕ, ◌+◌, ◌^◌, ◌<◌, true, ◌&&◌, not, List, map, filter, ◌∙◌, ap, arith}
use Rattle.std.specs.Bool.{beq}
use Rattle.std.proofs.Math.Nat.{mod-eq_of_lt}
use Rattle.o2_model.specs.declared.check.Check.TheVariants as check
use Rattle.o2_model.specs.Volume.{Volume}
use Rattle.o2_model.specs.Groups.{groups, is_bit_set, is_of_clusters}
use Rattle.o2_model.specs.Claims.{claims_of, is_claimed}
use Rattle.o2_model.specs.Failing.{faults}
use Rattle.o2_model.specs.Checks.ClusterAllocBit.{has_bits_of_claims as model_bits_of_claims, cluster_of_bit}
use Rattle.o2_tables.specs.declared.groups.GroupRow.{GroupRow}
use Rattle.o2_tables.specs.Rows.{IsGroupTable}
use Rattle.o2_claims.specs.Owners.{clusters_of, has_owner, AreOwners}
use Rattle.o2_claims.specs.declared.claims.Claims.{Claims}
use Rattle.o2_claims.proofs.FirstOwners.{claimed_is}
use Rattle.o2_judges_alloc.specs.ClusterRows.{cluster_at, is_set_for_owner, has_bits_of_claims}
use Rattle.o2_judges_alloc.proofs.GoodGroups.{cluster_within}
use Rattle.o2_judges_alloc.proofs.GroupsTold.{IsGoodRow, good_rows}
use Rattle.o2_judges_alloc.proofs.Ranges.{same_test}
use Rattle.o2_judges_alloc.proofs.RowsTold.{rows_tell, each_is}

module _ (v : Volume) (claims : Claims) (few : v.geo.clusters < 2 ^ 32) (all : clusters_of claims ≡ v.geo.clusters) (are : AreOwners (claims_of v) claims) where
  -- the cluster is the volume's, and it has an owner where it is claimed
  is_owned : (r : GroupRow) (k : ℕ) → IsGoodRow v r → is_of_clusters r.group ≡ true → k < r.group.bits
      → has_owner claims (cluster_at r k) ≡ is_claimed (claims_of v) (cluster_of_bit v r.group k)
  is_owned r k is bitmap low =
      let inside = cluster_within v r.group k is.good bitmap low in
      let place = is.row.first bitmap in
      let fits : r.first + k < 2 ^ 32 = omega (arith, place, inside, few) in
      let number : cluster_at r k ≡ cluster_of_bit v r.group k = mod-eq_of_lt fits ∙ ap (λ n. n + k) place in
      ap (has_owner claims) number ∙ claimed_is (claims_of v) claims (cluster_of_bit v r.group k) are (omega (arith, all, inside))

  row_claimed_bits : (r : GroupRow) → IsGoodRow v r → is_of_clusters r.group ≡ true → has_bits_of_claims claims r ≡ model_bits_of_claims v r.group
  unfolding model_bits_of_claims
  row_claimed_bits r is bitmap =
      same_test (is_set_for_owner claims r) (λ k. beq (is_bit_set v r.group.block k) (is_claimed (claims_of v) (cluster_of_bit v r.group k))) 0 r.group.bits
      (λ k low. ap (λ b. beq b (has_owner claims (cluster_at r k))) (is.row.bits k (omega (arith, low)))
      ∙ ap (beq (is_bit_set v r.group.block k)) (is_owned r k is bitmap (omega (arith, low))))

  pub claimed_bits_told : (rows : List GroupRow) → IsGroupTable v rows
      → map (λ r. r.group.block) (filter (λ r. is_of_clusters r.group && not (has_bits_of_claims claims r)) rows) ≡ faults v check.ClusterAllocBit
  unfolding faults
  claimed_bits_told rows table =
      rows_tell (λ r. r.group) (λ g. g.block) is_of_clusters (model_bits_of_claims v) (has_bits_of_claims claims) rows (groups v) table.groups
      (each_is (λ r is asked. row_claimed_bits r is asked) rows (good_rows v rows table))

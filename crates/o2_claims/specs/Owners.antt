-- Who owns each cluster.
use Rattle.std.specs.Prelude.{◌≡◌, ℕ, ◌<◌, Bool, ◌&&◌, not, nat_lt, List, Option, is_some}
use Rattle.std.specs.BTreeMap.{get}
use Rattle.std.specs.Ordering.{nat_cmp}
use Rattle.o2_model.specs.declared.claim.Claim.{Claim}
use Rattle.o2_model.specs.declared.claim.Owner.{Owner}
use Rattle.o2_model.specs.Claims.{owner_in}
use Rattle.o2_claims.specs.declared.claims.Claims.{Claims}

-- how many clusters the volume has
unfoldable pub clusters_of : Claims → ℕ
clusters_of claims = claims.clusters

-- the owner of the cluster, if it was claimed
unfoldable pub owner_of : Claims → ℕ → Option Owner
owner_of claims c = get nat_cmp claims.first c

abbrev pub has_owner : Claims → ℕ → Bool
has_owner claims c = is_some (owner_of claims c)

-- the volume has the cluster, and it has no owner
abbrev pub is_free : Claims → ℕ → Bool
is_free claims c = nat_lt c (clusters_of claims) && not (has_owner claims c)

-- These claims were made: each of the volume's clusters has its first owner.
pub record AreOwners (claims : List Claim) (kept : Claims) : Type 0 where
  pub each : (c : ℕ) → c < clusters_of kept → owner_of kept c ≡ owner_in claims c

-- All owners of one cluster.
use Rattle.std.specs.Prelude.{◌≡◌, ℕ, ◌==◌, List, ◌++◌, map, filter}
use Rattle.o2_model.specs.declared.claim.Claim.{Claim}
use Rattle.o2_model.specs.declared.claim.Owner.{Owner}

-- the owners of the cluster by these claims, in their order, one for each claim
abbrev pub owners_in : List Claim → ℕ → List Owner
owners_in claims c = map (λ k. k.owner) (filter (λ k. k.cluster == c) claims)

-- the owners of the cluster by these claims came behind others
abbrev pub AddsOwners : List Claim → ℕ → List Owner → List Owner → Type 0
AddsOwners claims c old new = new ≡ old ++ owners_in claims c

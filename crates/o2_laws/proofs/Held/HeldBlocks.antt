-- Which blocks are held: those that some claim's owner needs, other than a journal. They are owned.
use Rattle.std.proofs.Common.{◌≡◌, ℕ, Bool, true, false, ◌&&◌, not, ◌==◌, List, ◌++◌, ◌∙◌}
use Rattle.std.specs.List.{list_any}
use Rattle.std.proofs.lemmas.Bool.{and_from, and_parts, or_left, or_right, eqb-true}
use Rattle.std.proofs.lemmas.List.Folds.{list_any-append}
use Rattle.o2_model.specs.declared.claim.Claim.{Claim}
use Rattle.o2_model.specs.declared.claim.Owner.{Owner}
use Rattle.o2_model.specs.declared.claim.Owner.TheVariants.{Super, GlobalGroup, Backup, Suballocator, Inode, Index, LocalAlloc, TruncateLog}
use Rattle.o2_model.specs.Words.{among}
use Rattle.o2_model.specs.Volume.{Volume}
use Rattle.o2_model.specs.Clusters.{cluster_of}
use Rattle.o2_model.specs.Journals.{journals}
use Rattle.o2_model.specs.Claims.{claims_by, structure_claims, inode_claims, claims_of}
use Rattle.o2_model.specs.Owned.{needs_bytes, is_owned}
use Rattle.o2_laws.specs.Agrees.{AgreesOnOwned}
use Rattle.o2_laws.proofs.Found.{found, any_map, passing}
use Rattle.o2_laws.proofs.Held.LastingClaims.{claims_last, claimed_owned}

-- ---- which they are
-- the owner of a cluster needs all blocks of it: it is no journal, no window and no truncate record
abbrev pub holds_bytes : Volume → Owner → Bool
holds_bytes v (LocalAlloc slot) = false
holds_bytes v (TruncateLog slot) = false
holds_bytes v (Inode inode) = not (among (journals v) inode)
holds_bytes v _ = true

-- the claim is of the block's cluster, and its owner needs all of that
abbrev pub holds : Volume → ℕ → Claim → Bool
holds v b k = k.cluster == cluster_of v b && holds_bytes v k.owner

unfoldable pub is_held : Volume → ℕ → Bool
is_held v b = list_any (holds v b) (claims_of v)

-- the held blocks of the volume have the same bytes
pub record AgreesOnHeld (v : Volume) (at : ℕ → List ℕ) : Type 0 where
  pub same : (b : ℕ) → is_held v b ≡ true → at b ≡ v.at b

-- ---- they are owned
needs_of : (v : Volume) (owner : Owner) (b : ℕ) → holds_bytes v owner ≡ true → needs_bytes v owner b ≡ true
needs_of v Super b h = h
needs_of v GlobalGroup b h = h
needs_of v Backup b h = h
needs_of v (Suballocator a) b h = h
needs_of v (Index d) b h = h
needs_of v (LocalAlloc slot) b h = h
needs_of v (TruncateLog slot) b h = h
needs_of v (Inode i) b h = or_left _ _ h

pub held_owned : (v : Volume) (b : ℕ) → is_held v b ≡ true → is_owned v b ≡ true
unfolding is_held
held_owned v b h =
    let k = passing (holds v b) (claims_of v) h in
    let parts = and_parts (k.item.cluster == cluster_of v b) (holds_bytes v k.item.owner) k.passes in
    claimed_owned v k.item b k.inside (eqb-true k.item.cluster (cluster_of v b) parts.0) (needs_of v k.item.owner b parts.1)

pub on_held : (v : Volume) (at : ℕ → List ℕ) → AgreesOnOwned v at → AgreesOnHeld v at
on_held v at agrees = record { same = λ b h. agrees.same b (held_owned v b h) }

-- ---- by claims
-- a test that finds a claim of a structure or an inode finds it among all claims
claims_find : (v : Volume) (p : Claim → Bool) → list_any p (structure_claims v ++ inode_claims v) ≡ true → list_any p (claims_of v) ≡ true
claims_find v p h = claims_last (λ ks. list_any p ks ≡ true) (λ ks more k. list_any-append p ks more ∙ or_left _ _ k) v h

pub structure_held : (v : Volume) (b : ℕ) → list_any (holds v b) (structure_claims v) ≡ true → is_held v b ≡ true
unfolding is_held
structure_held v b h = claims_find v (holds v b) (list_any-append (holds v b) (structure_claims v) (inode_claims v) ∙ or_left _ _ h)

-- so does one that finds a claim of an inode
pub inodes_find : (v : Volume) (p : Claim → Bool) → list_any p (inode_claims v) ≡ true → list_any p (claims_of v) ≡ true
inodes_find v p h = claims_find v p (list_any-append p (structure_claims v) (inode_claims v) ∙ or_right _ _ h)

-- a cluster of the list that the owner claims, by what an owner needs
pub by_need : (needs : Owner → Bool) (v : Volume) (b : ℕ) (owner : Owner) (cs : List ℕ) → needs owner ≡ true → list_any (λ c. c == cluster_of v b) cs ≡ true
    → list_any (λ k. k.cluster == cluster_of v b && needs k.owner) (claims_by owner cs) ≡ true
by_need needs v b owner cs need h =
    let c = passing (λ c. c == cluster_of v b) cs h in
    any_map (λ k. k.cluster == cluster_of v b && needs k.owner) _ cs ∙ found (λ c. c == cluster_of v b && needs owner) cs c.item c.inside (and_from _ _ c.passes need)

-- and one whose owner needs all of it
pub by_claim : (v : Volume) (b : ℕ) (owner : Owner) (cs : List ℕ) → holds_bytes v owner ≡ true → list_any (λ c. c == cluster_of v b) cs ≡ true → list_any (holds v b) (claims_by owner cs) ≡ true
by_claim v b owner cs needs h = by_need (holds_bytes v) v b owner cs needs h

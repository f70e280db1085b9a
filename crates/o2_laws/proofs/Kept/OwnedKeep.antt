-- Where nothing fails, blocks that agree on the held ones have the same owned blocks.
use Rattle.std.proofs.Common.{◌≡◌, inl, inr, ℕ, ◌&&◌, ◌==◌, List, [], refl, ◌∙◌, ap}
use Rattle.std.specs.List.{list_any, range_with_len}
use Rattle.std.proofs.lemmas.Bool.{cases_Bool}
use Rattle.std.proofs.lemmas.List.Elements.{filter_agree}
use Rattle.o2_model.specs.declared.claim.Owner.{Owner}
use Rattle.o2_model.specs.declared.claim.Owner.TheVariants.{Super, GlobalGroup, Backup, Suballocator, Inode, Index, LocalAlloc, TruncateLog}
use Rattle.o2_model.specs.Words.{among}
use Rattle.o2_model.specs.Volume.{Volume, over, blocks}
use Rattle.o2_model.specs.Clusters.{cluster_of}
use Rattle.o2_model.specs.Journals.{journals}
use Rattle.o2_model.specs.Claims.{claims_of}
use Rattle.o2_model.specs.Failing.{failing}
use Rattle.o2_model.specs.Owned.{needs_bytes, is_owned, owned_blocks}
use Rattle.o2_laws.proofs.Held.HeldBlocks.{AgreesOnHeld}
use Rattle.o2_laws.proofs.Agreeing.{any_agree}
use Rattle.o2_laws.proofs.Held.OwnInodes.{journal_is_inode}
use Rattle.o2_laws.proofs.Held.LastingClaims.{owns}
use Rattle.o2_laws.proofs.Kept.ClaimsKeep.{held_tell_claims}
use Rattle.o2_laws.proofs.Kept.JournalsKeep.{held_tell_journals, held_tell_journal_blocks}

-- ---- what an owner needs
needs_same : (v : Volume) (at : ℕ → List ℕ) (b : ℕ) → failing v ≡ [] → AgreesOnHeld v at → (owner : Owner) → needs_bytes (over v at) owner b ≡ needs_bytes v owner b
needs_same v at b none agrees Super = refl
needs_same v at b none agrees GlobalGroup = refl
needs_same v at b none agrees Backup = refl
needs_same v at b none agrees (Suballocator a) = refl
needs_same v at b none agrees (Index d) = refl
needs_same v at b none agrees (LocalAlloc slot) = refl
needs_same v at b none agrees (TruncateLog slot) = refl
needs_same v at b none agrees (Inode i) = elim (cases_Bool (among (journals v) i)) [
  | inr apart ↦ rw (held_tell_journals v at none agrees, apart) refl
  | inl journal ↦ rw (held_tell_journals v at none agrees, held_tell_journal_blocks v at i none agrees (journal_is_inode v i none journal)) refl
]

-- ---- the owned blocks
pub held_tell_owned : (v : Volume) (at : ℕ → List ℕ) (b : ℕ) → failing v ≡ [] → AgreesOnHeld v at → is_owned (over v at) b ≡ is_owned v b
unfolding is_owned
held_tell_owned v at b none agrees =
    ap (list_any (owns (over v at) b)) (held_tell_claims v at none agrees)
    ∙ any_agree (owns (over v at) b) (owns v b) (claims_of v) (λ k is. ap (λ x. k.cluster == cluster_of v b && x) (needs_same v at b none agrees k.owner))

pub held_tell_owned_blocks : (v : Volume) (at : ℕ → List ℕ) → failing v ≡ [] → AgreesOnHeld v at → owned_blocks (over v at) ≡ owned_blocks v
unfolding owned_blocks
held_tell_owned_blocks v at none agrees =
    filter_agree (is_owned (over v at)) (is_owned v) (λ b. held_tell_owned v at b none agrees) (range_with_len 0 (blocks v))

-- Where nothing fails, blocks that agree on the held ones have the same answer of DX.
use Rattle.std.proofs.Common.{◌≡◌, ℕ, List, [], ◌∙◌, ap}
use Rattle.std.specs.Prelude.{filter}
use Rattle.std.specs.List.{Contains}
use Rattle.o2_model.specs.declared.check.Check.TheVariants as check
use Rattle.o2_model.specs.Faults.{fails_at}
use Rattle.o2_model.specs.Volume.{Volume, over}
use Rattle.o2_model.specs.Indexes.{indexed_directories}
use Rattle.o2_model.specs.SoundIndexes.{is_sound_index}
use Rattle.o2_model.specs.Claims.{claims_before_index, claimed_clusters}
use Rattle.o2_model.specs.Checks.Dx.{holds_index, directories_with_sound_index}
use Rattle.o2_model.specs.Failing.{faults, failing}
use Rattle.o2_laws.proofs.Held.HeldBlocks.{AgreesOnHeld}
use Rattle.o2_laws.proofs.Agreeing.{filter_agree_on, fails_agree}
use Rattle.o2_laws.proofs.Kept.IndexesKeep.{held_tell_indexed}
use Rattle.o2_laws.proofs.Kept.SoundIndexesKeep.{held_tell_sound_index}
use Rattle.o2_laws.proofs.Kept.ClaimsKeep.{held_tell_claims_before_index}

holds_same : (v : Volume) (at : ℕ → List ℕ) (d : ℕ) → failing v ≡ [] → AgreesOnHeld v at → Contains (indexed_directories v) d → holds_index (over v at) d ≡ holds_index v d
unfolding holds_index
holds_same v at d none agrees is =
    ap (λ ks. is_sound_index (over v at) (claimed_clusters ks) d) (held_tell_claims_before_index v at d none agrees)
    ∙ held_tell_sound_index v at (claimed_clusters (claims_before_index v d)) d none agrees is

pub held_tell_sound_indexes : (v : Volume) (at : ℕ → List ℕ) → failing v ≡ [] → AgreesOnHeld v at → directories_with_sound_index (over v at) ≡ directories_with_sound_index v
held_tell_sound_indexes v at none agrees =
    ap (filter (holds_index (over v at))) (held_tell_indexed v at none agrees)
    ∙ filter_agree_on (holds_index (over v at)) (holds_index v) (indexed_directories v) (λ d is. holds_same v at d none agrees is)

pub keeps_dx : (v : Volume) (at : ℕ → List ℕ) → failing v ≡ [] → AgreesOnHeld v at → faults (over v at) check.Dx ≡ faults v check.Dx
unfolding faults
keeps_dx v at none agrees =
    ap (fails_at (λ d. d) (holds_index (over v at))) (held_tell_indexed v at none agrees)
    ∙ fails_agree (λ d. d) (holds_index (over v at)) (holds_index v) (indexed_directories v) (λ d is. holds_same v at d none agrees is)

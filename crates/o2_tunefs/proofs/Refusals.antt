-- Which refusal stands first.
use Rattle.std.proofs.Common.{◌≡◌, inl, inr, ⊎_elim, ℕ, List, Bool, Option, Some, None, sym, ◌∙◌, ap}
use Rattle.std.specs.Prelude.{if◌then◌else◌}
use Rattle.std.specs.Option.{option_map_or, option_or}
use Rattle.o2_ondisk.specs.declared.superblock.Super.{Super}
use Rattle.o2_model.specs.Image.{Image}
use Rattle.o2_model.specs.Superblock.{superblock, superblock_bits, cluster_count}
use Rattle.o2_cause.specs.declared.cause.Cause.{Cause}
use Rattle.o2_cause.specs.declared.cause.Cause.TheVariants.{Later, NotOcfs2}
use Rattle.o2_view.specs.SuperSector.{IsSuperSector}
use Rattle.o2_view.specs.declared.superblock.SuperSector.{SuperSector}
use Rattle.o2_tunefs.specs.Answer.{is_for_later, volume_refusal, label_refusal, refusal_of, IsCauseFor}

abbrev not_found : Option Cause
not_found = Some NotOcfs2

abbrev under : Image → ℕ → Option Cause
under I bits = if is_for_later (superblock I bits) (cluster_count I bits) then Some Later else None

pub refusal_none : (I : Image) → superblock_bits I ≡ None → volume_refusal I ≡ Some NotOcfs2
refusal_none I none = ap (λ (o : Option ℕ). option_map_or (under I) o not_found) none

pub refusal_found : (I : Image) (bits : ℕ) (later : Bool) → superblock_bits I ≡ Some bits → later ≡ is_for_later (superblock I bits) (cluster_count I bits) → volume_refusal I ≡ (if later then Some Later else None)
refusal_found I bits later found is = ap (λ (o : Option ℕ). option_map_or (under I) o not_found) found ∙ sym (ap (λ (b : Bool). if b then Some Later else None) is)

-- the volume's own refusal stands before the label's
pub volume_first : (label : List ℕ) (I : Image) (cause : Cause) → IsCauseFor (volume_refusal I) cause → IsCauseFor (refusal_of label I) cause
volume_first label I cause for = ⊎_elim (λ first. inl (ap (λ (o : Option Cause). option_or o (label_refusal label)) first)) inr for

pub label_next : (label : List ℕ) (I : Image) → volume_refusal I ≡ None → refusal_of label I ≡ label_refusal label
label_next label I none = ap (λ (o : Option Cause). option_or o (label_refusal label)) none

-- the sector that was found, and what is read of it
pub refusal_read : (I : Image) (s : SuperSector) (later : Bool) (part : Super) (clusters : ℕ) → (superblock_bits I ≡ Some s.bits) × IsSuperSector I s → ((J : Image) → IsSuperSector J s → part ≡ superblock J s.bits) → ((J : Image) → IsSuperSector J s → clusters ≡ cluster_count J s.bits)
    → later ≡ is_for_later part clusters → volume_refusal I ≡ (if later then Some Later else None)
refusal_read I s later part clusters found part_is clusters_are is =
    refusal_found I s.bits later found.0
    (is ∙ ap (λ (p : Super). is_for_later p clusters) (part_is I found.1) ∙ ap (λ (n : ℕ). is_for_later (superblock I s.bits) n) (clusters_are I found.1))

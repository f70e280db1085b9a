-- What one step of the reading of an extent tree leaves as it was, and where an inode's own list is at fault.
use Rattle.std.proofs.Common.{◌≡◌, inl, inr, ℕ, refl}
use Rattle.std.proofs.lemmas.Bool.{cases_Bool}
use Rattle.std.proofs.lemmas.List.{append-nil}
use Rattle.o2_model.specs.Volume.{Volume}
use Rattle.o2_model.specs.Extents.{Extents, list_in_block, is_sound_header, most_in_block, with_met}
use Rattle.o2_model.specs.Checks.Extent.{extent_faults}
use Rattle.o2_model.specs.Inodes.{extents, has_list, extent_lists_of}

-- a list that is met is not looked at again by that
pub met_seen : (v : Volume) (b : ℕ) (t : Extents) → (with_met v b t).seen ≡ t.seen
unfolding with_met
met_seen v b t = elim (cases_Bool (is_sound_header (most_in_block v) (list_in_block v b).header)) [
  | inl sound ↦ rw sound refl
  | inr bad ↦ rw bad refl
]

-- EXTENT fails where the inode's own list is at fault
pub faults_of_own_list : (v : Volume) (b : ℕ) → extent_faults v b ≡ (extents v b).faults
unfolding extent_lists_of extents
faults_of_own_list v b = elim (cases_Bool (has_list v b)) [
  | inl has ↦ rw has (append-nil _)
  | inr none ↦ rw none refl
]

-- Where nothing fails, a journal whose first block is as it was has a sound superblock, and blocks that agree on the owned ones have
-- those of all journals.
use Rattle.std.proofs.Common.{◌≡◌, ℕ, true, false, ◌==◌, List, [], refl, ◌∙◌, ap, Some}
use Rattle.std.specs.Prelude.{slice_get}
use Rattle.std.specs.Option.{option_map_or}
use Rattle.std.proofs.lemmas.Bool.{or_right, eq-eqb}
use Rattle.o2_model.specs.Words.{among}
use Rattle.o2_model.specs.Volume.{Volume, over}
use Rattle.o2_model.specs.Groups.{is_inode}
use Rattle.o2_model.specs.Journals.{journals, journal_blocks, journal_block, is_sound_journal_super, has_known_features}
use Rattle.o2_model.specs.Failing.{failing}
use Rattle.o2_model.specs.Owned.{needs_bytes, is_owned, is_first_of_journal}
use Rattle.o2_laws.specs.Agrees.{AgreesOnOwned, HasSoundJournalSupers}
use Rattle.o2_laws.proofs.Agreeing.{option_agree}
use Rattle.o2_laws.proofs.Held.HeldBlocks.{AgreesOnHeld, on_held}
use Rattle.o2_laws.proofs.Held.DataHeld.{mapped_claimed}
use Rattle.o2_laws.proofs.Held.OwnInodes.{journal_is_inode}
use Rattle.o2_laws.proofs.Kept.JournalsKeep.{held_tell_journal_blocks, journal_holds}
use Rattle.o2_laws.proofs.Kept.JournalUses.{journal_maps}

-- ---- its first block
is_first : (v : Volume) (j b : ℕ) → slice_get (journal_blocks v j) 0 ≡ Some b → is_first_of_journal v j b ≡ true
is_first v j b first = ap (λ o. option_map_or (λ c. c == b) o false) first ∙ eq-eqb b b refl

-- it is needed
first_block_owned : (v : Volume) (j b : ℕ) → is_inode v j ≡ true → is_first_of_journal v j b ≡ true → is_owned v b ≡ true
unfolding is_owned
first_block_owned v j b is first = mapped_claimed (λ owner. needs_bytes v owner b) v j b is (or_right _ _ first) (journal_maps v j b first)

-- ---- a journal whose first block is as it was
module _ (v : Volume) (at : ℕ → List ℕ) (j : ℕ) (none : failing v ≡ []) (agrees : AgreesOnHeld v at) (listed : among (journals v) j ≡ true) (same : (b : ℕ) → is_first_of_journal v j b ≡ true → at b ≡ v.at b) where
  blocks_same : journal_blocks (over v at) j ≡ journal_blocks v j
  blocks_same = held_tell_journal_blocks v at j none agrees (journal_is_inode v j none listed)

  superblock_bytes_same : journal_block (over v at) j 0 ≡ journal_block v j 0
  superblock_bytes_same =
      ap (λ bs. option_map_or at (slice_get bs 0) []) blocks_same
      ∙ option_agree at v.at (slice_get (journal_blocks v j) 0) [] (λ c first. same c (is_first v j c first))

  super_same : is_sound_journal_super (over v at) j ≡ is_sound_journal_super v j
  unfolding is_sound_journal_super
  super_same = rw (superblock_bytes_same, blocks_same) refl

  features_same : has_known_features (over v at) j ≡ has_known_features v j
  unfolding has_known_features
  features_same = rw superblock_bytes_same refl

  -- its superblock is sound, with known features
  pub super_kept : (is_sound_journal_super (over v at) j ≡ true) × (has_known_features (over v at) j ≡ true)
  super_kept = let holds = journal_holds v j none listed in (super_same ∙ holds.sound, features_same ∙ holds.known)

-- ---- all of them
pub sound_supers : (v : Volume) (at : ℕ → List ℕ) → failing v ≡ [] → AgreesOnOwned v at → HasSoundJournalSupers v at
sound_supers v at none agrees =
    let kept = λ (j : ℕ) (listed : among (journals v) j ≡ true). super_kept v at j none (on_held v at agrees) listed (λ b first. agrees.same b (first_block_owned v j b (journal_is_inode v j none listed) first)) in
    record { sound = λ j listed. (kept j listed).0; known = λ j listed. (kept j listed).1 }

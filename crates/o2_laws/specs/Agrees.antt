-- Volumes with the same bytes in the blocks that carry meaning.
use Rattle.std.specs.Prelude.{◌≡◌, ℕ, Bool, true, false, List}
use Rattle.std.specs.List.{list_any}
use Rattle.o2_model.specs.Words.{among}
use Rattle.o2_model.specs.Volume.{Volume, over}
use Rattle.o2_model.specs.Journals.{journals, is_sound_journal_super, has_known_features}
use Rattle.o2_model.specs.Owned.{is_first_of_journal, is_owned}

-- the owned blocks of the volume have the same bytes
pub record AgreesOnOwned (v : Volume) (at : ℕ → List ℕ) : Type 0 where
  pub same : (b : ℕ) → is_owned v b ≡ true → at b ≡ v.at b

-- the block is the first of some journal
abbrev pub begins_journal : Volume → ℕ → Bool
begins_journal v b = list_any (λ j. is_first_of_journal v j b) (journals v)

-- the owned blocks but the first ones of journals have the same bytes
pub record AgreesBesideJournals (v : Volume) (at : ℕ → List ℕ) : Type 0 where
  pub same : (b : ℕ) → is_owned v b ≡ true → begins_journal v b ≡ false → at b ≡ v.at b

-- with these bytes each journal begins with a sound superblock of known features
pub record HasSoundJournalSupers (v : Volume) (at : ℕ → List ℕ) : Type 0 where
  pub sound : (j : ℕ) → among (journals v) j ≡ true → is_sound_journal_super (over v at) j ≡ true
  pub known : (j : ℕ) → among (journals v) j ≡ true → has_known_features (over v at) j ≡ true

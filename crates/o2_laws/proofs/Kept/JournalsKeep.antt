-- Where nothing fails, blocks that agree on the held ones have the same journals: their names and extents, the slots that are dirty,
-- and, where their superblocks are sound, the checks of them.
use Rattle.std.proofs.Common.{◌≡◌, inl, inr, ℕ, Bool, true, false, not, ◌==◌, List, [], ◌∷◌, refl, sym, ◌∙◌, ap, Option, Some, None, arith}
use Rattle.std.specs.Prelude.{flat_map, map, option_and_then}
use Rattle.std.specs.List.{Contains}
use Rattle.std.specs.Option.{option_map_or}
use Rattle.std.proofs.lemmas.Bool.{cases_Bool, eq-eqb}
use Rattle.o2_model.specs.declared.check.Check.TheVariants as check
use Rattle.o2_model.specs.declared.system_file.SlotFile.TheVariants.{Journal}
use Rattle.o2_model.specs.declared.system_file.SystemFile.TheVariants.{OfSlot}
use Rattle.o2_model.specs.Words.{among}
use Rattle.o2_model.specs.Faults.{fails_at}
use Rattle.o2_model.specs.Volume.{Volume, over, is_valid}
use Rattle.o2_model.specs.Inodes.{extents, leaf_records}
use Rattle.o2_model.specs.LeafRecords.{blocks_under, clusters_in, have_no_flags}
use Rattle.o2_model.specs.SystemFiles.{slots}
use Rattle.o2_model.specs.Journals.{named_journal, journals, is_dirty, journal_blocks, is_sound_journal_super, has_known_features}
use Rattle.o2_model.specs.Groups.{is_inode}
use Rattle.o2_model.specs.Dirty.{is_journal, journal_if, slot_journal, is_dirty_slot, dirty_slots}
use Rattle.o2_model.specs.AfterReplay.{journal_length}
use Rattle.o2_model.specs.Checks.Extent.{extent_faults}
use Rattle.o2_model.specs.Checks.Journal.{is_sound_journal, journal_faults}
use Rattle.o2_model.specs.Failing.{faults, failing}
use Rattle.o2_laws.specs.Agrees.{HasSoundJournalSupers}
use Rattle.o2_laws.proofs.Failing.{none_fails}
use Rattle.o2_laws.proofs.NothingFails.{no_check_fails}
use Rattle.o2_laws.proofs.Members.{among_contains}
use Rattle.o2_laws.proofs.Held.HeldBlocks.{AgreesOnHeld}
use Rattle.o2_laws.proofs.SameAllocators.{inode_same}
use Rattle.o2_laws.proofs.Agreeing.{map_agree, flat_map_agree, filter_agree_on, fails_agree, option_agree}
use Rattle.o2_laws.proofs.Found.{found, each_of}
use Rattle.o2_model.proofs.Readings.{faults_of_own_list}
use Rattle.o2_laws.proofs.Held.OwnInodes.{file_is_inode, journal_is_inode}
use Rattle.o2_laws.proofs.Held.HeldTells.{dinode_same, held_tell_extents}
use Rattle.o2_laws.proofs.Held.HeldTables.{held_tell_system_files}

-- ---- which there are
named_same : (v : Volume) (at : ℕ → List ℕ) (slot : ℕ) → failing v ≡ [] → AgreesOnHeld v at → named_journal (over v at) slot ≡ named_journal v slot
named_same v at slot none agrees = inode_same v at (held_tell_system_files v at none agrees) (OfSlot Journal slot)

named_is_inode : (v : Volume) (slot b : ℕ) → failing v ≡ [] → named_journal v slot ≡ Some b → is_inode v b ≡ true
named_is_inode v slot b none named = file_is_inode v (OfSlot Journal slot) b none named

pub held_tell_journals : (v : Volume) (at : ℕ → List ℕ) → failing v ≡ [] → AgreesOnHeld v at → journals (over v at) ≡ journals v
unfolding journals
held_tell_journals v at none agrees =
    flat_map_agree (λ slot. option_map_or (λ b. b ∷ []) (named_journal (over v at) slot) []) (λ slot. option_map_or (λ b. b ∷ []) (named_journal v slot) []) (slots v)
    (λ slot is. ap (λ o. option_map_or (λ b. b ∷ []) o []) (named_same v at slot none agrees))

listed_journal_is_inode : (v : Volume) (b : ℕ) → failing v ≡ [] → Contains (journals v) b → is_inode v b ≡ true
listed_journal_is_inode v b none is = journal_is_inode v b none (found (λ m. b == m) (journals v) b is (eq-eqb b b refl))

-- ---- their blocks
pub extent_faults_same : (v : Volume) (at : ℕ → List ℕ) (b : ℕ) → extents (over v at) b ≡ extents v b → extent_faults (over v at) b ≡ extent_faults v b
extent_faults_same v at b list = faults_of_own_list (over v at) b ∙ (ap (λ t. t.faults) list ∙ sym (faults_of_own_list v b))

pub held_tell_journal_blocks : (v : Volume) (at : ℕ → List ℕ) (i : ℕ) → failing v ≡ [] → AgreesOnHeld v at → is_inode v i ≡ true → journal_blocks (over v at) i ≡ journal_blocks v i
unfolding journal_blocks
held_tell_journal_blocks v at i none agrees is = ap (λ t. flat_map (blocks_under v) t.leaves) (held_tell_extents v at i none agrees is)

-- ---- their superblocks
-- what JOURNAL asks of a journal's records and superblock
pub record IsSoundJournal (v : Volume) (b : ℕ) : Type 0 where
  pub plain : have_no_flags (leaf_records v b) ≡ true
  pub sound : is_sound_journal_super v b ≡ true
  pub known : has_known_features v b ≡ true

sound_journal : (v : Volume) (b : ℕ) → is_sound_journal v b ≡ true → IsSoundJournal v b
unfolding is_sound_journal
sound_journal v b h = record { plain = grind arith; sound = grind arith; known = grind arith }

journals_hold : (v : Volume) → failing v ≡ [] → journal_faults v ≡ []
unfolding faults
journals_hold v none = no_check_fails v none check.Journal

pub journal_holds : (v : Volume) (j : ℕ) → failing v ≡ [] → among (journals v) j ≡ true → IsSoundJournal v j
journal_holds v j none listed =
    sound_journal v j (each_of (λ b. is_sound_journal v b ≡ true) (journals v) j (none_fails (λ b. b) (is_sound_journal v) (journals v) (journals_hold v none)) (among_contains (journals v) j listed))

-- where the superblock is sound with known features, the journal is judged as it was
sound_journal_same : (v : Volume) (at : ℕ → List ℕ) (b : ℕ) → failing v ≡ [] → AgreesOnHeld v at → HasSoundJournalSupers v at → Contains (journals v) b → is_sound_journal (over v at) b ≡ is_sound_journal v b
unfolding is_sound_journal
sound_journal_same v at b none agrees supers listed =
    let is = listed_journal_is_inode v b none listed in
    let list = held_tell_extents v at b none agrees is in
    let records : leaf_records (over v at) b ≡ leaf_records v b = ap (λ t. t.leaves) list in
    let among_all = found (λ m. b == m) (journals v) b listed (eq-eqb b b refl) in
    let old = journal_holds v b none among_all in
    rw (supers.sound b among_all, old.sound, supers.known b among_all, old.known, extent_faults_same v at b list, records) refl

-- ---- checks
-- of journals: a check that judges each the same fails at the same ones
each_journal : (v : Volume) (at : ℕ → List ℕ) (holds : Volume → ℕ → Bool) → failing v ≡ [] → AgreesOnHeld v at
    → ((b : ℕ) → Contains (journals v) b → holds (over v at) b ≡ holds v b)
    → fails_at (λ b. b) (holds (over v at)) (journals (over v at)) ≡ fails_at (λ b. b) (holds v) (journals v)
each_journal v at holds none agrees same =
    ap (fails_at (λ b. b) (holds (over v at))) (held_tell_journals v at none agrees)
    ∙ fails_agree (λ b. b) (holds (over v at)) (holds v) (journals v) same

pub keeps_journal : (v : Volume) (at : ℕ → List ℕ) → failing v ≡ [] → AgreesOnHeld v at → HasSoundJournalSupers v at → faults (over v at) check.Journal ≡ faults v check.Journal
unfolding faults
keeps_journal v at none agrees supers = each_journal v at is_sound_journal none agrees (λ b is. sound_journal_same v at b none agrees supers is)

pub keeps_journal_dirty : (v : Volume) (at : ℕ → List ℕ) → failing v ≡ [] → AgreesOnHeld v at → faults (over v at) check.JournalDirty ≡ faults v check.JournalDirty
unfolding faults
keeps_journal_dirty v at none agrees = each_journal v at (λ u b. not (is_dirty u b)) none agrees (λ b is. rw (dinode_same v at b agrees (listed_journal_is_inode v b none is)) refl)

-- ---- dirty slots
pub journal_same : (v : Volume) (at : ℕ → List ℕ) (b : ℕ) → at b ≡ v.at b → is_journal (over v at) b ≡ is_journal v b
unfolding is_journal is_valid
journal_same v at b same = rw same refl

-- by what the name names
dirty_by : (v : Volume) (at : ℕ → List ℕ) (o : Option ℕ) → ((b : ℕ) → o ≡ Some b → at b ≡ v.at b)
    → option_map_or (is_dirty (over v at)) (option_and_then (journal_if (over v at)) o) false ≡ option_map_or (is_dirty v) (option_and_then (journal_if v) o) false
dirty_by v at None same = refl
dirty_by v at (Some b) same = elim (cases_Bool (is_journal v b)) [
  | inl is ↦ rw (journal_same v at b (same b refl), is, same b refl) refl
  | inr other ↦ rw (journal_same v at b (same b refl), other) refl
]

dirty_same : (v : Volume) (at : ℕ → List ℕ) (slot : ℕ) → failing v ≡ [] → AgreesOnHeld v at → is_dirty_slot (over v at) slot ≡ is_dirty_slot v slot
unfolding slot_journal
dirty_same v at slot none agrees =
    ap (λ o. option_map_or (is_dirty (over v at)) (option_and_then (journal_if (over v at)) o) false) (named_same v at slot none agrees)
    ∙ dirty_by v at (named_journal v slot) (λ b named. dinode_same v at b agrees (named_is_inode v slot b none named))

pub held_tell_dirty : (v : Volume) (at : ℕ → List ℕ) → failing v ≡ [] → AgreesOnHeld v at → dirty_slots (over v at) ≡ dirty_slots v
unfolding dirty_slots
held_tell_dirty v at none agrees = filter_agree_on (is_dirty_slot (over v at)) (is_dirty_slot v) (slots v) (λ slot is. dirty_same v at slot none agrees)

-- ---- their lengths
length_same : (v : Volume) (at : ℕ → List ℕ) (slot : ℕ) → failing v ≡ [] → AgreesOnHeld v at → journal_length (over v at) slot ≡ journal_length v slot
length_same v at slot none agrees =
    ap (λ o. option_map_or (λ b. clusters_in (leaf_records (over v at) b)) o 0) (named_same v at slot none agrees)
    ∙ option_agree (λ b. clusters_in (leaf_records (over v at) b)) (λ b. clusters_in (leaf_records v b)) (named_journal v slot) 0
    (λ b named. ap (λ t. clusters_in t.leaves) (held_tell_extents v at b none agrees (named_is_inode v slot b none named)))

pub held_tell_journal_lengths : (v : Volume) (at : ℕ → List ℕ) → failing v ≡ [] → AgreesOnHeld v at → map (journal_length (over v at)) (slots v) ≡ map (journal_length v) (slots v)
held_tell_journal_lengths v at none agrees = map_agree (journal_length (over v at)) (journal_length v) (slots v) (λ slot is. length_same v at slot none agrees)

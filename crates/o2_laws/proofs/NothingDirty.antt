-- Where nothing is dirty there is nothing to replay.
use Rattle.std.proofs.Common.{◌≡◌, inl, inr, ℕ, true, false, not, List, [], ◌∷◌, ◌++◌, refl, sym, ◌∙◌, subst, Option, Some, None}
use Rattle.std.specs.Prelude.{filter, flat_map}
use Rattle.std.specs.List.{AllByRecursion}
use Rattle.std.specs.Option.{option_map_or}
use Rattle.std.proofs.lemmas.Bool.{cases_Bool, not-true}
use Rattle.o2_disk.specs.Image.{Image}
use Rattle.o2_model.specs.declared.check.Check.TheVariants as check
use Rattle.o2_model.specs.Volume.{Volume, opened}
use Rattle.o2_model.specs.SystemFiles.{slots}
use Rattle.o2_model.specs.Failing.{faults}
use Rattle.o2_model.specs.Consistent.{IsConsistent}
use Rattle.o2_model.specs.Journals.{named_journal, journals, is_dirty}
use Rattle.o2_model.specs.Dirty.{is_journal, journal_if, slot_journal, is_dirty_slot, dirty_slots, all_committed_writes}
use Rattle.o2_model.specs.Replay.{replayed}
use Rattle.o2_laws.proofs.Failing.{none_fails}
use Rattle.o2_laws.proofs.NothingFails.{no_check_fails}

-- ---- clean journals
-- a journal that a slot's name names is clean
pub clean_journal : (v : Volume) (b : ℕ) → is_dirty v b ≡ false → option_map_or (is_dirty v) (journal_if v b) false ≡ false
clean_journal v b clean = elim (cases_Bool (is_journal v b)) [
  | inl named ↦ rw named clean
  | inr other ↦ rw other refl
]

clean_slot : (v : Volume) (slot : ℕ) (o : Option ℕ) → named_journal v slot ≡ o → ((b : ℕ) → o ≡ Some b → is_dirty v b ≡ false) → is_dirty_slot v slot ≡ false
unfolding slot_journal
clean_slot v slot None is clean = rw is refl
clean_slot v slot (Some b) is clean = rw is (clean_journal v b (clean b refl))

abbrev journals_of : Volume → List ℕ → List ℕ
journals_of v ss = flat_map (λ slot. option_map_or (λ b. b ∷ []) (named_journal v slot) []) ss

abbrev AreClean : Volume → List ℕ → Type 0
AreClean v bs = AllByRecursion (λ b. not (is_dirty v b) ≡ true) bs

-- one slot more, by what its name names
more_clean : (v : Volume) (slot : ℕ) (ss : List ℕ) (o : Option ℕ) → named_journal v slot ≡ o → AreClean v (option_map_or (λ b. b ∷ []) o [] ++ journals_of v ss) → (AreClean v (journals_of v ss) → filter (is_dirty_slot v) ss ≡ []) → filter (is_dirty_slot v) (slot ∷ ss) ≡ []
more_clean v slot ss None is h rest = rw (clean_slot v slot None is (λ b e. cc)) (rest h)
more_clean v slot ss (Some b) is h rest =
    rw (clean_slot v slot (Some b) is (λ c e. let same : b ≡ c = cc in subst (λ d. is_dirty v d ≡ false) same (not-true (is_dirty v b) h.0))) (rest h.1)

clean_slots : (v : Volume) (ss : List ℕ) → AreClean v (journals_of v ss) → filter (is_dirty_slot v) ss ≡ []
clean_slots v [] h = refl
clean_slots v (slot ∷ ss) h = more_clean v slot ss (named_journal v slot) refl h (clean_slots v ss)

-- Where JOURNAL_DIRTY holds, no slot is dirty.
pub none_dirty : (v : Volume) → faults v check.JournalDirty ≡ [] → dirty_slots v ≡ []
unfolding faults dirty_slots journals
none_dirty v h = clean_slots v (slots v) (none_fails (λ b. b) (λ b. not (is_dirty v b)) (journals_of v (slots v)) h)

-- ---- nothing to replay
pub none_committed : (v : Volume) → dirty_slots v ≡ [] → all_committed_writes v ≡ []
unfolding all_committed_writes
none_committed v none = rw none refl

pub none_replayed : (I : Image) (v : Volume) → opened I ≡ Some v → dirty_slots v ≡ [] → replayed I ≡ I
unfolding replayed
none_replayed I v is none = rw (is, none) refl

-- the volume of a consistent image has no dirty slot
pub consistent_clean : (I : Image) (v : Volume) → IsConsistent I → opened I ≡ Some v → dirty_slots v ≡ []
consistent_clean I v h is =
    let same : h.volume ≡ v = let e : Some h.volume ≡ Some v = sym h.is_opened ∙ is in cc in
    subst (λ u. dirty_slots u ≡ []) same (none_dirty h.volume (no_check_fails h.volume h.none_fails check.JournalDirty))

pub consistent_replayed : (I : Image) → IsConsistent I → replayed I ≡ I
consistent_replayed I h = none_replayed I h.volume h.is_opened (consistent_clean I h.volume h h.is_opened)

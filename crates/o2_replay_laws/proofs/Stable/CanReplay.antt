-- A volume that can be replayed, where one slot is dirty: its anchors, and what its log writes of them.
use Rattle.std.proofs.Common.{◌≡◌, ◌⊎◌, inl, inr, ⊎_elim, ℕ, ◌≤◌, true, false, ◌||◌, ◌&&◌, ◌==◌, [], ◌∷◌, ◌++◌, refl, sym, ◌∙◌, ap, subst, Option, Some, None, arith}
use Rattle.std.specs.Prelude.{flat_map, nat_eq, option_and_then, nat_lt, drop, bytes_eq}
use Rattle.std.specs.List.{list_all, Contains, IsDistinct}
use Rattle.std.specs.Option.{option_map_or}
use Rattle.std.proofs.lemmas.Bool.{cases_Bool, or_left, or_right, or_cases, and_parts, eq-eqb, eqb-true, false≢true}
use Rattle.std.proofs.lemmas.List.{append-nil}
use Rattle.std.proofs.lemmas.Slice.Eq.{bytes_eq-Decides}
use Rattle.o2_model.specs.declared.journal_part.JournalPart.{JournalPart}
use Rattle.o2_model.specs.declared.system_file.SlotFile.TheVariants.{Journal}
use Rattle.o2_model.specs.declared.system_file.SystemFile.TheVariants.{OfSlot}
use Rattle.o2_model.specs.Words.{among}
use Rattle.o2_laws.specs.Frames.{SameOn}
use Rattle.o2_model.specs.Volume.{Volume}
use Rattle.o2_model.specs.Inodes.{extents}
use Rattle.o2_model.specs.Directories.{directory_entries}
use Rattle.o2_model.specs.SystemFiles.{slots}
use Rattle.o2_model.specs.Journals.{named_journal, is_dirty}
use Rattle.o2_model.specs.Logs.{LoggedBlock}
use Rattle.o2_model.specs.Dirty.{slot_journal, is_dirty_slot, dirty_slots, journal_part_fault, slot_fault, journal_fault, committed_writes, all_committed_writes, bytes_after, as_logged}
use Rattle.o2_model.specs.Anchors.{directory_anchors, journal_anchors, anchors_of, is_anchor, is_super_change, is_directory_change, is_journal_change, is_allowed_write, keeps_journal, is_sound_write, bad_writes, log_fault}
use Rattle.o2_model.specs.Checks.Super.{super_faults}
use Rattle.o2_model.specs.Checks.Sysdir.{is_sound_directory, sysdir_faults}
use Rattle.o2_laws.proofs.Members.{contains_filter, among_left, among_right}
use Rattle.o2_laws.proofs.Found.{contains_first, map_none}
use Rattle.o2_replay_laws.proofs.Stable.SameDirectory.{among_first, sound_extents, directory_is_anchor, directory_entries_same, system_inode_same}
use Rattle.o2_replay_laws.proofs.Stable.SameJournal.{usable_extents}
use Rattle.o2_replay_laws.proofs.Stable.OneSlot.{first_none, none_filtered, told, named_by_slot}
use Rattle.o2_replay_laws.proofs.Stable.Written.{writes_to, write_of, not_written, bytes_kept, first_apart, parts_apart}
use Rattle.o2_model.proofs.Faults.{holds_unless}

-- The one dirty slot of the volume is s, its journal is j, and the volume can be replayed.
pub record CanReplay (v : Volume) (s j : ℕ) : Type 0 where
  pub slots : dirty_slots v ≡ s ∷ []
  pub journal : slot_journal v s ≡ Some j
  pub sound_super : super_faults v ≡ []
  pub sound_sysdir : sysdir_faults v ≡ []
  pub no_journal_fault : journal_fault v ≡ None
  pub no_log_fault : log_fault v ≡ None
  pub apart : IsDistinct nat_eq (anchors_of v)

-- A write to an anchor is one of the three that are allowed.
pub record IsAllowedKind (v : Volume) (j : ℕ) (w : LoggedBlock) : Type 0 where
  pub kept : drop 512 w.bytes ≡ drop 512 (v.at w.block)
  pub on_super : w.block ≡ 2 → is_super_change v w ≡ true
  pub on_directory : w.block ≡ v.geo.sysdir → is_directory_change v w ≡ true
  pub where_to : (b : ℕ) → w.block ≡ b → (b ≡ 2) ⊎ ((b ≡ v.geo.sysdir) ⊎ (b ≡ j))

module _ (v : Volume) (s j : ℕ) (can : CanReplay v s j) where
  pub one_dirty : is_dirty_slot v s ≡ true
  unfolding dirty_slots
  one_dirty = (contains_filter (is_dirty_slot v) (slots v) s (subst (λ ns. Contains ns s) (sym can.slots) (contains_first s []))).1

  pub journal_dirty : is_dirty v j ≡ true
  journal_dirty = ap (λ o. option_map_or (is_dirty v) o false) (sym can.journal) ∙ one_dirty

  pub sound_directory : is_sound_directory v v.geo.sysdir ≡ true
  sound_directory = holds_unless v.geo.sysdir _ can.sound_sysdir

  pub directory_extents : (extents v v.geo.sysdir).faults ≡ []
  directory_extents = sound_extents v v.geo.sysdir sound_directory

  pub usable : journal_part_fault v j ≡ None
  unfolding journal_fault
  usable =
      let none : flat_map (slot_fault v) (dirty_slots v) ≡ [] = first_none _ can.no_journal_fault in
      let one : slot_fault v s ++ [] ≡ [] = rw can.slots at none in
      go (journal_part_fault v j) (sym (ap (λ o. told s (option_and_then (journal_part_fault v) o)) can.journal) ∙ (sym (append-nil (slot_fault v s)) ∙ one))
    where
      go : (o : Option JournalPart) → told s o ≡ [] → o ≡ None
      go None h = refl
      go (Some part) h = cc

  pub journal_extents : (extents v j).faults ≡ []
  journal_extents = usable_extents v j usable

  pub anchors_are : anchors_of v ≡ (0 ∷ 1 ∷ 2 ∷ directory_anchors v v.geo.sysdir) ++ journal_anchors v j
  unfolding anchors_of
  anchors_are = rw (can.slots, can.journal, append-nil (journal_anchors v j)) refl

  pub all_writes : all_committed_writes v ≡ committed_writes v s
  unfolding all_committed_writes
  all_writes = rw can.slots (append-nil (committed_writes v s))

  -- ---- anchors
  apart_here : IsDistinct nat_eq ((0 ∷ 1 ∷ 2 ∷ directory_anchors v v.geo.sysdir) ++ journal_anchors v j)
  apart_here = subst (IsDistinct nat_eq) anchors_are can.apart

  low_is_anchor : (b : ℕ) → among (0 ∷ 1 ∷ 2 ∷ directory_anchors v v.geo.sysdir) b ≡ true → is_anchor v b ≡ true
  low_is_anchor b h = or_left _ _ (ap (λ ns. among ns b) anchors_are ∙ among_left (0 ∷ 1 ∷ 2 ∷ directory_anchors v v.geo.sysdir) (journal_anchors v j) b h)

  pub directory_block_is_anchor : (b : ℕ) → among (directory_anchors v v.geo.sysdir) b ≡ true → is_anchor v b ≡ true
  directory_block_is_anchor b h = low_is_anchor b (among_right (0 ∷ 1 ∷ 2 ∷ []) (directory_anchors v v.geo.sysdir) b h)

  pub first_block_is_anchor : (b : ℕ) → among (0 ∷ 1 ∷ 2 ∷ []) b ≡ true → is_anchor v b ≡ true
  first_block_is_anchor b h = low_is_anchor b (among_left (0 ∷ 1 ∷ 2 ∷ []) (directory_anchors v v.geo.sysdir) b h)

  pub journal_block_is_anchor : (b : ℕ) → among (journal_anchors v j) b ≡ true → is_anchor v b ≡ true
  journal_block_is_anchor b h = or_left _ _ (ap (λ ns. among ns b) anchors_are ∙ among_right (0 ∷ 1 ∷ 2 ∷ directory_anchors v v.geo.sysdir) _ b h)

  pub journal_apart : (a b : ℕ) → among (0 ∷ 1 ∷ 2 ∷ directory_anchors v v.geo.sysdir) a ≡ true → among (journal_anchors v j) b ≡ true → a ≡ b → ⊥
  journal_apart a b here there = parts_apart (0 ∷ 1 ∷ 2 ∷ directory_anchors v v.geo.sysdir) (journal_anchors v j) a b apart_here here there

  pub directory_not_two : (b : ℕ) → among (directory_anchors v v.geo.sysdir) b ≡ true → 2 ≡ b → ⊥
  unfolding IsDistinct
  directory_not_two b h = first_apart 2 (directory_anchors v v.geo.sysdir ++ journal_anchors v j) b apart_here.1.1 (among_left (directory_anchors v v.geo.sysdir) (journal_anchors v j) b h)

  pub directory_not_journal : (b : ℕ) → among (directory_anchors v v.geo.sysdir) b ≡ true → b ≡ j → ⊥
  directory_not_journal b h = journal_apart b j (among_right (0 ∷ 1 ∷ 2 ∷ []) (directory_anchors v v.geo.sysdir) b h) (among_first j _)

  pub two_not_sysdir : 2 ≡ v.geo.sysdir → ⊥
  two_not_sysdir = directory_not_two v.geo.sysdir (directory_is_anchor v v.geo.sysdir)

  -- the system directory is none of the first blocks
  pub sysdir_behind : 3 ≤ v.geo.sysdir
  unfolding IsDistinct
  sysdir_behind =
      let here = among_left (directory_anchors v v.geo.sysdir) (journal_anchors v j) v.geo.sysdir (directory_is_anchor v v.geo.sysdir) in
      let not_zero = first_apart 0 (1 ∷ 2 ∷ directory_anchors v v.geo.sysdir ++ journal_anchors v j) v.geo.sysdir apart_here (or_right _ _ (or_right _ _ here)) in
      let not_one = first_apart 1 (2 ∷ directory_anchors v v.geo.sysdir ++ journal_anchors v j) v.geo.sysdir apart_here.1 (or_right _ _ here) in
      above v.geo.sysdir not_zero not_one two_not_sysdir
    where
      above : (n : ℕ) → (0 ≡ n → ⊥) → (1 ≡ n → ⊥) → (2 ≡ n → ⊥) → 3 ≤ n
      above n a b c = omega arith

  pub sysdir_not_journal : v.geo.sysdir ≡ j → ⊥
  sysdir_not_journal = directory_not_journal v.geo.sysdir (directory_is_anchor v v.geo.sysdir)

  pub two_not_journal : 2 ≡ j → ⊥
  two_not_journal = journal_apart 2 j (among_left (0 ∷ 1 ∷ 2 ∷ []) (directory_anchors v v.geo.sysdir) 2 refl) (among_first j _)

  -- ---- writes
  pub sound_write : (w : LoggedBlock) → Contains (committed_writes v s) w → is_sound_write v s w ≡ true
  unfolding log_fault
  sound_write w is =
      let none : flat_map (bad_writes v) (dirty_slots v) ≡ [] = first_none _ can.no_log_fault in
      let one : bad_writes v s ++ [] ≡ [] = rw can.slots at none in
      none_filtered (is_sound_write v s) (committed_writes v s) w (map_none _ _ (sym (append-nil (bad_writes v s)) ∙ one)) is

  super_at : (w : LoggedBlock) → is_super_change v w ≡ true → w.block ≡ 2
  unfolding is_super_change
  super_at w h = elim (cases_Bool (w.block == 2)) [
    | inl is ↦ eqb-true w.block 2 is
    | inr other ↦ absurd (false≢true (rw other at h))
  ]

  directory_at : (w : LoggedBlock) → is_directory_change v w ≡ true → w.block ≡ v.geo.sysdir
  unfolding is_directory_change
  directory_at w h = elim (cases_Bool (w.block == v.geo.sysdir)) [
    | inl is ↦ eqb-true w.block v.geo.sysdir is
    | inr other ↦ absurd (false≢true (rw other at h))
  ]

  journal_at : (w : LoggedBlock) → is_journal_change v s w ≡ true → w.block ≡ j
  unfolding is_journal_change
  journal_at w h = elim (cases_Bool (w.block == j)) [
    | inl is ↦ eqb-true w.block j is
    | inr other ↦ absurd (false≢true (rw (can.journal, other) at h))
  ]

  allowed_kind : (w : LoggedBlock) → is_allowed_write v s w ≡ true → IsAllowedKind v j w
  unfolding is_allowed_write
  allowed_kind w allowed =
      let parts = and_parts (bytes_eq (drop 512 w.bytes) (drop 512 (v.at w.block))) _ allowed in
      let which = or_cases (is_super_change v w || is_directory_change v w) (is_journal_change v s w) parts.1 in
      let two = two_not_sysdir in
      let own = two_not_journal in
      let directory = sysdir_not_journal in
      record {
        kept = (bytes_eq-Decides _ _).0 parts.0;
        on_super = λ at. ⊎_elim
            (λ early. ⊎_elim (λ is. is) (λ other. absurd (two (sym at ∙ directory_at w other))) (or_cases (is_super_change v w) _ early))
            (λ late. absurd (own (sym at ∙ journal_at w late))) which;
        on_directory = λ at. ⊎_elim
            (λ early. ⊎_elim (λ other. absurd (two (sym (super_at w other) ∙ at))) (λ is. is) (or_cases (is_super_change v w) _ early))
            (λ late. absurd (directory (sym at ∙ journal_at w late))) which;
        where_to = λ b at. ⊎_elim
            (λ early. ⊎_elim (λ is. inl (sym at ∙ super_at w is)) (λ is. inr (inl (sym at ∙ directory_at w is))) (or_cases (is_super_change v w) _ early))
            (λ late. inr (inr (sym at ∙ journal_at w late))) which;
      }

  pub anchor_write : (w : LoggedBlock) → Contains (committed_writes v s) w → is_anchor v w.block ≡ true → IsAllowedKind v j w
  unfolding is_sound_write
  anchor_write w is anchor =
      let parts = and_parts (nat_lt w.block v.on_device) _ (sound_write w is) in
      allowed_kind w (rw anchor at parts.1)

  -- of an anchor that is none of the three, nothing is written
  pub anchor_not_written : (b : ℕ) → is_anchor v b ≡ true → (b ≡ 2 → ⊥) → (b ≡ v.geo.sysdir → ⊥) → (b ≡ j → ⊥) → writes_to (committed_writes v s) b ≡ false
  anchor_not_written b anchor not_two not_sysdir not_journal = not_written (committed_writes v s) b (λ w is same.
      let kind = anchor_write w is (subst (λ x. is_anchor v x ≡ true) (sym same) anchor) in
      ⊎_elim not_two (λ more. ⊎_elim not_sysdir not_journal more) (kind.where_to b same))

  -- ---- the directory as the logs leave it
  pub logged_at : (b : ℕ) → (as_logged v).at b ≡ bytes_after (committed_writes v s) b (v.at b)
  unfolding as_logged
  logged_at b = ap (λ ws. bytes_after ws b (v.at b)) all_writes

  pub directory_kept : writes_to (committed_writes v s) v.geo.sysdir ≡ false → SameOn (directory_anchors v v.geo.sysdir) v (λ b. bytes_after (all_committed_writes v) b (v.at b))
  directory_kept none = record {
    same = λ b h. ap (λ ws. bytes_after ws b (v.at b)) all_writes ∙ bytes_kept (committed_writes v s) b (v.at b) (elim (cases_Bool (b == v.geo.sysdir)) [
      | inl is ↦ ap (writes_to (committed_writes v s)) (eqb-true b v.geo.sysdir is) ∙ none
      | inr other ↦
          let apart : b ≡ v.geo.sysdir → ⊥ = λ e. absurd (false≢true (sym other ∙ eq-eqb b v.geo.sysdir e)) in
          anchor_not_written b (directory_block_is_anchor b h) (λ e. directory_not_two b h (sym e)) apart (directory_not_journal b h)
    ]);
  }

  pub logged_entries_kept : writes_to (committed_writes v s) v.geo.sysdir ≡ false → directory_entries (as_logged v) v.geo.sysdir ≡ directory_entries v v.geo.sysdir
  unfolding as_logged
  logged_entries_kept none = directory_entries_same v _ v.geo.sysdir (directory_kept none) directory_extents

  -- what is written to the directory is the change that is allowed
  pub directory_change : writes_to (committed_writes v s) v.geo.sysdir ≡ true → (is_sound_directory (as_logged v) v.geo.sysdir ≡ true) × (keeps_journal v s ≡ true)
  unfolding is_directory_change
  directory_change written =
      let one = write_of (committed_writes v s) v.geo.sysdir written in
      let anchor : is_anchor v one.write.block ≡ true = subst (λ b. is_anchor v b ≡ true) (sym one.at_block) (directory_block_is_anchor v.geo.sysdir (directory_is_anchor v v.geo.sysdir)) in
      let change = (anchor_write one.write one.inside anchor).on_directory one.at_block in
      let parts = and_parts (one.write.block == v.geo.sysdir && is_sound_directory (as_logged v) v.geo.sysdir) _ change in
      let sound = and_parts (one.write.block == v.geo.sysdir) _ parts.0 in
      let all : list_all (keeps_journal v) (s ∷ []) ≡ true = ap (list_all (keeps_journal v)) (sym can.slots) ∙ parts.1 in
      (sound.1, (and_parts (keeps_journal v s) true all).0)

  pub logged_name : named_journal (as_logged v) s ≡ Some j
  unfolding as_logged
  logged_name = elim (cases_Bool (writes_to (committed_writes v s) v.geo.sysdir)) [
    | inr none ↦ system_inode_same v _ (OfSlot Journal s) (logged_entries_kept none) ∙ (named_by_slot v s j can.journal).0
    | inl written ↦
        let later = named_journal (as_logged v) s in
        let named = (named_by_slot v s j can.journal).0 in
        same_name later (ap (λ o. option_map_or (λ b. option_map_or (λ c. b == c) later false) o false) (sym named) ∙ (directory_change written).1)
  ]
    where
      same_name : (o : Option ℕ) → option_map_or (λ c. j == c) o false ≡ true → o ≡ Some j
      same_name None h = absurd (false≢true h)
      same_name (Some c) h = ap (λ n. Some n) (sym (eqb-true j c h))

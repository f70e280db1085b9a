-- Blocks that agree on what a replay reads of a volume with one dirty slot: the volume over them can be replayed as well.
use Rattle.std.proofs.Common.{◌≡◌, ◌⊎◌, inl, inr, ℕ, ◌<◌, Bool, true, false, cond, ◌||◌, ◌&&◌, not, ◌==◌, List, [], ◌∷◌, ◌++◌, map, refl, sym, ◌∙◌, ap, subst, Option, Some, None}
use Rattle.std.proofs.Math.Path.{fun_ext}
use Rattle.std.specs.Prelude.{filter, nat_eq, option_and_then, nat_lt, drop, bytes_eq, nat_le, ◌^◌}
use Rattle.std.specs.List.{list_all, Contains, IsDistinct}
use Rattle.std.specs.Option.{option_map_or}
use Rattle.std.proofs.lemmas.Bool.{cases_Bool, eqb-true}
use Rattle.std.proofs.lemmas.List.{append-nil}
use Rattle.o2_model.specs.declared.system_file.SlotFile.TheVariants.{Journal}
use Rattle.o2_model.specs.declared.system_file.SystemFile.TheVariants.{OfSlot}
use Rattle.o2_model.specs.Words.{among}
use Rattle.o2_model.specs.Faults.{fails_unless}
use Rattle.o2_model.specs.Orders.{first_of, from_to}
use Rattle.o2_laws.specs.Frames.{SameOn}
use Rattle.o2_model.specs.Volume.{Volume, over}
use Rattle.o2_model.specs.Directories.{directory_entries}
use Rattle.o2_model.specs.SystemFiles.{slots}
use Rattle.o2_model.specs.Journals.{named_journal, is_dirty}
use Rattle.o2_model.specs.Logs.{LoggedBlock, unrevoked}
use Rattle.o2_model.specs.Dirty.{is_journal, journal_if, slot_journal, is_dirty_slot, dirty_slots, journal_part_fault, journal_fault, log_of, committed_writes, all_committed_writes, bytes_after, as_logged}
use Rattle.o2_model.specs.Anchors.{directory_anchors, journal_anchors, anchors_of, anchors_as_logged, is_anchor, names_dirty_journal, is_clean_slot, keeps_journal, clusters_in, slots_in, with_old_numbers, with_logged, is_super_change, is_directory_change, is_journal_change, is_allowed_write, is_sound_write, bad_writes, log_fault}
use Rattle.o2_model.specs.Checks.Super.{is_sound_super, super_faults}
use Rattle.o2_model.specs.Checks.Sysdir.{is_sound_directory, sysdir_faults}
use Rattle.o2_model.specs.TornReplays.{dirty_journals}
use Rattle.o2_laws.proofs.Agreeing.{filter_agree_on, all_agree, option_agree}
use Rattle.o2_replay_laws.proofs.Stable.SameDirectory.{sound_directory_same, directory_entries_same, directory_anchors_same, system_inode_same}
use Rattle.o2_replay_laws.proofs.Stable.SameJournal.{is_dirty_same, journal_inode_same, journal_anchors_same, part_fault_same, log_in_same}
use Rattle.o2_replay_laws.proofs.Stable.OneSlot.{below, below_high, named_by_slot, no_dirty_journal, becomes_empty, is_change, anchors_by, logged_anchors_by}
use Rattle.o2_replay_laws.proofs.Stable.CanReplay
use Rattle.o2_laws.proofs.NothingDirty.{clean_journal}
use Rattle.o2_laws.proofs.Kept.JournalsKeep.{journal_same as is_journal_same}

-- The volume counts the slot, or a write to block 2 does.
abbrev pub IsCountedBy : Volume → ℕ → ℕ → Type 0
IsCountedBy v s slot = (slot < v.geo.slots) ⊎ ((w : LoggedBlock) × Contains (committed_writes v s) w × (w.block ≡ 2) × (slot < slots_in w.bytes))

-- The blocks agree with those of the volume on all anchors; an inode that the name of a counted slot's journal tells is the same, or
-- clean in both; and the log leaves the same.
pub record SameRead (v : Volume) (s : ℕ) (at : ℕ → List ℕ) : Type 0 where
  pub anchors : (b : ℕ) → is_anchor v b ≡ true → at b ≡ v.at b
  pub marks : (slot b : ℕ) → IsCountedBy v s slot → (named_journal v slot ≡ Some b) ⊎ (named_journal (as_logged v) slot ≡ Some b)
      → (at b ≡ v.at b) ⊎ ((is_dirty v b ≡ false) × (is_dirty (over v at) b ≡ false))
  pub logged : (b : ℕ) → bytes_after (committed_writes v s) b (at b) ≡ bytes_after (committed_writes v s) b (v.at b)

module _ (v : Volume) (s j : ℕ) (can : CanReplay.CanReplay v s j) (at : ℕ → List ℕ) (same : SameRead v s at) where
  directory_same_on : SameOn (directory_anchors v v.geo.sysdir) v at
  directory_same_on = record { same = λ b h. same.anchors b (CanReplay.directory_block_is_anchor v s j can b h) }

  journal_same_on : SameOn (journal_anchors v j) v at
  journal_same_on = record { same = λ b h. same.anchors b (CanReplay.journal_block_is_anchor v s j can b h) }

  two_same : at 2 ≡ v.at 2
  two_same = same.anchors 2 (CanReplay.first_block_is_anchor v s j can 2 refl)

  super_same : super_faults (over v at) ≡ super_faults v
  unfolding is_sound_super
  super_same = rw two_same refl

  -- ---- the directory
  sysdir_same : sysdir_faults (over v at) ≡ sysdir_faults v
  sysdir_same = ap (fails_unless v.geo.sysdir) (sound_directory_same v at directory_same_on (CanReplay.directory_extents v s j can))

  entries_same : directory_entries (over v at) v.geo.sysdir ≡ directory_entries v v.geo.sysdir
  entries_same = directory_entries_same v at v.geo.sysdir directory_same_on (CanReplay.directory_extents v s j can)

  pub names_same : (slot : ℕ) → named_journal (over v at) slot ≡ named_journal v slot
  names_same slot = system_inode_same v at (OfSlot Journal slot) entries_same

  -- ---- the dirty slot
  dirty_by_name : (slot : ℕ) (o : Option ℕ) → slot < v.geo.slots → named_journal v slot ≡ o
      → option_map_or (is_dirty (over v at)) (option_and_then (journal_if (over v at)) o) false ≡ option_map_or (is_dirty v) (option_and_then (journal_if v) o) false
  dirty_by_name slot None low named = refl
  dirty_by_name slot (Some b) low named = elim (same.marks slot b (inl low) (inl named)) [
    | inl bytes ↦ elim (cases_Bool (is_journal v b)) [
      | inl is ↦ rw (is_journal_same v at b bytes, is) (is_dirty_same v at b bytes)
      | inr other ↦ rw (is_journal_same v at b bytes, other) refl
    ]
    | inr clean ↦ clean_journal (over v at) b clean.1 ∙ sym (clean_journal v b clean.0)
  ]

  dirty_same : (slot : ℕ) → slot < v.geo.slots → is_dirty_slot (over v at) slot ≡ is_dirty_slot v slot
  unfolding slot_journal
  dirty_same slot low =
      ap (λ o. option_map_or (is_dirty (over v at)) (option_and_then (journal_if (over v at)) o) false) (names_same slot)
      ∙ dirty_by_name slot (named_journal v slot) low refl

  pub slots_same : dirty_slots (over v at) ≡ s ∷ []
  unfolding dirty_slots
  slots_same = filter_agree_on (is_dirty_slot (over v at)) (is_dirty_slot v) (slots v) (λ slot is. dirty_same slot (below v.geo.slots slot is)) ∙ can.slots

  journal_here : at j ≡ v.at j
  journal_here = journal_inode_same v at j journal_same_on (CanReplay.journal_extents v s j can)

  pub journal_same : slot_journal (over v at) s ≡ Some j
  unfolding slot_journal
  journal_same =
      let named = named_by_slot v s j can.journal in
      ap (option_and_then (journal_if (over v at))) (names_same s ∙ named.0) ∙ rw (is_journal_same v at j journal_here, named.1) refl

  pub journals_same : dirty_journals (over v at) ≡ dirty_journals v
  journals_same = rw (slots_same, journal_same, can.slots, can.journal) refl

  usable_same : journal_part_fault (over v at) j ≡ None
  usable_same = part_fault_same v at j journal_same_on (CanReplay.journal_extents v s j can) ∙ CanReplay.usable v s j can

  fault_same : journal_fault (over v at) ≡ None
  unfolding journal_fault
  fault_same = rw (slots_same, journal_same, usable_same) refl

  -- ---- the log
  log_same : log_of (over v at) s ≡ log_of v s
  unfolding log_of
  log_same = rw (journal_same, can.journal) (log_in_same v at j journal_same_on (CanReplay.journal_extents v s j can))

  pub writes_same : committed_writes (over v at) s ≡ committed_writes v s
  unfolding committed_writes
  writes_same = ap unrevoked log_same

  all_writes_same : all_committed_writes (over v at) ≡ committed_writes v s
  unfolding all_committed_writes
  all_writes_same = rw slots_same (append-nil (committed_writes (over v at) s) ∙ writes_same)

  pub logged_same : as_logged (over v at) ≡ as_logged v
  unfolding as_logged
  logged_same = ap (over v) (fun_ext (λ b.
      ap (λ ws. bytes_after ws b (at b)) all_writes_same
      ∙ (same.logged b ∙ sym (ap (λ ws. bytes_after ws b (v.at b)) (CanReplay.all_writes v s j can)))))

  -- ---- the anchors
  directory_part_same : directory_anchors (over v at) v.geo.sysdir ≡ directory_anchors v v.geo.sysdir
  directory_part_same = directory_anchors_same v at v.geo.sysdir directory_same_on (CanReplay.directory_extents v s j can)

  journal_part_same : journal_anchors (over v at) j ≡ journal_anchors v j
  journal_part_same = journal_anchors_same v at j journal_same_on (CanReplay.journal_extents v s j can)

  pub anchors_same : anchors_of (over v at) ≡ anchors_of v
  anchors_same =
      anchors_by (over v at) s j slots_same journal_same
      ∙ (ap (λ ns. (0 ∷ 1 ∷ 2 ∷ ns) ++ journal_anchors (over v at) j) directory_part_same
      ∙ (ap (λ ns. (0 ∷ 1 ∷ 2 ∷ directory_anchors v v.geo.sysdir) ++ ns) journal_part_same
      ∙ sym (anchors_by v s j can.slots can.journal)))

  logged_name_same : named_journal (as_logged (over v at)) s ≡ Some j
  logged_name_same = ap (λ u. named_journal u s) logged_same ∙ CanReplay.logged_name v s j can

  logged_anchors_same : anchors_as_logged (over v at) ≡ anchors_as_logged v
  logged_anchors_same =
      logged_anchors_by (over v at) s j slots_same logged_name_same
      ∙ (ap (λ u. directory_anchors u v.geo.sysdir ++ journal_anchors (over v at) j) logged_same
      ∙ (ap (λ ns. directory_anchors (as_logged v) v.geo.sysdir ++ ns) journal_part_same
      ∙ sym (logged_anchors_by v s j can.slots (CanReplay.logged_name v s j can))))

  is_anchor_same : (b : ℕ) → is_anchor (over v at) b ≡ is_anchor v b
  is_anchor_same b = ap (λ ns. among ns b || among (anchors_as_logged (over v at)) b) anchors_same ∙ ap (λ ns. among (anchors_of v) b || among ns b) logged_anchors_same

  -- ---- writes
  -- a name of the volume or of the volume as the logs leave it
  by_dinodes : (names : Volume) (slot : ℕ) → IsCountedBy v s slot → ((b : ℕ) → named_journal names slot ≡ Some b → (named_journal v slot ≡ Some b) ⊎ (named_journal (as_logged v) slot ≡ Some b))
      → names_dirty_journal names (over v at) slot ≡ names_dirty_journal names v slot
  by_dinodes names slot counted which =
      option_agree (λ b. is_journal (over v at) b && is_dirty (over v at) b) (λ b. is_journal v b && is_dirty v b) (named_journal names slot) false (λ b named.
      elim (same.marks slot b counted (which b named)) [
        | inl bytes ↦ rw (is_journal_same v at b bytes, is_dirty_same v at b bytes) refl
        | inr clean ↦ no_dirty_journal (over v at) b clean.1 ∙ sym (no_dirty_journal v b clean.0)
      ])

  clean_slot_same : (slot : ℕ) → IsCountedBy v s slot → is_clean_slot (over v at) slot ≡ is_clean_slot v slot
  clean_slot_same slot counted =
      let first : names_dirty_journal (over v at) (over v at) slot ≡ names_dirty_journal v v slot
      = ap (λ o. option_map_or (λ b. is_journal (over v at) b && is_dirty (over v at) b) o false) (names_same slot) ∙ by_dinodes v slot counted (λ b named. inl named) in
      let second : names_dirty_journal (over v at) (as_logged (over v at)) slot ≡ names_dirty_journal v (as_logged v) slot
      = ap (λ u. names_dirty_journal (over v at) u slot) logged_same ∙ ap (λ o. option_map_or (λ b. is_journal (as_logged v) b && is_dirty (as_logged v) b) o false) (names_same slot) in
      let third : names_dirty_journal (as_logged (over v at)) (over v at) slot ≡ names_dirty_journal (as_logged v) v slot
      = ap (λ u. names_dirty_journal u (over v at) slot) logged_same ∙ by_dinodes (as_logged v) slot counted (λ b named. inr named) in
      let fourth : names_dirty_journal (as_logged (over v at)) (as_logged (over v at)) slot ≡ names_dirty_journal (as_logged v) (as_logged v) slot
      = ap (λ u. names_dirty_journal u u slot) logged_same in
      four (names_dirty_journal (over v at) (over v at) slot) (names_dirty_journal v v slot) _ _ _ _ _ _ first second third fourth
    where
      four : (a b c d e f g h : Bool) → a ≡ b → c ≡ d → e ≡ f → g ≡ h → (not a && not c && not e && not g) ≡ (not b && not d && not f && not h)
      four a b c d e f g h one two three last = cc

  keeps_same : keeps_journal (over v at) s ≡ keeps_journal v s
  keeps_same =
      ap (λ u. option_map_or (λ b. option_map_or (λ c. b == c) (named_journal u s) false) (named_journal (over v at) s) false) logged_same
      ∙ ap (λ o. option_map_or (λ b. option_map_or (λ c. b == c) (named_journal (as_logged v) s) false) o false) (names_same s)

  super_change_same : (w : LoggedBlock) → Contains (committed_writes v s) w → is_super_change (over v at) w ≡ is_super_change v w
  unfolding is_super_change
  super_change_same w inside = elim (cases_Bool (w.block == 2)) [
    | inr other ↦ rw other refl
    | inl two ↦
        let cleans = all_agree (is_clean_slot (over v at)) (is_clean_slot v) (from_to v.geo.slots (slots_in w.bytes)) (λ slot is.
        clean_slot_same slot (inr (w, inside, eqb-true w.block 2 two, below_high v.geo.slots (slots_in w.bytes) slot is))) in
        rw (slots_same, can.slots, two_same) (ap (λ x. w.block == 2 && bytes_eq (with_old_numbers (v.at 2) w.bytes) (v.at 2) && nat_le (clusters_in w.bytes) (2 ^ 30)
        && list_all (λ slot. nat_lt slot (slots_in w.bytes)) (s ∷ []) && x) cleans)
  ]

  directory_change_same : (w : LoggedBlock) → is_directory_change (over v at) w ≡ is_directory_change v w
  unfolding is_directory_change
  directory_change_same w =
      ap (λ ns. w.block == v.geo.sysdir && is_sound_directory (as_logged (over v at)) v.geo.sysdir && list_all (keeps_journal (over v at)) ns) slots_same
      ∙ (ap (λ u. w.block == v.geo.sysdir && is_sound_directory u v.geo.sysdir && list_all (keeps_journal (over v at)) (s ∷ [])) logged_same
      ∙ (ap (λ x. w.block == v.geo.sysdir && is_sound_directory (as_logged v) v.geo.sysdir && (x && true)) keeps_same
      ∙ sym (ap (λ ns. w.block == v.geo.sysdir && is_sound_directory (as_logged v) v.geo.sysdir && list_all (keeps_journal v) ns) can.slots)))

  with_logged_same : (w : LoggedBlock) → with_logged (over v at) w ≡ with_logged v w
  with_logged_same w = ap (λ (u : Volume). over v (λ b. cond (b == w.block) w.bytes (u.at b))) logged_same

  journal_change_same : (w : LoggedBlock) → is_journal_change (over v at) s w ≡ is_journal_change v s w
  journal_change_same w =
      is_change (over v at) s w
      ∙ (ap (λ o. option_map_or (λ b. w.block == b) o false && becomes_empty (with_logged (over v at) w) w) (journal_same ∙ sym can.journal)
      ∙ (ap (λ u. option_map_or (λ b. w.block == b) (slot_journal v s) false && becomes_empty u w) (with_logged_same w)
      ∙ sym (is_change v s w)))

  allowed_same : (w : LoggedBlock) → Contains (committed_writes v s) w → at w.block ≡ v.at w.block → is_allowed_write (over v at) s w ≡ is_allowed_write v s w
  unfolding is_allowed_write
  allowed_same w inside bytes =
      ap (λ b. bytes_eq (drop 512 w.bytes) (drop 512 b) && (is_super_change (over v at) w || is_directory_change (over v at) w || is_journal_change (over v at) s w)) bytes
      ∙ three _ _ _ _ _ _ _ (super_change_same w inside) (directory_change_same w) (journal_change_same w)
    where
      three : (a b c d e f g : Bool) → b ≡ c → d ≡ e → f ≡ g → (a && (b || d || f)) ≡ (a && (c || e || g))
      three a b c d e f g one two last = cc

  sound_write_same : (w : LoggedBlock) → Contains (committed_writes v s) w → is_sound_write (over v at) s w ≡ is_sound_write v s w
  unfolding is_sound_write
  sound_write_same w inside = elim (cases_Bool (is_anchor v w.block)) [
    | inl anchor ↦
        ap (λ x. nat_lt w.block v.on_device && (not x || is_allowed_write (over v at) s w)) (is_anchor_same w.block)
        ∙ ap (λ x. nat_lt w.block v.on_device && (not (is_anchor v w.block) || x)) (allowed_same w inside (same.anchors w.block anchor))
    | inr other ↦
        ap (λ x. nat_lt w.block v.on_device && (not x || is_allowed_write (over v at) s w)) (is_anchor_same w.block ∙ other)
        ∙ sym (ap (λ x. nat_lt w.block v.on_device && (not x || is_allowed_write v s w)) other)
  ]

  bad_same : bad_writes (over v at) s ≡ bad_writes v s
  bad_same =
      ap (λ ws. map (λ (w : LoggedBlock). (s, w.block)) (filter (λ w. not (is_sound_write (over v at) s w)) ws)) writes_same
      ∙ ap (map (λ (w : LoggedBlock). (s, w.block))) (filter_agree_on _ _ (committed_writes v s) (λ w is. ap not (sound_write_same w is)))

  log_fault_same : log_fault (over v at) ≡ log_fault v
  unfolding log_fault
  log_fault_same = rw (slots_same, can.slots) (ap (λ ns. first_of (ns ++ [])) bad_same)

  -- The volume over these blocks can be replayed.
  pub can_replay_same : CanReplay.CanReplay (over v at) s j
  can_replay_same = record {
    slots = slots_same;
    journal = journal_same;
    sound_super = super_same ∙ can.sound_super;
    sound_sysdir = sysdir_same ∙ can.sound_sysdir;
    no_journal_fault = fault_same;
    no_log_fault = log_fault_same ∙ can.no_log_fault;
    apart = subst (IsDistinct nat_eq) (sym anchors_same) can.apart;
  }

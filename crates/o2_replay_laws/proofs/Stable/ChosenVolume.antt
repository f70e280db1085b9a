-- Where the image with the first sectors of a torn one can be replayed, so can the torn one.
use Rattle.std.proofs.Common.{◌≡◌, ◌⊎◌, inl, inr, ⊎_elim, ℕ, ◌<◌, ◌*◌, ◌+◌, ◌^◌, true, false, List, [], ◌∷◌, map, refl, sym, ◌∙◌, ap, subst, arith, Some}
use Rattle.std.specs.Prelude.{nat_eq, find, option_map}
use Rattle.std.specs.List.{Contains, IsDistinct}
use Rattle.std.specs.Option.{option_map_or}
use Rattle.std.proofs.lemmas.Bool.{cases_Bool, cases_eq}
use Rattle.o2_ondisk.specs.Number.{number_at}
use Rattle.o2_ondisk.specs.Bits.{has_bits, dirty_journal_flag}
use Rattle.o2_disk.specs.Image.{Image, sector, block_at}
use Rattle.o2_model.specs.declared.system_file.SlotFile.TheVariants.{Journal}
use Rattle.o2_model.specs.declared.system_file.SystemFile.{SystemFile}
use Rattle.o2_model.specs.declared.system_file.SystemFile.TheVariants.{OfSlot}
use Rattle.o2_laws.specs.Frames.{SameOn}
use Rattle.o2_model.specs.Volume.{Volume, over, volume_of}
use Rattle.o2_model.specs.Inodes.{extents}
use Rattle.o2_model.specs.declared.entry.Entry.{Entry}
use Rattle.o2_model.specs.Directories.{is_named, directory_entries}
use Rattle.o2_model.specs.SystemFiles.{system_name, system_inode}
use Rattle.o2_model.specs.Journals.{named_journal, is_dirty}
use Rattle.o2_model.specs.Logs.{LoggedBlock, log_in, unrevoked}
use Rattle.o2_model.specs.Dirty.{committed_writes, log_of, bytes_after, as_logged}
use Rattle.o2_model.specs.Anchors.{slots_in, is_anchor, directory_anchors, journal_anchors}
use Rattle.o2_replay_laws.specs.FourImages.{IsCounted, IsNamed, IsUnmarked}
use Rattle.o2_replay_laws.proofs.Stable.SameDirectory.{directory_is_anchor, sound_extents}
use Rattle.o2_replay_laws.proofs.Stable.Written.{writes_to, writes_there, bytes_kept, bytes_put, bytes_of_write}
use Rattle.o2_replay_laws.proofs.Stable.CanReplay as sound
use Rattle.o2_replay_laws.proofs.Stable.SameRead.{IsCountedBy, SameRead}
use Rattle.o2_replay_laws.proofs.Stable.Alike.{SameSizes}
use Rattle.o2_replay_laws.proofs.Stable.AlikeParts.{entries_alike, log_alike}
use Rattle.o2_replay_laws.proofs.Stable.TornBlocks.{old_or_put, first_number, first_number_put}
use Rattle.o2_replay_laws.proofs.Stable.ChosenImage
use Rattle.o2_laws.proofs.Members.{among_left, among_right}

-- by the same entries, the same names
inode_alike : (v u : Volume) (file : SystemFile) → u.geo.sysdir ≡ v.geo.sysdir → directory_entries u v.geo.sysdir ≡ directory_entries v v.geo.sysdir → system_inode u file ≡ system_inode v file
unfolding system_inode
inode_alike v u file place entries = ap (λ (es : List Entry). option_map (λ e. e.inode) (find (is_named (system_name file)) es)) (ap (directory_entries u) place ∙ entries)

logged_sizes : (v u : Volume) → SameSizes v u → SameSizes (as_logged v) (as_logged u)
unfolding as_logged
logged_sizes v u sizes = record { block_bits = sizes.block_bits; cluster_bits = sizes.cluster_bits; generation = sizes.generation }

sizes_of_logged : (v u : Volume) → SameSizes v u → SameSizes u (as_logged v)
unfolding as_logged
sizes_of_logged v u sizes = record { block_bits = sym sizes.block_bits; cluster_bits = sym sizes.cluster_bits; generation = sym sizes.generation }

logged_place : (v : Volume) → (as_logged v).geo.sysdir ≡ v.geo.sysdir
unfolding as_logged
logged_place v = refl

module _ (J F V : Image) (bits k s j : ℕ) (is : ChosenImage.IsChosen J F V bits k s j) (can : sound.CanReplay (volume_of F bits) s j) where
  abbrev v : Volume
  v = volume_of J bits

  abbrev u : Volume
  u = volume_of F bits

  abbrev torn_at : ℕ → List ℕ
  torn_at = block_at (2 ^ bits) V

  sizes : SameSizes v u
  sizes =
      let kept = ChosenImage.super_kept J F V bits k s j is in
      record { block_bits = kept.block_bits; cluster_bits = kept.cluster_bits; generation = kept.generation }

  place : u.geo.sysdir ≡ v.geo.sysdir
  place = (ChosenImage.super_kept J F V bits k s j is).sysdir

  other : (b : ℕ) → (b ≡ 2 → ⊥) → (b ≡ v.geo.sysdir → ⊥) → u.at b ≡ v.at b
  other = ChosenImage.chosen_other J F V bits k s j is

  -- ---- the log
  journal_on : SameOn (journal_anchors v j) v u.at
  journal_on = record {
    same = λ b h. other b
        (λ e. sound.journal_apart v s j is.can 2 b (among_left (0 ∷ 1 ∷ 2 ∷ []) (directory_anchors v v.geo.sysdir) 2 refl) h (sym e))
        (λ e. sound.journal_apart v s j is.can v.geo.sysdir b (among_right (0 ∷ 1 ∷ 2 ∷ []) (directory_anchors v v.geo.sysdir) v.geo.sysdir (directory_is_anchor v v.geo.sysdir)) h (sym e));
  }

  pub writes_alike : committed_writes u s ≡ committed_writes v s
  unfolding committed_writes log_of
  writes_alike = ap unrevoked (ap (λ o. option_map_or (log_in u) o []) can.journal
      ∙ (log_alike v u sizes j journal_on (sound.journal_extents v s j is.can) (sound.journal_extents u s j can)
      ∙ sym (ap (λ o. option_map_or (log_in v) o []) is.can.journal)))

  -- ---- blocks
  unwritten_same : (b : ℕ) → writes_to (committed_writes v s) b ≡ false → torn_at b ≡ u.at b
  unwritten_same b none = elim (cases_eq b 2) [
    | inl two ↦ subst (λ c. torn_at c ≡ u.at c) (sym two) (ChosenImage.two_same J F V bits k s j is)
    | inr not_two ↦ elim (cases_eq b v.geo.sysdir) [
      | inl here ↦ subst (λ c. torn_at c ≡ u.at c) (sym here) (ChosenImage.sysdir_same J F V bits k s j is)
      | inr not_sysdir ↦ ChosenImage.torn_kept J F V bits k s j is b none ∙ sym (other b not_two not_sysdir)
    ]
  ]

  anchor_same : (b : ℕ) → is_anchor u b ≡ true → torn_at b ≡ u.at b
  anchor_same b anchor = elim (cases_eq b 2) [
    | inl two ↦ subst (λ c. torn_at c ≡ u.at c) (sym two) (ChosenImage.two_same J F V bits k s j is)
    | inr not_two ↦ elim (cases_eq b v.geo.sysdir) [
      | inl here ↦ subst (λ c. torn_at c ≡ u.at c) (sym here) (ChosenImage.sysdir_same J F V bits k s j is)
      | inr not_sysdir ↦ elim (cases_eq b j) [
        | inl own ↦ subst (λ c. torn_at c ≡ u.at c) (sym own) (ChosenImage.journal_same J F V bits k s j is)
        | inr not_journal ↦ unwritten_same b (ap (λ ws. writes_to ws b) (sym writes_alike) ∙ sound.anchor_not_written u s j can b anchor not_two (λ e. not_sysdir (e ∙ place)) not_journal)
      ]
    ]
  ]

  after_same : (b : ℕ) → bytes_after (committed_writes u s) b (torn_at b) ≡ bytes_after (committed_writes u s) b (u.at b)
  after_same b = elim (cases_Bool (writes_to (committed_writes u s) b)) [
    | inl written ↦ bytes_put (committed_writes u s) b (torn_at b) (u.at b) written
    | inr none ↦ ap (bytes_after (committed_writes u s) b) (unwritten_same b (ap (λ ws. writes_to ws b) (sym writes_alike) ∙ none))
  ]

  logged_alike : (b : ℕ) → (as_logged u).at b ≡ (as_logged v).at b
  logged_alike b =
      sound.logged_at u s j can b ∙ (ap (λ ws. bytes_after ws b (u.at b)) writes_alike ∙ (elim (cases_Bool (writes_to (committed_writes v s) b)) [
        | inl written ↦ bytes_put (committed_writes v s) b (u.at b) (v.at b) written
        | inr none ↦ ap (bytes_after (committed_writes v s) b) (sym (unwritten_same b none) ∙ ChosenImage.torn_kept J F V bits k s j is b none)
      ] ∙ sym (sound.logged_at v s j is.can b)))

  -- ---- names
  sysdir_anchor : is_anchor v v.geo.sysdir ≡ true
  sysdir_anchor = sound.directory_block_is_anchor v s j is.can v.geo.sysdir (directory_is_anchor v v.geo.sysdir)

  extents_here : (extents u v.geo.sysdir).faults ≡ []
  extents_here = subst (λ d. (extents u d).faults ≡ []) place (sound.directory_extents u s j can)

  -- the old directory
  old_names : u.at v.geo.sysdir ≡ v.at v.geo.sysdir → directory_entries u v.geo.sysdir ≡ directory_entries v v.geo.sysdir
  old_names old = entries_alike v u sizes v.geo.sysdir (record {
    same = λ b h. elim (cases_eq b v.geo.sysdir) [
      | inl here ↦ subst (λ c. u.at c ≡ v.at c) (sym here) old
      | inr not_sysdir ↦ other b (λ e. sound.directory_not_two v s j is.can b h (sym e)) not_sysdir
    ];
  }) (sound.directory_extents v s j is.can) extents_here

  -- the new one
  new_names : writes_to (committed_writes v s) v.geo.sysdir ≡ true → u.at v.geo.sysdir ≡ (as_logged v).at v.geo.sysdir → directory_entries (as_logged v) u.geo.sysdir ≡ directory_entries u u.geo.sysdir
  new_names written new = entries_alike u (as_logged v) (sizes_of_logged v u sizes) u.geo.sysdir (record {
    same = λ b h. elim (cases_eq b v.geo.sysdir) [
      | inl here ↦ subst (λ c. (as_logged v).at c ≡ u.at c) (sym here) (sym new)
      | inr not_sysdir ↦
          let none : writes_to (committed_writes v s) b ≡ false
          = ap (λ ws. writes_to ws b) (sym writes_alike) ∙ sound.anchor_not_written u s j can b (sound.directory_block_is_anchor u s j can b h)
          (λ e. sound.directory_not_two u s j can b h (sym e)) (λ e. not_sysdir (e ∙ place)) (sound.directory_not_journal u s j can b h) in
          sound.logged_at v s j is.can b ∙ (bytes_kept (committed_writes v s) b (v.at b) none ∙ (sym (ChosenImage.torn_kept J F V bits k s j is b none) ∙ unwritten_same b none))
    ];
  }) (sound.directory_extents u s j can)
      (subst (λ d. (extents (as_logged v) d).faults ≡ []) (sym place) (sound_extents (as_logged v) v.geo.sysdir (sound.directory_change v s j is.can written).0))

  -- ---- where each block is written once
  module _ (once : IsDistinct nat_eq (map (λ w. w.block) (committed_writes v s))) where
    logged_is : (w : LoggedBlock) (b : ℕ) → Contains (committed_writes v s) w → w.block ≡ b → (as_logged v).at b ≡ w.bytes
    logged_is w b inside at =
        ap (λ c. (as_logged v).at c) (sym at) ∙ (sound.logged_at v s j is.can w.block ∙ bytes_of_write (committed_writes v s) w (v.at w.block) once inside)

    name_now : (slot b : ℕ) → named_journal u slot ≡ Some b → IsNamed v slot b
    name_now slot b named = elim (ChosenImage.old_or_written J F V bits k s j is v.geo.sysdir sysdir_anchor is.directory) [
      | inl old ↦ inl (sym (inode_alike v u (OfSlot Journal slot) place (old_names old)) ∙ named)
      | inr put ↦
          let written : writes_to (committed_writes v s) v.geo.sysdir ≡ true
          = subst (λ c. writes_to (committed_writes v s) c ≡ true) put.2 (writes_there (committed_writes v s) put.0 put.1) in
          let new : u.at v.geo.sysdir ≡ (as_logged v).at v.geo.sysdir = put.3 ∙ sym (logged_is put.0 v.geo.sysdir put.1 put.2) in
          inr (inode_alike u (as_logged v) (OfSlot Journal slot) (logged_place v ∙ sym place) (new_names written new) ∙ named)
    ]

    later_names : writes_to (committed_writes v s) v.geo.sysdir ≡ true → directory_entries (as_logged u) v.geo.sysdir ≡ directory_entries (as_logged v) v.geo.sysdir
    later_names written =
        let also : writes_to (committed_writes u s) u.geo.sysdir ≡ true = ap (λ ws. writes_to ws u.geo.sysdir) writes_alike ∙ (ap (writes_to (committed_writes v s)) place ∙ written) in
        entries_alike (as_logged v) (as_logged u) (logged_sizes v u sizes) v.geo.sysdir (record { same = λ b h. logged_alike b })
        (sound_extents (as_logged v) v.geo.sysdir (sound.directory_change v s j is.can written).0)
        (subst (λ d. (extents (as_logged u) d).faults ≡ []) place (sound_extents (as_logged u) u.geo.sysdir (sound.directory_change u s j can also).0))

    name_later : (slot b : ℕ) → named_journal (as_logged u) slot ≡ Some b → IsNamed v slot b
    name_later slot b named = elim (cases_Bool (writes_to (committed_writes v s) v.geo.sysdir)) [
      | inr none ↦
          let also : writes_to (committed_writes u s) u.geo.sysdir ≡ false = ap (λ ws. writes_to ws u.geo.sysdir) writes_alike ∙ (ap (writes_to (committed_writes v s)) place ∙ none) in
          name_now slot b (sym (inode_alike u (as_logged u) (OfSlot Journal slot) (logged_place u) (sound.logged_entries_kept u s j can also)) ∙ named)
      | inl written ↦
          inr (sym (inode_alike (as_logged v) (as_logged u) (OfSlot Journal slot) (logged_place u ∙ (place ∙ sym (logged_place v)))
          (subst (λ d. directory_entries (as_logged u) d ≡ directory_entries (as_logged v) d) (sym (logged_place v)) (later_names written))) ∙ named)
    ]

    -- ---- marks
    torn_clean : (b : ℕ) → is_dirty v b ≡ false → is_dirty (as_logged v) b ≡ false → is_dirty (over u torn_at) b ≡ false
    torn_clean b now later =
        let zeroth : k * b + 0 ≡ k * b = omega arith in
        elim (old_or_put k (committed_writes v s) J V is.torn b 0 (omega (arith, is.some))) [
          | inl old ↦
              let same : number_at 0xb8 8 (torn_at b) ≡ number_at 0xb8 8 (v.at b)
              = subst (λ n. number_at 0xb8 8 (block_at n V b) ≡ number_at 0xb8 8 (block_at n J b)) (sym is.size)
              (first_number k V J b 0xb8 8 is.some (omega arith) (subst (λ n. sector V n ≡ sector J n) zeroth old)) in
              ap (λ n. has_bits n dirty_journal_flag) same ∙ now
          | inr put ↦
              let same : number_at 0xb8 8 (torn_at b) ≡ number_at 0xb8 8 put.write.bytes
              = subst (λ n. number_at 0xb8 8 (block_at n V b) ≡ number_at 0xb8 8 put.write.bytes) (sym is.size)
              (first_number_put k V b 0xb8 8 put.write.bytes is.some (omega arith) (ap (λ n. sector V n) (sym zeroth) ∙ put.bytes)) in
              ap (λ n. has_bits n dirty_journal_flag) (same ∙ ap (number_at 0xb8 8) (sym (logged_is put.write b put.inside put.at_block))) ∙ later
        ]

    chosen_clean : (b : ℕ) → is_dirty v b ≡ false → is_dirty (as_logged v) b ≡ false → is_dirty u b ≡ false
    chosen_clean b now later =
        let by_torn : torn_at b ≡ u.at b → is_dirty u b ≡ false
        = λ same. ap (λ bytes. has_bits (number_at 0xb8 8 bytes) dirty_journal_flag) (sym same) ∙ torn_clean b now later in
        elim (cases_eq b 2) [
          | inl two ↦ by_torn (subst (λ c. torn_at c ≡ u.at c) (sym two) (ChosenImage.two_same J F V bits k s j is))
          | inr not_two ↦ elim (cases_eq b v.geo.sysdir) [
            | inl here ↦ by_torn (subst (λ c. torn_at c ≡ u.at c) (sym here) (ChosenImage.sysdir_same J F V bits k s j is))
            | inr not_sysdir ↦ ap (λ bytes. has_bits (number_at 0xb8 8 bytes) dirty_journal_flag) (other b not_two not_sysdir) ∙ now
          ]
        ]

    -- Where no other inode that a journal's name tells is marked:
    module _ (clean : (slot b : ℕ) → IsCounted v slot → IsNamed v slot b → (b ≡ j → ⊥) → IsUnmarked v b) where
      -- a slot that the volume counts, or that a write does
      counted : (slot : ℕ) → IsCountedBy u s slot → IsCounted v slot
      counted slot (inr by_write) =
          let inside = subst (λ ws. Contains ws by_write.0) writes_alike by_write.1 in
          inr (subst (λ bytes. slot < slots_in bytes) (sym (logged_is by_write.0 2 inside by_write.2)) by_write.3)
      counted slot (inl low) = elim (ChosenImage.old_or_written J F V bits k s j is 2 (sound.first_block_is_anchor v s j is.can 2 refl) is.two) [
        | inl old ↦ inl (subst (λ bytes. slot < slots_in bytes) old low)
        | inr put ↦ inr (subst (λ bytes. slot < slots_in bytes) (put.3 ∙ sym (logged_is put.0 2 put.1 put.2)) low)
      ]

      marks : (slot b : ℕ) → IsCountedBy u s slot → IsNamed u slot b → (torn_at b ≡ u.at b) ⊎ ((is_dirty u b ≡ false) × (is_dirty (over u torn_at) b ≡ false))
      marks slot b count name = elim (cases_eq b j) [
        | inl own ↦ inl (subst (λ c. torn_at c ≡ u.at c) (sym own) (ChosenImage.journal_same J F V bits k s j is))
        | inr not_journal ↦
            let both = clean slot b (counted slot count) (⊎_elim (name_now slot b) (name_later slot b) name) not_journal in
            inr (chosen_clean b both.0 both.1, torn_clean b both.0 both.1)
      ]

      -- What a replay reads is the same.
      pub torn_reads : SameRead u s torn_at
      torn_reads = record { anchors = anchor_same; marks = marks; logged = after_same }

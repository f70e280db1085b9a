-- What a torn replay leaves of an image whose one dirty journal has a log of one write: the image, or the image with the write.
use Rattle.std.proofs.Common.{◌≡◌, ◌≢◌, ◌⊎◌, inl, inr, ⊎_elim, ℕ, ◌+◌, ◌-◌, ◌<◌, true, false, ◌&&◌, nat_le, nat_lt, ◌==◌, List, [], ◌∷◌, ◌++◌, length, refl, sym, ◌∙◌, ap, subst, arith, Option, Some}
use Rattle.std.specs.Prelude.{flat_map}
use Rattle.std.specs.List.{list_any}
use Rattle.std.proofs.lemmas.Bool.{cases_eq, and_parts, or_cases, or_left, false≢true, eqb-true, leb-true, ltb-true, le-leb, lt-ltb}
use Rattle.std.proofs.lemmas.List.{take_all}
use Rattle.std.proofs.lemmas.Slice.Eq.{bytes_eq-Decides}
use Rattle.o2_disk.specs.Image.{Image, sector, sectors_in, piece, block_at}
use Rattle.o2_disk.proofs.Images.{same_image, bytes_from-same}
use Rattle.std.specs.Option.{option_map_or}
use Rattle.o2_model.specs.Words.{among}
use Rattle.o2_model.specs.Dirty.{committed_writes, all_committed_writes, slot_journal}
use Rattle.o2_model.specs.Logs.{LoggedBlock}
use Rattle.o2_model.specs.Replay.{first_sector}
use Rattle.o2_model.specs.TornReplays.{puts_sector, may_put, dirty_journals, IsTornReplay, IsPartialReplay}
use Rattle.o2_cases_volumes.specs.WholeVolume.{on_device, volume_with}
use Rattle.o2_replay_cases.specs.WholeImages.{image_with}
use Rattle.o2_replay_cases.proofs.Fullness.{full_blocks}
use Rattle.o2_replay_cases.proofs.VolumesOfImages.{length-image_with, sector-image_with, opened-image_with}
use Rattle.o2_replay_cases.proofs.OneWriteReplays.{IsReplayed, sector-is}

-- ---- the write
whole_piece : (bytes : List ℕ) → length bytes ≡ 512 → piece bytes 0 ≡ bytes
whole_piece bytes full = take_all 512 bytes (omega (arith, full))

-- a write of one sector puts its bytes there
put_there : (target s : ℕ) (bytes new : List ℕ) → length bytes ≡ 512 → puts_sector 512 s new (record { block = target; bytes = bytes }) ≡ true → (s ≡ target) × (new ≡ bytes)
put_there target s bytes new full h =
    let both = and_parts (nat_le (first_sector 512 target) s && nat_lt s (first_sector 512 target + sectors_in bytes)) _ h in
    let bounds = and_parts (nat_le (first_sector 512 target) s) (nat_lt s (first_sector 512 target + sectors_in bytes)) both.0 in
    let low = leb-true _ _ bounds.0 in
    let high = ltb-true _ _ bounds.1 in
    let at : s ≡ target = omega (arith, low, high, sector-is target, full) in
    let none : s - first_sector 512 target ≡ 0 = omega (arith, at, sector-is target) in
    (at, (bytes_eq-Decides new (piece bytes (s - first_sector 512 target))).0 both.1 ∙ (ap (piece bytes) none ∙ whole_piece bytes full))

-- and it does put them there
puts : (target s : ℕ) (bytes new : List ℕ) → length bytes ≡ 512 → s ≡ target → new ≡ bytes → puts_sector 512 s new (record { block = target; bytes = bytes }) ≡ true
puts target s bytes new full at same =
    let low : nat_le (first_sector 512 target) s ≡ true = le-leb _ _ (omega (arith, at, sector-is target)) in
    let high : nat_lt s (first_sector 512 target + sectors_in bytes) ≡ true = lt-ltb _ _ (omega (arith, at, sector-is target, full)) in
    let none : s - first_sector 512 target ≡ 0 = omega (arith, at, sector-is target) in
    let equal = (bytes_eq-Decides new (piece bytes (s - first_sector 512 target))).1 (same ∙ sym (ap (piece bytes) none ∙ whole_piece bytes full)) in
    rw (low, high, equal) refl

module _ (blocks after : ℕ → List ℕ) (journal target : ℕ) (is : IsReplayed blocks after journal target) where
  all_writes : all_committed_writes (volume_with blocks) ≡ record { block = target; bytes = on_device after target } ∷ []
  unfolding all_committed_writes
  all_writes = ap (flat_map (committed_writes (volume_with blocks))) is.one.slots ∙ ap (λ (ws : List LoggedBlock). ws ++ []) is.one.writes

  may_be : (s : ℕ) (new : List ℕ) → may_put (volume_with blocks) s new ≡ true → (s ≡ target) × (new ≡ on_device after target)
  may_be s new h =
      let one = sym (ap (list_any (puts_sector 512 s new)) all_writes) ∙ h in
      ⊎_elim (λ put. put_there target s (on_device after target) new (full_blocks after is.later.full target is.target_there) put) (λ none. absurd (false≢true none))
      (or_cases (puts_sector 512 s new (record { block = target; bytes = on_device after target })) false one)

  -- each sector of a torn replay
  old_or_new : (V : Image) → IsTornReplay (image_with blocks) (volume_with blocks) V → (s : ℕ) → s < 128
      → (sector V s ≡ on_device blocks s) ⊎ ((s ≡ target) × (sector V s ≡ on_device after target))
  old_or_new V torn s low =
      ⊎_elim (λ old. inl (old ∙ sector-image_with blocks s low)) (λ put. inr (may_be s (sector V s) put)) (torn.each s (rw (length-image_with blocks) low))

  -- The image stopped behind the write, where these are its blocks.
  module _ (stopped : ℕ → List ℕ) (write : on_device stopped target ≡ on_device after target) (rest : (s : ℕ) → s ≢ target → on_device stopped s ≡ on_device blocks s) where
    image_kept : (V : Image) → IsTornReplay (image_with blocks) (volume_with blocks) V → sector V target ≡ on_device blocks target → V ≡ image_with blocks
    image_kept V torn kept = same_image V (image_with blocks) torn.size (λ s low.
        let within : s < 128 = subst (λ n. s < n) (torn.size ∙ length-image_with blocks) low in
        ⊎_elim (λ old. old ∙ sym (sector-image_with blocks s within))
        (λ put. subst (λ n. sector V n ≡ sector (image_with blocks) n) (sym put.0) (kept ∙ sym (sector-image_with blocks target is.target_there)))
        (old_or_new V torn s within))

    image_written : (V : Image) → IsTornReplay (image_with blocks) (volume_with blocks) V → sector V target ≡ on_device after target → V ≡ image_with stopped
    image_written V torn new = same_image V (image_with stopped) (torn.size ∙ (length-image_with blocks ∙ sym (length-image_with stopped))) (λ s low.
        let within : s < 128 = subst (λ n. s < n) (torn.size ∙ length-image_with blocks) low in
        elim (cases_eq s target) [
          | inl at ↦ subst (λ n. sector V n ≡ sector (image_with stopped) n) (sym at) (new ∙ (sym write ∙ sym (sector-image_with stopped target is.target_there)))
          | inr other ↦ ⊎_elim
              (λ old. old ∙ (sym (rest s other) ∙ sym (sector-image_with stopped s within)))
              (λ put. absurd (other put.0)) (old_or_new V torn s within)
        ])

    torn_is : (V : Image) → IsTornReplay (image_with blocks) (volume_with blocks) V → (V ≡ image_with blocks) ⊎ (V ≡ image_with stopped)
    torn_is V torn = ⊎_elim (λ old. inl (image_kept V torn old)) (λ put. inr (image_written V torn put.1)) (old_or_new V torn target is.target_there)

    -- A torn replay leaves the image as it is, or with the write.
    pub partial_is : (V : Image) → IsPartialReplay (image_with blocks) V → (V ≡ image_with blocks) ⊎ (V ≡ image_with stopped)
    partial_is V part =
        let same : part.volume ≡ volume_with blocks = let e : Some part.volume ≡ Some (volume_with blocks) = sym part.is_opened ∙ opened-image_with blocks is.before in cc in
        torn_is V (subst (λ v. IsTornReplay (image_with blocks) v V) same part.torn)

    -- ---- and it may leave the image with the write
    written_put : (s : ℕ) (new : List ℕ) → s ≡ target → new ≡ on_device after target → may_put (volume_with blocks) s new ≡ true
    written_put s new at write =
        ap (list_any (puts_sector 512 s new)) all_writes
        ∙ or_left _ _ (puts target s (on_device after target) new (full_blocks after is.later.full target is.target_there) at write)

    each_put : (s : ℕ) → s < length (image_with blocks) → (sector (image_with stopped) s ≡ sector (image_with blocks) s) ⊎ (may_put (volume_with blocks) s (sector (image_with stopped) s) ≡ true)
    each_put s low =
        let within : s < 128 = subst (λ n. s < n) (length-image_with blocks) low in
        let now = sector-image_with stopped s within in
        elim (cases_eq s target) [
          | inl at ↦ inr (written_put s (sector (image_with stopped) s) at (now ∙ (ap (on_device stopped) at ∙ write)))
          | inr other ↦ inl (now ∙ (rest s other ∙ sym (sector-image_with blocks s within)))
        ]

    one_journal : dirty_journals (volume_with blocks) ≡ journal ∷ []
    one_journal =
        ap (flat_map (λ s. option_map_or (λ b. b ∷ []) (slot_journal (volume_with blocks) s) [])) is.one.slots
        ∙ ap (λ (o : Option ℕ). option_map_or (λ b. b ∷ []) o [] ++ []) is.one.named

    journal_kept : (b : ℕ) → among (dirty_journals (volume_with blocks)) b ≡ true → block_at 512 (image_with stopped) b ≡ block_at 512 (image_with blocks) b
    journal_kept b dirty =
        let one = sym (ap (λ bs. among bs b) one_journal) ∙ dirty in
        let at : b ≡ journal = ⊎_elim (λ same. eqb-true b journal same) (λ none. absurd (false≢true none)) (or_cases (b == journal) false one) in
        let same : sector (image_with stopped) journal ≡ sector (image_with blocks) journal =
        sector-image_with stopped journal is.journal_there ∙ (rest journal is.apart ∙ sym (sector-image_with blocks journal is.journal_there)) in
        bytes_from-same (image_with stopped) (image_with blocks) b (subst (λ n. sector (image_with stopped) n ≡ sector (image_with blocks) n) (sym at) same)

    pub partial_of : IsPartialReplay (image_with blocks) (image_with stopped)
    partial_of = record {
      volume = volume_with blocks;
      is_opened = opened-image_with blocks is.before;
      torn = record { size = length-image_with stopped ∙ sym (length-image_with blocks); each = each_put; own = journal_kept };
    }

-- The replay of an image whose one dirty journal has a log of one write.
use Rattle.std.proofs.Common.{◌≡◌, ◌≢◌, inl, inr, ℕ, ◌<◌, List, length, sym, ◌∙◌, ap, subst, arith}
use Rattle.std.specs.Prelude.{fold}
use Rattle.std.specs.Option.{option_map_or}
use Rattle.std.proofs.lemmas.Bool.{cases_eq}
use Rattle.o2_disk.specs.Image.{Image, sector, written, block_at}
use Rattle.o2_disk.proofs.Images.{same_image, length-written, read_back, other_one, bytes_from-same}
use Rattle.o2_model.specs.Dirty.{slot_journal}
use Rattle.o2_model.specs.Logs.{LoggedBlock}
use Rattle.o2_model.specs.Replay.{as_clean, first_sector, with_block, with_clean_journal, replay_slot, replay_all, replayed}
use Rattle.o2_cases_volumes.specs.WholeVolume.{on_device, volume_with}
use Rattle.o2_replay_cases.specs.WholeImages.{HasOneWrite, IsVolume, image_with}
use Rattle.o2_replay_cases.proofs.Fullness.{full_blocks}
use Rattle.o2_replay_cases.proofs.VolumesOfImages.{length-image_with, sector-image_with, block_at-image_with, opened-image_with}

-- The blocks and those after the replay: the journal's dinode and one other block are all that changes.
pub record IsReplayed (blocks after : ℕ → List ℕ) (journal target : ℕ) : Type 0 where
  pub before : IsVolume blocks
  pub later : IsVolume after
  pub one : HasOneWrite blocks after journal target
  pub journal_there : journal < 128
  pub target_there : target < 128
  pub apart : journal ≢ target
  pub others : (s : ℕ) → s ≢ journal → s ≢ target → on_device after s ≡ on_device blocks s

-- the first sector of a block
pub sector-is : (b : ℕ) → first_sector 512 b ≡ b
sector-is b = omega arith

module _ (blocks after : ℕ → List ℕ) (journal target : ℕ) (is : IsReplayed blocks after journal target) where
  -- the write is put
  put : Image
  put = written (image_with blocks) target (on_device after target)

  cleaned_image : Image
  cleaned_image = written put journal (on_device after journal)

  full_target : length (on_device after target) ≡ 512
  full_target = full_blocks after is.later.full target is.target_there

  full_journal : length (on_device after journal) ≡ 512
  full_journal = full_blocks after is.later.full journal is.journal_there

  length-put : length put ≡ 128
  unfolding put
  length-put = length-written (image_with blocks) target (on_device after target) ∙ length-image_with blocks

  length-cleaned : length cleaned_image ≡ 128
  unfolding cleaned_image
  length-cleaned = length-written put journal (on_device after journal) ∙ length-put

  journal_read : block_at 512 put journal ≡ on_device blocks journal
  unfolding put
  journal_read =
      bytes_from-same put (image_with blocks) journal (other_one (image_with blocks) target (on_device after target) journal full_target is.apart)
      ∙ block_at-image_with blocks is.before journal

  sector_after : (s : ℕ) → s < 128 → sector cleaned_image s ≡ on_device after s
  unfolding cleaned_image put
  sector_after s low = elim (cases_eq s journal) [
    | inl same ↦ subst (λ n. sector cleaned_image n ≡ on_device after n) (sym same) (read_back put journal (on_device after journal) full_journal (rw length-put is.journal_there))
    | inr other ↦
        other_one put journal (on_device after journal) s full_journal other
        ∙ elim (cases_eq s target) [
          | inl same ↦ subst (λ n. sector put n ≡ on_device after n) (sym same) (read_back (image_with blocks) target (on_device after target) full_target (rw (length-image_with blocks) is.target_there))
          | inr third ↦
              other_one (image_with blocks) target (on_device after target) s full_target third
              ∙ (sector-image_with blocks s low ∙ sym (is.others s other third))
        ]
  ]

  cleaned-is : cleaned_image ≡ image_with after
  cleaned-is = same_image cleaned_image (image_with after) (length-cleaned ∙ sym (length-image_with after))
      (λ s low. let within : s < 128 = subst (λ n. s < n) length-cleaned low in sector_after s within ∙ sym (sector-image_with after s within))

  put-is : with_block 512 (image_with blocks) (record { block = target; bytes = on_device after target }) ≡ put
  unfolding put
  put-is = ap (λ at. written (image_with blocks) at (on_device after target)) (sector-is target)

  clean-is : with_clean_journal 512 put journal ≡ cleaned_image
  unfolding cleaned_image
  clean-is =
      ap (λ at. written put at (as_clean (block_at 512 put journal))) (sector-is journal)
      ∙ ap (written put journal) (ap as_clean journal_read ∙ is.one.cleaned)

  slot_replayed : replay_slot (volume_with blocks) (image_with blocks) 0 ≡ cleaned_image
  slot_replayed =
      let v = volume_with blocks in
      ap (λ (ws : List LoggedBlock). let J = fold (with_block 512) (image_with blocks) ws in option_map_or (with_clean_journal 512 J) (slot_journal v 0) J) is.one.writes
      ∙ (ap (λ J. option_map_or (with_clean_journal 512 J) (slot_journal v 0) J) put-is
      ∙ (ap (λ o. option_map_or (with_clean_journal 512 put) o put) is.one.named ∙ clean-is))

  -- The replay leaves the blocks of after.
  pub replayed-is : replayed (image_with blocks) ≡ image_with after
  unfolding replayed
  replayed-is =
      ap (λ o. option_map_or (replay_all (image_with blocks)) o (image_with blocks)) (opened-image_with blocks is.before)
      ∙ (ap (fold (replay_slot (volume_with blocks)) (image_with blocks)) is.one.slots
      ∙ (slot_replayed ∙ cleaned-is))

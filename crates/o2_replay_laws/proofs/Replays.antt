-- A torn replay leaves an image with nothing dirty as it is, and a replay keeps the number of sectors.
use Rattle.std.proofs.Common.{◌≡◌, ⊎_elim, ℕ, ◌<◌, true, List, [], ◌∷◌, length, refl, sym, ◌∙◌, ap, subst, ext_get_or, Option, Some, None}
use Rattle.std.specs.Prelude.{fold}
use Rattle.std.specs.List.{list_any}
use Rattle.std.specs.Option.{option_map_or}
use Rattle.std.proofs.lemmas.Bool.{false≢true}
use Rattle.o2_disk.specs.Image.{Image, sector, block_at}
use Rattle.o2_disk.proofs.Images.{length-written}
use Rattle.o2_model.specs.Volume.{Volume, block_size, opened}
use Rattle.o2_model.specs.Logs.{LoggedBlock}
use Rattle.o2_model.specs.Dirty.{slot_journal, dirty_slots, committed_writes, all_committed_writes}
use Rattle.o2_model.specs.Replay.{replay_slot, replay_all, replayed, with_block, first_sector, as_clean, with_clean_journal}
use Rattle.o2_model.specs.TornReplays.{may_put, puts_sector, IsTornReplay, IsPartialReplay}
use Rattle.o2_laws.proofs.NothingDirty.{none_committed}

-- ---- no variants
-- what no write puts
not_put : (v : Volume) (s : ℕ) (bytes : List ℕ) → all_committed_writes v ≡ [] → may_put v s bytes ≡ true → ⊥
not_put v s bytes none put = absurd (false≢true (sym (ap (λ (ws : List LoggedBlock). list_any (puts_sector (block_size v) s bytes) ws) none) ∙ put))

torn_same : (I V : Image) (v : Volume) → dirty_slots v ≡ [] → IsTornReplay I v V → V ≡ I
torn_same I V v none torn =
    ext_get_or [] V I torn.size (λ s low.
    ⊎_elim (λ same. same) (λ put. absurd (not_put v s (sector V s) (none_committed v none) put)) (torn.each s (subst (λ n. s < n) torn.size low)))

-- An image with nothing dirty is left as it is by a torn replay.
pub no_variant : (I V : Image) (v : Volume) → opened I ≡ Some v → dirty_slots v ≡ [] → IsPartialReplay I V → V ≡ I
no_variant I V v is none part =
    let same : v ≡ part.volume = let e : Some v ≡ Some part.volume = sym is ∙ part.is_opened in cc in
    torn_same I V part.volume (subst (λ u. dirty_slots u ≡ []) same none) part.torn

-- ---- lengths
length-writes : (size : ℕ) (ws : List LoggedBlock) (I : Image) → length (fold (with_block size) I ws) ≡ length I
length-writes size [] I = refl
length-writes size (w ∷ ws) I = length-writes size ws (with_block size I w) ∙ length-written I (first_sector size w.block) w.bytes

length-clean : (v : Volume) (I : Image) (o : Option ℕ) → length (option_map_or (with_clean_journal (block_size v) I) o I) ≡ length I
length-clean v I None = refl
length-clean v I (Some b) = length-written I (first_sector (block_size v) b) (as_clean (block_at (block_size v) I b))

length-slots : (v : Volume) (ss : List ℕ) (I : Image) → length (fold (replay_slot v) I ss) ≡ length I
length-slots v [] I = refl
length-slots v (s ∷ ss) I =
    length-slots v ss (replay_slot v I s)
    ∙ (length-clean v (fold (with_block (block_size v)) I (committed_writes v s)) (slot_journal v s)
    ∙ length-writes (block_size v) (committed_writes v s) I)

length-opened : (I : Image) (o : Option Volume) → length (option_map_or (replay_all I) o I) ≡ length I
length-opened I None = refl
length-opened I (Some v) = length-slots v (dirty_slots v) I

-- A replay keeps the number of sectors.
pub length-replayed : (I : Image) → length (replayed I) ≡ length I
unfolding replayed
length-replayed I = length-opened I (opened I)

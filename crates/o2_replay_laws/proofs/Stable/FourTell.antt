-- Where four images can be replayed, each image that a torn replay leaves can be replayed.
use Rattle.std.proofs.Common.{◌≡◌, ◌≢◌, inl, inr, ⊎_elim, ℕ, ◌*◌, ◌-◌, ◌^◌, ◌<◌, ◌≤◌, Bool, true, false, [], ◌∷◌, ◌++◌, length, refl, sym, ◌∙◌, ap, subst, arith, Option, Some, None}
use Rattle.std.specs.Prelude.{flat_map, drop}
use Rattle.std.specs.List.{list_any, Contains}
use Rattle.std.specs.Option.{option_map_or, option_and_then}
use Rattle.std.proofs.lemmas.Bool.{cases_eq}
use Rattle.o2_ondisk.specs.Number.{number_at}
use Rattle.o2_ondisk.specs.Super.{super_of}
use Rattle.o2_disk.specs.Image.{Image, sector, piece, block_at}
use Rattle.o2_model.specs.Words.{among}
use Rattle.o2_model.specs.Superblock.{superblock, cluster_count, superblock_bits, has_super, block_sizes}
use Rattle.o2_model.specs.Features.{unsupported_in, unsupported_feature}
use Rattle.o2_model.specs.Volume.{Volume, over, block_size, volume_of}
use Rattle.o2_model.specs.Logs.{LoggedBlock}
use Rattle.o2_model.specs.Dirty.{dirty_slots, slot_journal, committed_writes, all_committed_writes}
use Rattle.o2_model.specs.TornReplays.{puts_sector, dirty_journals, IsTornReplay}
use Rattle.o2_model.specs.Replay.{replayed, first_sector}
use Rattle.o2_model.specs.Recoverable.{IsReplayable, IsReplayStable}
use Rattle.o2_replay_laws.specs.FourImages.{with_sectors, sector_of_super, sector_of_sysdir, HasOneLog, AreFourReplayable}
use Rattle.o2_laws.proofs.Geometries.{found_bits, opened_at, opened_of}
use Rattle.o2_laws.proofs.SameSuperblock.{found_one, superblock_same}
use Rattle.o2_model.proofs.SuperSector.{size-is, some_sectors}
use Rattle.o2_laws.proofs.Failing.{volume_of-over}
use Rattle.o2_replay_laws.proofs.Stable.SameDirectory.{among_first}
use Rattle.o2_replay_laws.proofs.Stable.CanReplay as sound
use Rattle.o2_replay_laws.proofs.Stable.SameRead as read
use Rattle.o2_replay_laws.proofs.Stable.WholeWrites.{whole_writes}
use Rattle.o2_replay_laws.proofs.Stable.TornBlocks.{length-block, IsTornBy, blocks_apart}
use Rattle.o2_replay_laws.proofs.Stable.ChosenImage.{IsChosen, chosen_bits, two_same}
use Rattle.o2_replay_laws.proofs.Stable.ChosenVolume.{torn_reads}
use Rattle.o2_replay_laws.proofs.Stable.ReplayedSectors.{first_sector_is, sector_replayed}
use Rattle.o2_replay_laws.proofs.Stable.Choice.{Pick, chosen, pick_first, with_none, length-with_sectors, picked_first, picked_second, picked_other}

-- ---- what is opened
pub least_bits : (I : Image) (bits : ℕ) → superblock_bits I ≡ Some bits → 9 ≤ bits
unfolding superblock_bits
least_bits I bits found = found_one (λ n. 9 ≤ n) (has_super I) block_sizes bits (omega arith, (omega arith, (omega arith, (omega arith, tt)))) found

-- ---- journals
journals_are : (v : Volume) (s j : ℕ) → dirty_slots v ≡ s ∷ [] → slot_journal v s ≡ Some j → dirty_journals v ≡ j ∷ []
journals_are v s j slots journal = rw (slots, journal) refl

journal_is : (v : Volume) (s j : ℕ) → dirty_slots v ≡ s ∷ [] → dirty_journals v ≡ j ∷ [] → slot_journal v s ≡ Some j
journal_is v s j slots journals =
    go (slot_journal v s) (sym (ap (flat_map (λ slot. option_map_or (λ b. b ∷ []) (slot_journal v slot) [])) slots) ∙ journals)
  where
    go : (o : Option ℕ) → option_map_or (λ b. b ∷ []) o [] ++ [] ≡ j ∷ [] → o ≡ Some j
    go None h = cc
    go (Some b) h = cc

few : (b : ℕ) → b ≤ 2 → among (0 ∷ 1 ∷ 2 ∷ []) b ≡ true
few b low = elim (cases_eq b 0) [
  | inl none ↦ rw none refl
  | inr some ↦ elim (cases_eq b 1) [
    | inl one ↦ rw one refl
    | inr more ↦ let two : b ≡ 2 = omega (arith, low, some, more) in rw two refl
  ]
]

-- an image that can be replayed has a volume that can
can_of : (v : Volume) (s j : ℕ) (F : Image) (bits : ℕ) → dirty_slots v ≡ s ∷ [] → slot_journal v s ≡ Some j → superblock_bits F ≡ Some bits → IsReplayable v F → sound.CanReplay (volume_of F bits) s j
can_of v s j F bits slots journal found h =
    let same : h.volume ≡ volume_of F bits = let e : Some h.volume ≡ Some (volume_of F bits) = sym h.is_opened ∙ opened_of F bits found in cc in
    let one = h.same_slots ∙ slots in
    subst (λ u. sound.CanReplay u s j) same (record {
      slots = one;
      journal = journal_is h.volume s j one (h.same_journals ∙ journals_are v s j slots journal);
      sound_super = h.sound_super;
      sound_sysdir = h.sound_sysdir;
      no_journal_fault = h.no_journal_fault;
      no_log_fault = h.no_log_fault;
      apart = h.anchors_apart s (rw one (among_first s []));
    })

-- ---- one volume
module _ (I : Image) (bits s j : ℕ) (found : superblock_bits I ≡ Some bits) (one : HasOneLog I (volume_of I bits) s j) (four : AreFourReplayable I (volume_of I bits)) where
  abbrev v : Volume
  v = volume_of I bits

  k : ℕ
  k = 2 ^ (bits - 9)

  size : 2 ^ bits ≡ 512 * k
  unfolding k
  size = size-is bits (least_bits I bits found)

  some : 1 ≤ k
  unfolding k
  some = some_sectors bits (least_bits I bits found)

  size_of_blocks : block_size v ≡ 2 ^ bits
  size_of_blocks = ap (λ n. 2 ^ n) (found_bits I bits found)

  can : sound.CanReplay v s j
  can = can_of v s j I bits one.one_slot one.its_journal found four.neither

  -- the four images
  super_place : sector_of_super v ≡ k * 2
  super_place = ap (λ n. first_sector n 2) (size_of_blocks ∙ size) ∙ first_sector_is k 2

  sysdir_place : sector_of_sysdir v ≡ k * v.geo.sysdir
  sysdir_place = ap (λ n. first_sector n v.geo.sysdir) (size_of_blocks ∙ size) ∙ first_sector_is k v.geo.sysdir

  each_of_four : (x y : Bool) → IsReplayable v (with_sectors (chosen (k * 2) (k * v.geo.sysdir) x y) (replayed I) I)
  each_of_four true true = rw (← super_place, ← sysdir_place) four.with_both
  each_of_four true false = rw (← super_place) four.with_super
  each_of_four false true = rw (← sysdir_place) four.with_sysdir
  each_of_four false false = rw (with_none (replayed I) I) four.neither

  whole : (w : LoggedBlock) → Contains (committed_writes v s) w → length w.bytes ≡ 512 * k
  whole w inside =
      let enough : 4 ≤ block_size v = omega (arith, size_of_blocks, size, some) in
      whole_writes v s j one.its_journal (sound.usable v s j can) (λ b. length-block (2 ^ bits) I b ∙ sym size_of_blocks) enough w inside ∙ (size_of_blocks ∙ size)

  module _ (V : Image) (torn : IsTornReplay I v V) where
    torn_by : IsTornBy k (committed_writes v s) I V
    torn_by = record {
      size = torn.size;
      whole = whole;
      each = λ n there. ⊎_elim (λ old. inl old) (λ put. inr (
          ap (λ ws. list_any (puts_sector (512 * k) n (sector V n)) ws) (sym (sound.all_writes v s j can))
          ∙ (ap (λ b. list_any (puts_sector b n (sector V n)) (all_committed_writes v)) (sym (size_of_blocks ∙ size)) ∙ put))) (torn.each n there);
    }

    pick : (b : ℕ) → (b ≡ j → ⊥) → Pick I (replayed I) V (k * b)
    pick b apart = pick_first k (committed_writes v s) I (replayed I) V some torn_by b (λ w inside at there.
        subst (λ c. sector (replayed I) (k * c) ≡ piece w.bytes 0) at
        (sector_replayed I v s j k (opened_of I bits found) one.one_slot one.its_journal (size_of_blocks ∙ size) some whole one.once w inside
        (λ e. apart (sym at ∙ e)) (subst (λ c. k * c < length I) (sym at) there)))

    first : Pick I (replayed I) V (k * 2)
    first = pick 2 (sound.two_not_journal v s j can)

    second : Pick I (replayed I) V (k * v.geo.sysdir)
    second = pick v.geo.sysdir (sound.sysdir_not_journal v s j can)

    apart : k * 2 ≢ k * v.geo.sysdir
    apart same = sound.two_not_sysdir v s j can (blocks_apart k 2 v.geo.sysdir 0 0 (omega (arith, some)) (omega (arith, some)) (omega (arith, same)))

    abbrev F : Image
    F = with_sectors (chosen (k * 2) (k * v.geo.sysdir) first.is_new second.is_new) (replayed I) I

    length_same : length V ≡ length F
    length_same = torn.size ∙ sym (length-with_sectors (chosen (k * 2) (k * v.geo.sysdir) first.is_new second.is_new) (replayed I) I)

    is : IsChosen I F V bits k s j
    is = record {
      found = found;
      size = size;
      some = some;
      can = can;
      torn = torn_by;
      own = subst (λ n. block_at n V j ≡ block_at n I j) size_of_blocks (torn.own j (ap (λ ns. among ns j) (journals_are v s j one.one_slot one.its_journal) ∙ among_first j []));
      length_same = length-with_sectors (chosen (k * 2) (k * v.geo.sysdir) first.is_new second.is_new) (replayed I) I;
      two = picked_first I (replayed I) V (k * 2) (k * v.geo.sysdir) apart torn.size first second;
      directory = picked_second I (replayed I) V (k * 2) (k * v.geo.sysdir) apart torn.size first second;
      others = picked_other I (replayed I) V (k * 2) (k * v.geo.sysdir) apart torn.size first second;
    }

    chosen_can : sound.CanReplay (volume_of F bits) s j
    chosen_can = can_of v s j F bits one.one_slot one.its_journal (chosen_bits I F V bits k s j is) (each_of_four first.is_new second.is_new)

    reads : read.SameRead (volume_of F bits) s (block_at (2 ^ bits) V)
    reads = torn_reads I F V bits k s j is chosen_can one.once one.others_clean

    same_volume : volume_of V bits ≡ over (volume_of F bits) (block_at (2 ^ bits) V)
    same_volume = volume_of-over F V bits length_same (two_same I F V bits k s j is)

    torn_bits : superblock_bits V ≡ Some bits
    torn_bits = superblock_same F V bits (chosen_bits I F V bits k s j is) length_same (λ b low.
        reads.anchors b (sound.first_block_is_anchor (volume_of F bits) s j chosen_can b (few b low)))

    torn_can : sound.CanReplay (volume_of V bits) s j
    torn_can = subst (λ u. sound.CanReplay u s j) (sym same_volume) (read.can_replay_same (volume_of F bits) s j chosen_can (block_at (2 ^ bits) V) reads)

    supported : unsupported_feature V ≡ None
    supported =
        ap (option_and_then (λ n. unsupported_in (superblock V n) (cluster_count V n))) torn_bits
        ∙ (ap (λ bytes. unsupported_in (super_of (drop 0xc0 bytes)) (number_at 0x14 4 bytes)) (two_same I F V bits k s j is)
        ∙ (sym (ap (option_and_then (λ n. unsupported_in (superblock F n) (cluster_count F n))) (chosen_bits I F V bits k s j is)) ∙ (each_of_four first.is_new second.is_new).supported))

    pub torn_replayable : IsReplayable v V
    torn_replayable = record {
      volume = volume_of V bits;
      is_opened = opened_of V bits torn_bits;
      supported = supported;
      sound_super = torn_can.sound_super;
      sound_sysdir = torn_can.sound_sysdir;
      no_journal_fault = torn_can.no_journal_fault;
      no_log_fault = torn_can.no_log_fault;
      anchors_apart = λ slot dirty. torn_can.apart;
      same_slots = torn_can.slots ∙ sym one.one_slot;
      same_journals = journals_are (volume_of V bits) s j torn_can.slots torn_can.journal ∙ sym (journals_are v s j one.one_slot one.its_journal);
    }

-- ---- the law
by_bits : (I : Image) (v : Volume) (s j : ℕ) → HasOneLog I v s j → AreFourReplayable I v → (V : Image) → IsTornReplay I v V → IsReplayable v V
by_bits I v s j one four V torn =
    let at = opened_at I v one.is_opened in
    let moved : HasOneLog I (volume_of I at.0) s j → AreFourReplayable I (volume_of I at.0) → IsTornReplay I (volume_of I at.0) V → IsReplayable (volume_of I at.0) V
    = λ o f t. torn_replayable I at.0 s j at.1 o f V t in
    subst (λ u. HasOneLog I u s j → AreFourReplayable I u → IsTornReplay I u V → IsReplayable u V) at.2 moved one four torn

-- Four images tell whether a replay may be stopped and started again.
pub four_tell : (I : Image) (v : Volume) (s j : ℕ) → HasOneLog I v s j → AreFourReplayable I v → IsReplayStable I
four_tell I v s j one four = record {
  volume = v;
  is_opened = one.is_opened;
  each = λ V part.
      let same : part.volume ≡ v = let e : Some part.volume ≡ Some v = sym part.is_opened ∙ one.is_opened in cc in
      by_bits I v s j one four V (subst (λ u. IsTornReplay I u V) same part.torn);
}

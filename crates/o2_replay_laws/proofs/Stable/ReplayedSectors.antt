-- The first sector of a block that the log writes, as the replay leaves it.
use Rattle.std.proofs.Common.{◌≡◌, inl, inr, ℕ, ◌+◌, ◌-◌, ◌*◌, ◌<◌, ◌≤◌, List, [], ◌∷◌, map, length, refl, sym, ◌∙◌, ap, subst, arith, Some}
use Rattle.std.specs.Prelude.{fold, nat_eq}
use Rattle.std.specs.List.{Contains, IsDistinct}
use Rattle.std.specs.Option.{option_map_or}
use Rattle.o2_ondisk.proofs.TableLaws.{length-put_at}
use Rattle.o2_disk.specs.Image.{Image, sector, piece, block_at}
use Rattle.o2_disk.proofs.Images.{length-written, sector-written_in, sector-written_other}
use Rattle.o2_model.specs.Volume.{Volume, block_size, opened}
use Rattle.o2_model.specs.Logs.{LoggedBlock}
use Rattle.o2_model.specs.Dirty.{dirty_slots, slot_journal, committed_writes}
use Rattle.o2_model.specs.Replay.{first_sector, with_block, as_clean, with_clean_journal, replay_slot, replay_all, replayed}
use Rattle.o2_laws.proofs.Found.{contains_first, contains_later}
use Rattle.o2_laws.proofs.Members.{contains_cases}
use Rattle.o2_replay_laws.proofs.Stable.Written.{first_apart, among_blocks}
use Rattle.o2_replay_laws.proofs.Stable.TornBlocks.{blocks_apart, length-block}

pub first_sector_is : (k b : ℕ) → first_sector (512 * k) b ≡ k * b
first_sector_is k b = omega arith

-- ---- one write
module _ (k : ℕ) (some : 1 ≤ k) (I : Image) (w : LoggedBlock) (whole : length w.bytes ≡ 512 * k) where
  with_block_here : k * w.block < length I → sector (with_block (512 * k) I w) (k * w.block) ≡ piece w.bytes 0
  with_block_here there =
      let start = first_sector_is k w.block in
      let none : k * w.block - first_sector (512 * k) w.block ≡ 0 = omega (arith, start) in
      sector-written_in I (first_sector (512 * k) w.block) w.bytes (k * w.block) (omega (arith, start), omega (arith, start, whole, some)) there ∙ ap (piece w.bytes) none

  with_block_other : (b : ℕ) → (w.block ≡ b → ⊥) → sector (with_block (512 * k) I w) (k * b) ≡ sector I (k * b)
  with_block_other b apart = sector-written_other I (first_sector (512 * k) w.block) w.bytes (k * b) (λ r.
      let start = first_sector_is k w.block in
      let low : k * w.block ≤ k * b = omega (arith, start, r.0) in
      let high : k * b < k * w.block + k = omega (arith, start, whole, r.1) in
      apart (blocks_apart k w.block b (k * b - k * w.block) 0 (omega (arith, low, high)) (omega (arith, some)) (omega (arith, low))))

-- ---- all of them
abbrev AreWhole : ℕ → List LoggedBlock → Type 0
AreWhole k ws = (w : LoggedBlock) → Contains ws w → length w.bytes ≡ 512 * k

length-block_put : (k : ℕ) (I : Image) (w : LoggedBlock) → length (with_block (512 * k) I w) ≡ length I
length-block_put k I w = length-written I (first_sector (512 * k) w.block) w.bytes

writes_other : (k : ℕ) → 1 ≤ k → (ws : List LoggedBlock) (I : Image) (b : ℕ) → AreWhole k ws → ((w : LoggedBlock) → Contains ws w → w.block ≡ b → ⊥)
    → sector (fold (with_block (512 * k)) I ws) (k * b) ≡ sector I (k * b)
writes_other k some [] I b whole apart = refl
writes_other k some (w ∷ ws) I b whole apart =
    writes_other k some ws (with_block (512 * k) I w) b (λ x is. whole x (contains_later w x ws is)) (λ x is. apart x (contains_later w x ws is))
    ∙ with_block_other k some I w (whole w (contains_first w ws)) b (apart w (contains_first w ws))

writes_here : (k : ℕ) → 1 ≤ k → (ws : List LoggedBlock) (I : Image) (w : LoggedBlock) → AreWhole k ws → IsDistinct nat_eq (map (λ x. x.block) ws) → Contains ws w → k * w.block < length I
    → sector (fold (with_block (512 * k)) I ws) (k * w.block) ≡ piece w.bytes 0
unfolding IsDistinct
writes_here k some [] I w whole once is there = absurd (omega (arith, is.1))
writes_here k some (x ∷ ws) I w whole once is there = elim (contains_cases x w ws is) [
  | inr later ↦ writes_here k some ws (with_block (512 * k) I x) w (λ y inside. whole y (contains_later x y ws inside)) once.1 later (subst (λ n. k * w.block < n) (sym (length-block_put k I x)) there)
  | inl same ↦
      let start : k * x.block < length I = subst (λ (y : LoggedBlock). k * y.block < length I) (sym same) there in
      subst (λ (y : LoggedBlock). sector (fold (with_block (512 * k)) (with_block (512 * k) I x) ws) (k * y.block) ≡ piece y.bytes 0) same
      (writes_other k some ws (with_block (512 * k) I x) x.block (λ y inside. whole y (contains_later x y ws inside))
      (λ y inside at. first_apart x.block (map (λ z. z.block) ws) y.block once (among_blocks ws y inside) (sym at))
      ∙ with_block_here k some I x (whole x (contains_first x ws)) start)
]

-- ---- the replay
-- the dinode of the journal keeps its length
length-clean : (bytes : List ℕ) → 512 ≤ length bytes → length (as_clean bytes) ≡ length bytes
unfolding as_clean
length-clean bytes long = length-put_at 0xb8 4 _ bytes (omega (arith, long))

replayed_is : (I : Image) (v : Volume) (s j : ℕ) → opened I ≡ Some v → dirty_slots v ≡ s ∷ [] → slot_journal v s ≡ Some j
    → replayed I ≡ with_clean_journal (block_size v) (fold (with_block (block_size v)) I (committed_writes v s)) j
unfolding replayed
replayed_is I v s j is slots journal =
    ap (λ o. option_map_or (replay_all I) o I) is
    ∙ (ap (fold (replay_slot v) I) slots
    ∙ ap (λ o. option_map_or (with_clean_journal (block_size v) (fold (with_block (block_size v)) I (committed_writes v s))) o (fold (with_block (block_size v)) I (committed_writes v s))) journal)

-- The first sector of a block that is written, and is not the journal's dinode.
pub sector_replayed : (I : Image) (v : Volume) (s j k : ℕ) → opened I ≡ Some v → dirty_slots v ≡ s ∷ [] → slot_journal v s ≡ Some j → block_size v ≡ 512 * k → 1 ≤ k
    → AreWhole k (committed_writes v s) → IsDistinct nat_eq (map (λ x. x.block) (committed_writes v s))
    → (w : LoggedBlock) → Contains (committed_writes v s) w → (w.block ≡ j → ⊥) → k * w.block < length I → sector (replayed I) (k * w.block) ≡ piece w.bytes 0
sector_replayed I v s j k is slots journal size some whole once w inside apart there =
    let after = fold (with_block (512 * k)) I (committed_writes v s) in
    let image : replayed I ≡ with_clean_journal (512 * k) after j
    = replayed_is I v s j is slots journal ∙ ap (λ n. with_clean_journal n (fold (with_block n) I (committed_writes v s)) j) size in
    let clean : length (as_clean (block_at (512 * k) after j)) ≡ 512 * k
    = length-clean (block_at (512 * k) after j) (omega (arith, length-block (512 * k) after j, some)) ∙ length-block (512 * k) after j in
    ap (λ X. sector X (k * w.block)) image
    ∙ (with_block_other k some after (record { block = j; bytes = as_clean (block_at (512 * k) after j) }) clean w.block (λ e. apart (sym e))
    ∙ writes_here k some (committed_writes v s) I w whole once inside there)

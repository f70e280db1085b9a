-- A tree whose records get new counts, block by block.
use Rattle.std.proofs.Common.{◌≡◌, ℕ, ◌+◌, ◌*◌, ◌^◌, ◌<◌, ◌≤◌, ◌&&◌, true, false, List, [], ◌∷◌, ◌++◌, take, drop, length, refl, sym, ◌∙◌, ap, subst, arith}
use Rattle.std.proofs.lemmas.List.{length-append}
use Rattle.o2_ondisk.specs.RefcountListHeaders.{refcount_list_header_of}
use Rattle.o2_model.specs.declared.geo.Geo.{Geo}
use Rattle.o2_model.specs.declared.placed_refcount.PlacedRefcount.{PlacedRefcount}
use Rattle.o2_model.specs.RefcountTrees.{Refcounts, refcount_header, refcount_records, is_refcount_block, is_sound_refcount_header, read_refcount_block, refcounts}
use Rattle.o2_model.specs.Checks.RefTree.{is_sound_root_block, ref_tree_faults_of}
use Rattle.o2_model.specs.Faults.{fails_unless}
use Rattle.o2_model.specs.Volume.{Volume, over, block_size, is_in_range}
use Rattle.o2_model.specs.Words.{among}
use Rattle.o2_view.specs.Geos.{bare}
use Rattle.o2_view.specs.Views.{with_block}
use Rattle.o2_refcount.specs.Readings.{nothing_read, with_blocks, IsReadWhole}
use Rattle.o2_refcount.specs.Recounts.{HasCounts, IsRecounted, holders}
use Rattle.o2_refcount.proofs.Grown.{FirstBelow, Gains, placed, placed_many, none_before, few_before, block_gained, block_good, fresh, first_more}
use Rattle.o2_refcount.proofs.Heads.{room, in_range, records_used}
use Rattle.o2_refcount.proofs.Recounting.{recounted_more, none_more, out_before, out_last}

-- The blocks before have their new counts in w, `from` of them in all, and from what is read so far the blocks left give this whole.
pub record Going (v w : Volume) (left : List ℕ) (now whole : Refcounts) (from : ℕ) (to : List ℕ) : Type 0 where
  pub gives : with_blocks v now left ≡ whole
  pub below : FirstBelow v now.records
  pub place : from ≡ length now.records
  pub recounted : IsRecounted v w now.records to

-- ---- one step of the whole
-- What is known of the next block b, at the front of those left.
pub record Comes (v : Volume) (now : Refcounts) (b : ℕ) (to : List ℕ) : Type 0 where
  pub gains : Gains b (refcount_records v b) now (read_refcount_block v now b)
  pub good : (is_refcount_block v b && is_sound_refcount_header v b) ≡ true
  pub out : among (holders now.records) b ≡ false
  pub used : length (refcount_records v b) ≡ (refcount_header v b).used
  pub enough : length now.records + length (refcount_records v b) ≤ length to

pub comes : (v w : Volume) (left : List ℕ) (now whole : Refcounts) (from : ℕ) (to : List ℕ) (b : ℕ) (rest : List ℕ) → left ≡ b ∷ rest → Going v w left now whole from to
    → whole.faults ≡ [] → length whole.records ≤ length to → Comes v now b to
comes v w left now whole from to b rest first going sound each =
    let next = read_refcount_block v now b in
    let gives : with_blocks v next rest ≡ whole = sym (ap (with_blocks v now) first) ∙ going.gives in
    let none : (with_blocks v next rest).faults ≡ [] = ap (λ (t : Refcounts). t.faults) gives ∙ sound in
    let clean = none_before v next rest none in
    let gains = block_gained v now b clean in
    let good = block_good v now b clean in
    record {
      gains = gains;
      good = good;
      out = fresh v b now next going.below gains;
      used = records_used v b good;
      enough = omega (
        arith,
        few_before v next rest none,
        ap (λ (t : Refcounts). length t.records) gives,
        each,
        ap (λ (ps : List PlacedRefcount). length ps) gains.records,
        length-append now.records (placed b (refcount_records v b)),
        placed_many b (refcount_records v b),
      );
    }

-- how many it has as it stands, and that they fit
pub used_now : (v w : Volume) (now : Refcounts) (to : List ℕ) (b : ℕ) → IsRecounted v w now.records to → Comes v now b to → (refcount_header w b).used ≡ length (refcount_records v b)
used_now v w now to b so_far c = ap (λ (bytes : List ℕ). (refcount_list_header_of (drop 0x80 bytes)).used) (so_far.others b c.out) ∙ sym c.used

pub range_now : (v w : Volume) (now : Refcounts) (to : List ℕ) (b : ℕ) → IsRecounted v w now.records to → Comes v now b to → is_in_range w b ≡ true
range_now v w now to b so_far c = ap (λ (geo : Geo). is_in_range (bare geo) b) so_far.numbers ∙ in_range v b c.good

pub room_now : (v w : Volume) (now : Refcounts) (to : List ℕ) (b : ℕ) → IsRecounted v w now.records to → Comes v now b to → 512 ≤ block_size v → 0x90 + 16 * (refcount_header w b).used ≤ block_size w
room_now v w now to b so_far c long =
    omega (arith, room v b c.good long, used_now v w now to b so_far c, c.used, ap (λ (geo : Geo). 2 ^ geo.block_bits) so_far.numbers)

-- a block with records is planned
pub goes_on : (v w : Volume) (left : List ℕ) (now whole : Refcounts) (from : ℕ) (to : List ℕ) (b : ℕ) (rest : List ℕ) → left ≡ b ∷ rest → Going v w left now whole from to → Comes v now b to
    → (used : ℕ) → used ≡ length (refcount_records v b) → 0 < used → (bytes : List ℕ) → HasCounts (w.at b) bytes (take used (drop from to))
    → Going v (over w (with_block b bytes w.at)) rest (read_refcount_block v now b) whole (from + used) to
goes_on v w left now whole from to b rest first going c used many some bytes has =
    let place = going.place in
    let counts : take used (drop from to) ≡ take (length (refcount_records v b)) (drop (length now.records) to) = ap (λ n. take n (drop from to)) many ∙ ap (λ n. take (length (refcount_records v b)) (drop n to)) place in
    record {
      gives = sym (ap (with_blocks v now) first) ∙ going.gives;
      below = first_more v b now (read_refcount_block v now b) going.below c.gains;
      place = omega (arith, place, many, ap (λ (ps : List PlacedRefcount). length ps) c.gains.records, length-append now.records (placed b (refcount_records v b)), placed_many b (refcount_records v b));
      recounted = subst (λ (ps : List PlacedRefcount). IsRecounted v (over w (with_block b bytes w.at)) ps to) (sym c.gains.records)
          (recounted_more v w now.records to b (refcount_records v b) bytes going.recounted refl c.out (omega (arith, some, many)) c.enough c.used c.good (subst (HasCounts (w.at b) bytes) counts has));
    }

-- one without stays
pub stays : (v w : Volume) (left : List ℕ) (now whole : Refcounts) (from : ℕ) (to : List ℕ) (b : ℕ) (rest : List ℕ) → left ≡ b ∷ rest → Going v w left now whole from to → Comes v now b to
    → (used : ℕ) → used ≡ length (refcount_records v b) → used ≡ 0 → Going v w rest (read_refcount_block v now b) whole (from + used) to
stays v w left now whole from to b rest first going c used many none =
    let same : (read_refcount_block v now b).records ≡ now.records = c.gains.records ∙ none_more now.records b (refcount_records v b) (omega (arith, many, none)) in
    record {
      gives = sym (ap (with_blocks v now) first) ∙ going.gives;
      below = first_more v b now (read_refcount_block v now b) going.below c.gains;
      place = omega (arith, going.place, none, ap (λ (ps : List PlacedRefcount). length ps) same);
      recounted = subst (λ (ps : List PlacedRefcount). IsRecounted v w ps to) (sym same) going.recounted;
    }

-- which blocks are planned then
pub held_before : (v : Volume) (now : Refcounts) (to : List ℕ) (b : ℕ) → Comes v now b to → (c : ℕ) → among (holders (read_refcount_block v now b).records) c ≡ false → among (holders now.records) c ≡ false
held_before v now to b k c free = out_before now.records b c (refcount_records v b) (sym (ap (λ (ps : List PlacedRefcount). among (holders ps) c) k.gains.records) ∙ free)

pub held_last : (v : Volume) (now : Refcounts) (to : List ℕ) (b : ℕ) → Comes v now b to → 0 < length (refcount_records v b) → (c : ℕ) → among (holders (read_refcount_block v now b).records) c ≡ false → among (b ∷ []) c ≡ false
held_last v now to b k some c free = out_last now.records b c (refcount_records v b) some (sym (ap (λ (ps : List PlacedRefcount). among (holders ps) c) k.gains.records) ∙ free)

-- ---- the tree
both_none : (xs ys : List ℕ) → xs ++ ys ≡ [] → ys ≡ []
both_none [] ys none = none
both_none (x ∷ xs) ys none = absurd (let e : x ∷ (xs ++ ys) ≡ [] = none in cc)

-- the blocks of a sound tree are read whole
pub read_whole : (v : Volume) (root : ℕ) (bs to : List ℕ) → with_blocks v nothing_read bs ≡ refcounts v root → ref_tree_faults_of v root ≡ [] → length to ≡ length (refcounts v root).records → IsReadWhole v bs to
read_whole v root bs to all none each = record {
  sound = ap (λ (t : Refcounts). t.faults) all ∙ both_none (fails_unless root (is_sound_root_block v root)) (refcounts v root).faults none;
  each = omega (arith, each, ap (λ (t : Refcounts). length t.records) all);
}

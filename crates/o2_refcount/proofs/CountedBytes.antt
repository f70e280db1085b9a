-- The records of a block whose counts change.
use Rattle.std.proofs.Common.{◌≡◌, ℕ, ◌+◌, ◌-◌, ◌/◌, ◌^◌, ◌<◌, ◌≤◌, Bool, ◌&&◌, ◌==◌, nat_le, true, List, [], map, drop, length, get_or, if◌then◌else◌, refl, sym, ◌∙◌, ap, arith}
use Rattle.std.specs.List.{zip, range_with_len}
use Rattle.o2_ondisk.specs.Fields.{IsOutsideSpan}
use Rattle.o2_ondisk.specs.Number.{number_at}
use Rattle.o2_ondisk.specs.RefcountBlocks.{refcount_block_of}
use Rattle.o2_ondisk.specs.RefcountListHeaders.{refcount_list_header_of}
use Rattle.o2_ondisk.specs.RefcountRecs.{refcount_rec_of}
use Rattle.o2_ondisk.specs.Signatures.{refcount_block_signature}
use Rattle.o2_ondisk.specs.declared.refcount_block.RefcountBlock.{RefcountBlock}
use Rattle.o2_ondisk.specs.declared.refcount_list_header.RefcountListHeader.{RefcountListHeader}
use Rattle.o2_ondisk.specs.declared.refcount_rec.RefcountRec.{RefcountRec}
use Rattle.o2_ondisk.proofs.NumberLaws.{number_at-same, number_at-drop}
use Rattle.o2_model.specs.declared.geo.Geo.{Geo}
use Rattle.o2_model.specs.RefcountTrees.{refcount_block, refcount_header, refcount_records, is_refcount_block, is_sound_refcount_header}
use Rattle.o2_model.specs.Volume.{Volume, is_in_range}
use Rattle.o2_model.specs.Words.{table}
use Rattle.o2_view.specs.Geos.{bare}
use Rattle.o2_refcount.specs.Recounts.{record_place, count_place, record_at, recounted, HasCounts}
use Rattle.o2_refcount.proofs.Pairs.{each_counted}

-- a number of a record is told by its bytes
number_in : (xs ys : List ℕ) (k at width : ℕ) → ((i : ℕ) → record_place k + at ≤ i → i < record_place k + at + width → get_or xs i 0 ≡ get_or ys i 0)
    → number_at at width (drop (record_place k) xs) ≡ number_at at width (drop (record_place k) ys)
number_in xs ys k at width same =
    number_at-drop at width (record_place k) xs
    ∙ (number_at-same (record_place k + at) width xs ys same ∙ sym (number_at-drop at width (record_place k) ys))

-- and a record by its 16 bytes
pub same_record : (old new : List ℕ) (k : ℕ) → ((i : ℕ) → record_place k ≤ i → i < record_place k + 16 → get_or new i 0 ≡ get_or old i 0) → record_at new k ≡ record_at old k
same_record old new k same i = record {
  cpos = number_in new old k 0x0 8 (λ j from to. same j (omega (arith, from)) (omega (arith, to))) i;
  clusters = number_in new old k 0x8 4 (λ j from to. same j (omega (arith, from)) (omega (arith, to))) i;
  refcount = number_in new old k 0xc 4 (λ j from to. same j (omega (arith, from)) (omega (arith, to))) i;
}

module _ (old new : List ℕ) (k : ℕ) (others : (i : ℕ) → IsOutsideSpan (count_place k) 4 i → get_or new i 0 ≡ get_or old i 0) where
  -- the record has the new count
  pub counted_here : (count : ℕ) → number_at (count_place k) 4 new ≡ count → record_at new k ≡ recounted (record_at old k) count
  counted_here count is i = record {
    cpos = number_in new old k 0x0 8 (λ j from to. others j (λ low high. omega (arith, to, low))) i;
    clusters = number_in new old k 0x8 4 (λ j from to. others j (λ low high. omega (arith, to, low))) i;
    refcount = (number_at-drop 0xc 4 (record_place k) new ∙ is) i;
  }

  -- and another record stays
  pub counted_other : (j : ℕ) → j < k → record_at new j ≡ record_at old j
  counted_other j before = same_record old new j (λ i from to. others i (λ low high. omega (arith, to, low, before)))

-- ---- the whole block
module _ (old new counts : List ℕ) (has : HasCounts old new counts) where
  -- bytes before the records stay
  kept : (i : ℕ) → i < 0x90 → get_or new i 0 ≡ get_or old i 0
  kept i low = has.others i (λ k few from under. omega (arith, low, from))

  number_kept : (at width : ℕ) → at + width ≤ 0x90 → number_at at width new ≡ number_at at width old
  number_kept at width within = number_at-same at width new old (λ k from to. kept k (omega (arith, to, within)))

  -- what it says as a refcount block stays
  pub block_kept : refcount_block_of new ≡ refcount_block_of old
  block_kept i = record {
    signature = record { 0 = number_kept 0x0 8 (omega arith) i };
    suballoc_slot = number_kept 0x8 2 (omega arith) i;
    suballoc_bit = number_kept 0xa 2 (omega arith) i;
    fs_generation = number_kept 0xc 4 (omega arith) i;
    blkno = number_kept 0x10 8 (omega arith) i;
    parent = number_kept 0x18 8 (omega arith) i;
    last_eb_blk = number_kept 0x28 8 (omega arith) i;
    count = number_kept 0x30 4 (omega arith) i;
    flags = number_kept 0x34 4 (omega arith) i;
    clusters = number_kept 0x38 4 (omega arith) i;
    cpos = number_kept 0x3c 4 (omega arith) i;
    generation = number_kept 0x40 4 (omega arith) i;
    suballoc_loc = number_kept 0x48 8 (omega arith) i;
  }

  number_of_head : (at width : ℕ) → at + width ≤ 0x10 → number_at at width (drop 0x80 new) ≡ number_at at width (drop 0x80 old)
  number_of_head at width within = number_at-drop at width 0x80 new ∙ (number_kept (0x80 + at) width (omega (arith, within)) ∙ sym (number_at-drop at width 0x80 old))

  -- and the head of its records
  pub head_kept : refcount_list_header_of (drop 0x80 new) ≡ refcount_list_header_of (drop 0x80 old)
  head_kept i = record {
    count = number_of_head 0x0 2 (omega arith) i;
    used = number_of_head 0x2 2 (omega arith) i;
  }

-- whether it is a refcount block is told by its fields and the volume's numbers
judged : Geo → RefcountBlock → ℕ → Bool
judged geo x b = is_in_range (bare geo) b && x.signature.0 == refcount_block_signature && x.blkno == b && x.fs_generation == geo.generation

is_judged : (v : Volume) (b : ℕ) → is_refcount_block v b ≡ judged v.geo (refcount_block v b) b
unfolding is_refcount_block judged
is_judged v b = refl

-- as its records are by its bytes besides
records_in : Geo → List ℕ → ℕ → List RefcountRec
records_in geo bytes b =
    let head = refcount_list_header_of (drop 0x80 bytes) in
    if judged geo (refcount_block_of bytes) b && (nat_le head.count ((2 ^ geo.block_bits - 0x90) / 16) && nat_le head.used head.count)
    then table refcount_rec_of 16 0x90 head.used bytes
    else []

in_bytes : (v : Volume) (b : ℕ) → refcount_records v b ≡ records_in v.geo (v.at b) b
unfolding refcount_records is_refcount_block judged records_in
in_bytes v b = refl

-- the records of a block whose first ones, all that it has, have these counts
pub records_counted : (v w : Volume) (b : ℕ) (counts : List ℕ) → w.geo ≡ v.geo → HasCounts (v.at b) (w.at b) counts → length counts ≡ (refcount_header v b).used
    → (is_refcount_block v b && is_sound_refcount_header v b) ≡ true → refcount_records w b ≡ map (λ p. recounted p.0 p.1) (zip (refcount_records v b) counts)
unfolding refcount_records
records_counted v w b counts numbers has all good =
    let fields : refcount_block w b ≡ refcount_block v b = block_kept (v.at b) (w.at b) counts has in
    let head : refcount_header w b ≡ refcount_header v b = head_kept (v.at b) (w.at b) counts has in
    let same : is_refcount_block w b ≡ is_refcount_block v b =
    is_judged w b ∙ (ap (λ geo. judged geo (refcount_block w b) b) numbers ∙ (ap (λ x. judged v.geo x b) fields ∙ sym (is_judged v b))) in
    let fits : is_sound_refcount_header w b ≡ is_sound_refcount_header v b =
    ap (λ (h : RefcountListHeader). nat_le h.count ((2 ^ w.geo.block_bits - 0x90) / 16) && nat_le h.used h.count) head
    ∙ ap (λ (geo : Geo). nat_le (refcount_header v b).count ((2 ^ geo.block_bits - 0x90) / 16) && nat_le (refcount_header v b).used (refcount_header v b).count) numbers in
    let still : (is_refcount_block w b && is_sound_refcount_header w b) ≡ true = ap (λ x. x && is_sound_refcount_header w b) same ∙ (ap (λ x. is_refcount_block v b && x) fits ∙ good) in
    let each = each_counted (record_at (w.at b)) (record_at (v.at b)) 0 counts
    (λ k low. let place : 0 + k ≡ k = omega arith in ap (record_at (w.at b)) place ∙ (has.counted k low ∙ sym (ap (λ j. recounted (record_at (v.at b) j) (get_or counts k 0)) place))) in
    let used : (refcount_header w b).used ≡ length counts = ap (λ (h : RefcountListHeader). h.used) head ∙ sym all in
    let new : (if is_refcount_block w b && is_sound_refcount_header w b then table refcount_rec_of 16 0x90 (refcount_header w b).used (w.at b) else []) ≡ map (record_at (w.at b)) (range_with_len 0 (length counts)) =
    rw still (ap (λ n. map (record_at (w.at b)) (range_with_len 0 n)) used) in
    let old : (if is_refcount_block v b && is_sound_refcount_header v b then table refcount_rec_of 16 0x90 (refcount_header v b).used (v.at b) else []) ≡ map (record_at (v.at b)) (range_with_len 0 (length counts)) =
    rw good (ap (λ n. map (record_at (v.at b)) (range_with_len 0 n)) (sym all)) in
    new ∙ (each ∙ ap (λ rs. map (λ p. recounted p.0 p.1) (zip rs counts)) (sym old))

-- those of a block that stays do
pub records_kept : (v w : Volume) (b : ℕ) → w.geo ≡ v.geo → w.at b ≡ v.at b → refcount_records w b ≡ refcount_records v b
records_kept v w b numbers same = in_bytes w b ∙ (ap (λ geo. records_in geo (w.at b) b) numbers ∙ (ap (λ bs. records_in v.geo bs b) same ∙ sym (in_bytes v b)))

-- One step of a reading: a record of a block, or a block of a tree.
use Rattle.std.proofs.Common.{◌≡◌, ◌++◌, Bool, ℕ, suc, ◌+◌, ◌-◌, ◌*◌, ◌<◌, ◌≤◌, true, false, List, [], ◌∷◌, map, drop, length, get_or, refl, sym, ◌∙◌, ap, arith}
use Rattle.std.specs.List.{range_with_len}
use Rattle.std.proofs.lemmas.List.{drop_more, drop_all}
use Rattle.o2_ondisk.specs.RefcountRecs.{refcount_rec_of}
use Rattle.o2_ondisk.specs.declared.refcount_rec.RefcountRec.{RefcountRec}
use Rattle.o2_model.specs.RefcountTrees.{Refcounts, refcount_end, refcount_header, refcount_records, is_refcount_block, is_sound_refcount_header, is_sound_refcount, read_refcounts, read_refcount_block, record_blocks, refcounts}
use Rattle.o2_model.specs.Volume.{Volume, is_in_range}
use Rattle.o2_model.specs.Words.{table}
use Rattle.o2_model.specs.Faults.{fails_unless}
use Rattle.o2_refcount.specs.Readings.{Keeps, nothing_read, with_record, with_fault, with_blocks}
use Rattle.o2_refcount.specs.declared.reading.Reading.{Reading}

-- ---- the records of a block
-- `count` records of a block, from record k on
abbrev pub records_from : List ℕ → ℕ → ℕ → List RefcountRec
records_from bytes k count = map (λ j. refcount_rec_of (drop (0x90 + 16 * j) bytes)) (range_with_len k count)

-- The reader keeps a reading from which the records left give this whole.
pub record Left (v : Volume) (b : ℕ) (before : List ℕ) (left : List RefcountRec) (reading : Reading) (whole : Refcounts) : Type 0 where
  pub now : Refcounts
  pub keeps : Keeps before reading now
  pub gives : read_refcounts v b left now ≡ whole

-- the next record, before those behind it
pub next_record : (bytes : List ℕ) (k used : ℕ) → k < used → records_from bytes k (used - k) ≡ refcount_rec_of (drop (0x90 + 16 * k) bytes) ∷ records_from bytes (k + 1) (used - (k + 1))
next_record bytes k used low =
    let more : used - k ≡ suc (used - (k + 1)) = omega (arith, low) in
    ap (records_from bytes k) more

-- it is taken where it is sound
pub good_record : (v : Volume) (b : ℕ) (r : RefcountRec) (rs : List RefcountRec) (t : Refcounts) → is_sound_refcount v (refcount_end t.records) r ≡ true
    → read_refcounts v b (r ∷ rs) t ≡ read_refcounts v b rs (with_record t b r)
good_record v b r rs t good = rw good refl

-- and the block is at fault where it is not
pub bad_record : (v : Volume) (b : ℕ) (r : RefcountRec) (rs : List RefcountRec) (t : Refcounts) → is_sound_refcount v (refcount_end t.records) r ≡ false
    → read_refcounts v b (r ∷ rs) t ≡ with_fault t b
bad_record v b r rs t bad = rw bad refl

-- a block that is one, with a head that is sound, has its records read
pub good_block : (v : Volume) (t : Refcounts) (b : ℕ) → is_refcount_block v b ≡ true → is_sound_refcount_header v b ≡ true
    → read_refcounts v b (table refcount_rec_of 16 0x90 (refcount_header v b).used (v.at b)) t ≡ read_refcount_block v t b
unfolding refcount_records
good_block v t b is sound = rw (is, sound) refl

-- another one is at fault
pub bad_block : (v : Volume) (t : Refcounts) (b : ℕ) → is_in_range v b ≡ false → with_fault t b ≡ read_refcount_block v t b
unfolding is_refcount_block
bad_block v t b out = rw out refl

-- ---- the blocks of a tree
-- the next block, before those behind it
pub next_block : (v : Volume) (t : Refcounts) (bs : List ℕ) (i : ℕ) → i < length bs → with_blocks v t (drop i bs) ≡ with_blocks v (read_refcount_block v t (get_or bs i 0)) (drop (i + 1) bs)
next_block v t bs i low = ap (with_blocks v t) (drop_more bs i 0 low)

-- none is left
pub no_block : (v : Volume) (t : Refcounts) (bs : List ℕ) (i : ℕ) → length bs ≤ i → with_blocks v t (drop i bs) ≡ t
no_block v t bs i past = ap (with_blocks v t) (drop_all i bs past)

-- ---- the root
-- a root that is not sound is the first fault
pub root_at_fault : (root : ℕ) (sound : Bool) (reading : Reading) → sound ≡ false → Keeps [] reading (with_fault nothing_read root) → Keeps (fails_unless root sound) reading nothing_read
root_at_fault root sound reading bad k = record {
  records = k.records;
  end = k.end;
  faults = k.faults ∙ ap (λ s. fails_unless root s ++ []) (sym bad);
}

-- the records of the tree are those of its blocks
pub blocks_read : (v : Volume) (root : ℕ) → with_blocks v nothing_read (record_blocks v root) ≡ refcounts v root
unfolding refcounts
blocks_read v root = refl

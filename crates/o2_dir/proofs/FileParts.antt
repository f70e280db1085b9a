-- A part of a file's bytes.
use Rattle.std.proofs.Common.{◌≡◌, inl, inr, ℕ, ◌+◌, ◌-◌, ◌≤◌, Bool, true, false, List, [], ◌++◌, map, take, drop, length, refl, sym, ◌∙◌, ap, arith, ◌||◌}
use Rattle.std.specs.Prelude.{min}
use Rattle.std.specs.List.{range_with_len}
use Rattle.std.proofs.lemmas.Bool.{cases_lt}
use Rattle.std.proofs.lemmas.List.{drop_all, take_min}
use Rattle.std.proofs.lemmas.List.FromFn.{length-map-range_with_len, take-map-range_with_len}
use Rattle.std.proofs.Math.Seq.{drop-append_seam, take-nil}
use Rattle.o2_ondisk.specs.Kinds.{kind_of_mode}
use Rattle.o2_ondisk.specs.Dinodes.{dinode_of}
use Rattle.o2_ondisk.specs.declared.dinode.Dinode.{Dinode}
use Rattle.o2_model.specs.Volume.{Volume, dinode}
use Rattle.o2_model.specs.Inodes.{is_file, is_link, is_file_kind, is_link_kind, is_inline, is_fast_link, has_fast_text, leaf_records}
use Rattle.o2_model.specs.Contents.{byte_of, bytes_of}
use Rattle.o2_model.specs.declared.check.Check.TheVariants.{InodeSize}
use Rattle.o2_model.specs.Checks.Extent.{extent_faults}
use Rattle.o2_model.specs.Checks.InodeSize.{has_sound_size}
use Rattle.o2_extent.proofs.FileBytes.{range_split}
use Rattle.o2_model.specs.declared.leaf.Leaf.{Leaf}
use Rattle.o2_view.specs.OwnChecks.{FailsFirst}
use Rattle.o2_dir.specs.Fails.{IsRead, data_checks}
use Rattle.o2_dir.proofs.Whole.{size_bad}

-- ---- a part of what a range gives
behind_front : {X : Type 0} (f : ℕ → X) (at m : ℕ) → drop at (map f (range_with_len 0 (at + m))) ≡ map f (range_with_len at m)
behind_front f at m =
    let front = map f (range_with_len 0 at) in
    let long : length front ≡ at = length-map-range_with_len f 0 at in
    let there : 0 + at ≡ at = omega arith in
    ap (drop at) (range_split f 0 at m)
    ∙ (ap (λ n. drop n (front ++ map f (range_with_len (0 + at) m))) (sym long)
    ∙ (drop-append_seam front (map f (range_with_len (0 + at) m)) ∙ ap (λ n. map f (range_with_len n m)) there))

cut : {X : Type 0} (f : ℕ → X) (at m len : ℕ) → map f (range_with_len at (min len m)) ≡ take len (map f (range_with_len at m))
cut f at m len =
    let low : min len m ≤ m = omega arith in
    sym (take-map-range_with_len f at m (min len m) low)
    ∙ (ap (λ n. take (min len n) (map f (range_with_len at m))) (sym (length-map-range_with_len f at m)) ∙ take_min len (map f (range_with_len at m)))

before_end : {X : Type 0} (f : ℕ → X) (size at len count : ℕ) → at ≤ size → count ≡ min len (size - at) → map f (range_with_len at count) ≡ take len (drop at (map f (range_with_len 0 size)))
before_end f size at len count low is =
    let whole : at + (size - at) ≡ size = omega (arith, low) in
    ap (λ n. map f (range_with_len at n)) is
    ∙ (cut f at (size - at) len
    ∙ (ap (take len) (sym (behind_front f at (size - at))) ∙ ap (λ n. take len (drop at (map f (range_with_len 0 n)))) whole))

at_end : {X : Type 0} (f : ℕ → X) (size at len count : ℕ) → size ≤ at → count ≡ min len (size - at) → map f (range_with_len at count) ≡ take len (drop at (map f (range_with_len 0 size)))
at_end f size at len count high is =
    let none : count ≡ 0 = omega (arith, high, is) in
    let all : length (map f (range_with_len 0 size)) ≤ at = omega (arith, high, length-map-range_with_len f 0 size) in
    ap (λ n. map f (range_with_len at n)) none ∙ sym (ap (take len) (drop_all at (map f (range_with_len 0 size)) all) ∙ take-nil len)

pub part_of_range : {X : Type 0} (f : ℕ → X) (size at len count : ℕ) → count ≡ min len (size - at) → map f (range_with_len at count) ≡ take len (drop at (map f (range_with_len 0 size)))
part_of_range f size at len count is = elim (cases_lt at size) [
  | inl low ↦ before_end f size at len count (omega arith) is
  | inr high ↦ at_end f size at len count high is
]

pub all_made : {X : Type 0} (old made more : List X) → old ≡ [] → made ≡ old ++ more → made ≡ more
all_made old made more none is = is ∙ ap (λ xs. xs ++ more) none

-- ---- where the bytes are
pub inline_part : (v : Volume) (b size at len : ℕ) (bytes behind out : List ℕ) → is_inline v b ≡ true → bytes ≡ v.at b → size ≡ (dinode v b).size → behind ≡ drop 0xc8 bytes → out ≡ take len (drop at (take size behind))
    → out ≡ take len (drop at (bytes_of v b))
unfolding bytes_of
inline_part v b size at len bytes behind out inside holds tells rest is = rw inside
    (is
    ∙ (ap (λ xs. take len (drop at (take size xs))) (rest ∙ ap (drop 0xc8) holds)
    ∙ ap (λ n. take len (drop at (take n (drop 0xc8 (v.at b))))) tells))

pub fast_part : (v : Volume) (b size at len : ℕ) (bytes behind out : List ℕ) → is_inline v b ≡ false → is_fast_link v b ≡ true → bytes ≡ v.at b → size ≡ (dinode v b).size → behind ≡ drop 0xc0 bytes
    → out ≡ take len (drop at (take size behind)) → out ≡ take len (drop at (bytes_of v b))
unfolding bytes_of
fast_part v b size at len bytes behind out outside fast holds tells rest is = rw (outside, fast)
    (is
    ∙ (ap (λ xs. take len (drop at (take size xs))) (rest ∙ ap (drop 0xc0) holds)
    ∙ ap (λ n. take len (drop at (take n (drop 0xc0 (v.at b))))) tells))

pub mapped_part : (v : Volume) (b size at len : ℕ) (leaves : List Leaf) (out : List ℕ) → is_inline v b ≡ false → is_fast_link v b ≡ false → size ≡ (dinode v b).size → leaves ≡ leaf_records v b
    → out ≡ take len (drop at (map (byte_of v leaves) (range_with_len 0 size))) → out ≡ take len (drop at (bytes_of v b))
unfolding bytes_of
mapped_part v b size at len leaves out outside slow tells are is = rw (outside, slow)
    (is
    ∙ (ap (λ (ls : List Leaf). take len (drop at (map (byte_of v ls) (range_with_len 0 size)))) are
    ∙ ap (λ n. take len (drop at (map (byte_of v (leaf_records v b)) (range_with_len 0 n)))) tells))

pub fast_told : (bytes at : List ℕ) (d : Dinode) (told_of is : Bool) → bytes ≡ at → d ≡ dinode_of bytes → told_of ≡ has_fast_text d → told_of ≡ is → has_fast_text (dinode_of at) ≡ is
fast_told bytes at d told_of is holds dinode_is tells tested =
    ap (λ bs. has_fast_text (dinode_of bs)) (sym holds)
    ∙ (ap (λ (x : Dinode). has_fast_text x) (sym dinode_is) ∙ (sym tells ∙ tested))

pub kind_told : (v : Volume) (b : ℕ) (d : Dinode) → d ≡ dinode v b → (is_file_kind (kind_of_mode d.mode) || is_link_kind (kind_of_mode d.mode)) ≡ (is_file v b || is_link v b)
unfolding is_file is_link
kind_told v b d is = ap (λ (x : Dinode). is_file_kind (kind_of_mode x.mode) || is_link_kind (kind_of_mode x.mode)) is

pub true_is_false : true ≡ false → ⊥
true_is_false h = cc

pub as_read : (v : Volume) (b : ℕ) (bytes block : List ℕ) (leaves records : List Leaf) → bytes ≡ block → leaves ≡ records → IsRead v b block records → IsRead v b bytes leaves
as_read v b bytes block leaves records same are read = record { holds = same ∙ read.holds; sound = read.sound; are = are ∙ read.are }

-- ---- what is wrong
pub fails_size : (v : Volume) (b : ℕ) → extent_faults v b ≡ [] → has_sound_size v b ≡ false → FailsFirst (data_checks b) v InodeSize b
fails_size v b sound bad = inr (sound, inl (refl, size_bad v b bad))

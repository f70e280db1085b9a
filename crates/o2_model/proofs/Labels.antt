-- The image with another label.
use Rattle.std.proofs.Common.{◌≡◌, ◌≢◌, ◌⊎◌, inl, inr, ⊎_elim, ℕ, ◌+◌, ◌-◌, ◌*◌, ◌/◌, ◌%◌, ◌<◌, ◌≤◌, List, ◌++◌, length, take, drop, get_or, replicate, refl, sym, ◌∙◌, ap, arith, length-append, append_assoc}
use Rattle.std.proofs.lemmas.List.{take-append-drop, drop-drop, take_all, length-replicate, get_or-take, get_or-drop}
use Rattle.std.proofs.Math.Seq.{take-add}
use Rattle.std.proofs.lemmas.Bool.{cases_eq}
use Rattle.o2_ondisk.specs.Fields.{paste_at, bytes_at}
use Rattle.o2_ondisk.proofs.PasteLaws.{length-paste_at, bytes_at-paste_at, get_or-paste_at_before, get_or-paste_at_behind}
use Rattle.o2_disk.specs.Image.{Image, IsImage, sector, piece, written, byte, bytes_from}
use Rattle.o2_disk.proofs.Images.{same_image, length-written, sector-written_in, sector-written_other, in_or_out, bytes_from-sector, read_back, other_one}
use Rattle.o2_model.specs.Superblock.{super_sector}
use Rattle.o2_model.specs.Label.{label_field, label_place, with_label}

-- a write into the rest of some bytes
pub paste_at-drop : (skipped at : ℕ) (new bytes : List ℕ) → take skipped bytes ++ paste_at at new (drop skipped bytes) ≡ paste_at (skipped + at) new bytes
unfolding paste_at
paste_at-drop skipped at new bytes =
    sym (append_assoc (take skipped bytes) (take at (drop skipped bytes)) (new ++ drop (at + length new) (drop skipped bytes)))
    ∙ ap (λ (l : List ℕ). l ++ (new ++ drop (at + length new) (drop skipped bytes))) (sym (take-add skipped at bytes))
    ∙ ap (λ (l : List ℕ). take (skipped + at) bytes ++ (new ++ l)) (drop-drop (at + length new) skipped bytes ∙ ap (λ (n : ℕ). drop n bytes) place)
  where
    place : skipped + (at + length new) ≡ skipped + at + length new
    place = omega arith

-- a write of what is there
pub paste_at-same : (at : ℕ) (new bytes : List ℕ) → bytes_at at (length new) bytes ≡ new → paste_at at new bytes ≡ bytes
unfolding paste_at
paste_at-same at new bytes there =
    ap (λ (l : List ℕ). take at bytes ++ (l ++ drop (at + length new) bytes)) (sym there)
    ∙ ap (λ (l : List ℕ). take at bytes ++ (take (length new) (drop at bytes) ++ l)) (sym (drop-drop (length new) at bytes))
    ∙ ap (λ (l : List ℕ). take at bytes ++ l) (take-append-drop (length new) (drop at bytes))
    ∙ take-append-drop at bytes

-- a sector that is written with its own bytes
pub written-same : (I : Image) (at : ℕ) → at < length I → length (sector I at) ≡ 512 → written I at (sector I at) ≡ I
written-same I at within whole = same_image (written I at (sector I at)) I (length-written I at (sector I at)) (λ s h. elim (in_or_out at (sector I at) s) [
  | inl r ↦
      let here : s ≡ at = omega (arith, r.0, r.1, whole) in
      let none : s - at ≡ 0 = omega (arith, here) in
      sector-written_in I at (sector I at) s r (omega (arith, here, within))
      ∙ ap (λ (k : ℕ). piece (sector I at) k) none
      ∙ take_all 512 (sector I at) (omega (arith, whole))
      ∙ sym (ap (λ (k : ℕ). sector I k) here)
  | inr out ↦ sector-written_other I at (sector I at) s out
])

pub length-label_field : (label : List ℕ) → length label ≤ 64 → length (label_field label) ≡ 64
unfolding label_field
length-label_field label short = length-append label (replicate (64 - length label) 0) ∙ ap (λ (n : ℕ). length label + n) (length-replicate (64 - length label) 0) ∙ whole
  where
    whole : length label + (64 - length label) ≡ 64
    whole = omega (arith, short)

module _ (bits : ℕ) (field : List ℕ) (whole : length field ≡ 64) (I : Image) (is_image : IsImage I) (within : super_sector bits < length I) where
  abbrev at : ℕ
  at = super_sector bits

  one_sector : length (sector I at) ≡ 512
  one_sector = (is_image.each at within).whole

  pasted : length (paste_at label_place field (sector I at)) ≡ 512
  pasted = length-paste_at label_place field (sector I at) (omega (arith, whole, one_sector)) ∙ one_sector

  -- the sector of the superblock has the label, and no other sector changes
  pub sector-with_label : sector (with_label bits field I) at ≡ paste_at label_place field (sector I at)
  unfolding with_label
  sector-with_label = read_back I at (paste_at label_place field (sector I at)) pasted within

  pub sector-with_label_other : (s : ℕ) → s ≢ at → sector (with_label bits field I) s ≡ sector I s
  unfolding with_label
  sector-with_label_other s apart = other_one I at (paste_at label_place field (sector I at)) s pasted apart

  -- the image is told by the label in it
  pub label-with_label : bytes_at label_place 64 (sector (with_label bits field I) at) ≡ field
  label-with_label =
      ap (λ (l : List ℕ). bytes_at label_place 64 l) sector-with_label
      ∙ ap (λ (n : ℕ). bytes_at label_place n (paste_at label_place field (sector I at))) (sym whole)
      ∙ bytes_at-paste_at label_place field (sector I at) (omega (arith, whole, one_sector))

  module _ (bytes : List ℕ) (is : bytes ≡ bytes_from I (512 * super_sector bits) 512) where
    is_sector : sector I at ≡ bytes
    is_sector = sym (is ∙ bytes_from-sector I at (sector I at) one_sector refl)

    -- the label is there already
    pub with_label-same : bytes_at 0x50 64 (drop 0xc0 bytes) ≡ field → with_label bits field I ≡ I
    unfolding with_label
    with_label-same there =
        ap (λ (l : List ℕ). written I at l) (paste_at-same label_place field (sector I at) same)
        ∙ written-same I at within one_sector
      where
        same : bytes_at label_place (length field) (sector I at) ≡ field
        same =
            ap (λ (n : ℕ). bytes_at label_place n (sector I at)) whole
            ∙ ap (λ (l : List ℕ). take 64 l) (sym (drop-drop 0x50 0xc0 (sector I at)))
            ∙ ap (λ (l : List ℕ). take 64 (drop 0x50 (drop 0xc0 l))) is_sector
            ∙ there

    -- and where the image is the same, it is there already
    pub label_is_there : with_label bits field I ≡ I → bytes_at 0x50 64 (drop 0xc0 bytes) ≡ field
    label_is_there same =
        ap (λ (l : List ℕ). take 64 l) (drop-drop 0x50 0xc0 bytes)
        ∙ ap (λ (l : List ℕ). bytes_at label_place 64 l) (sym is_sector)
        ∙ ap (λ (J : Image). bytes_at label_place 64 (sector J at)) (sym same)
        ∙ label-with_label

    -- the sector with its label is written
    pub with_label-written : (new : List ℕ) → new ≡ take 0xc0 bytes ++ paste_at 0x50 field (drop 0xc0 bytes) → written I at new ≡ with_label bits field I
    unfolding with_label
    with_label-written new made =
        ap (λ (l : List ℕ). written I at l) (made ∙ paste_at-drop 0xc0 0x50 field bytes ∙ ap (λ (l : List ℕ). paste_at label_place field l) (sym is_sector))

-- ---- byte by byte
module _ (bits : ℕ) (field : List ℕ) (whole : length field ≡ 64) (I : Image) (is_image : IsImage I) (within : super_sector bits < length I) where
  abbrev start : ℕ
  start = 512 * super_sector bits + label_place

  -- the label's bytes
  pub byte-with_label : (i : ℕ) → i < 64 → byte (with_label bits field I) (start + i) ≡ get_or field i 0
  byte-with_label i low =
      ap (λ (s : ℕ). get_or (sector (with_label bits field I) s) ((start + i) % 512) 0) here
      ∙ ap (λ (k : ℕ). get_or (sector (with_label bits field I) (super_sector bits)) k 0) place
      ∙ sym (get_or-drop label_place (sector (with_label bits field I) (super_sector bits)) i 0)
      ∙ sym (get_or-take 64 (drop label_place (sector (with_label bits field I) (super_sector bits))) i 0 low)
      ∙ ap (λ (l : List ℕ). get_or l i 0) (label-with_label bits field whole I is_image within)
    where
      here : (start + i) / 512 ≡ super_sector bits
      here = omega (arith, low)

      place : (start + i) % 512 ≡ label_place + i
      place = omega (arith, low)

  -- and any other
  pub byte-with_label_other : (i : ℕ) → (i < start) ⊎ (start + 64 ≤ i) → byte (with_label bits field I) i ≡ byte I i
  byte-with_label_other i apart = elim (cases_eq (i / 512) (super_sector bits)) [
    | inl here ↦
        ap (λ (s : ℕ). get_or (sector (with_label bits field I) s) (i % 512) 0) here
        ∙ ap (λ (l : List ℕ). get_or l (i % 512) 0) (sector-with_label bits field whole I is_image within)
        ∙ ⊎_elim
        (λ before. get_or-paste_at_before label_place field (sector I (super_sector bits)) fits (i % 512) (omega (arith, here, before)))
        (λ behind. get_or-paste_at_behind label_place field (sector I (super_sector bits)) fits (i % 512) (omega (arith, here, behind, whole)))
        apart
        ∙ sym (ap (λ (s : ℕ). get_or (sector I s) (i % 512) 0) here)
    | inr elsewhere ↦ ap (λ (l : List ℕ). get_or l (i % 512) 0) (sector-with_label_other bits field whole I is_image within (i / 512) elsewhere)
  ]
    where
      fits : label_place + length field ≤ length (sector I (super_sector bits))
      fits = omega (arith, whole, (is_image.each (super_sector bits) within).whole)

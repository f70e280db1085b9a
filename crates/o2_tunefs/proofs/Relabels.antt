-- A label in the superblock's sector.
use Rattle.std.proofs.Common.{◌≡◌, ℕ, ◌+◌, ◌≤◌, ◌<◌, List, ◌++◌, length, take, drop, replicate, sym, ◌∙◌, ap, arith, append-nil, length-drop, Option, Some}
use Rattle.std.specs.Option.{option_map_or}
use Rattle.std.proofs.lemmas.List.{take_all, drop_all, drop-drop, drop-replicate}
use borrow.Rule.Slice.PartMut.{put_mid}
use Rattle.o2_ondisk.specs.Fields.{paste_at, bytes_at}
use Rattle.o2_ondisk.specs.declared.superblock.Super.{Super}
use Rattle.o2_disk.specs.Image.{Image, IsImage, written}
use Rattle.o2_model.specs.Superblock.{superblock, superblock_bits, super_sector}
use Rattle.o2_model.specs.Label.{label_field, with_label, relabelled}
use Rattle.o2_model.proofs.SuperSector.{superblock-first}
use Rattle.o2_model.proofs.Labels.{with_label-same, label_is_there, with_label-written}
use Rattle.o2_view.specs.SuperSector.{IsSuperSector}
use Rattle.o2_view.specs.declared.superblock.SuperSector.{SuperSector}

-- the sector whose rest, from the superblock's part on, was given a label
pub labelled_is : (bytes field new : List ℕ) → length bytes ≡ 512 → new ≡ paste_at 80 field (take 320 (drop 192 bytes)) → put_mid 192 320 bytes new ≡ take 192 bytes ++ paste_at 80 field (drop 192 bytes)
labelled_is bytes field new whole made =
    ap (λ (l : List ℕ). take 192 bytes ++ (new ++ l)) (drop-drop 320 192 bytes ∙ drop_all 512 bytes (omega (arith, whole)))
    ∙ ap (λ (l : List ℕ). take 192 bytes ++ l) (append-nil new ∙ made ∙ ap (λ (l : List ℕ). paste_at 80 field l) (take_all 320 (drop 192 bytes) (omega (arith, whole, length-drop 192 bytes))))

-- the field that was filled with zeros, and then with a label
pub padded_is : (field label : List ℕ) → field ≡ label ++ drop (length label) (replicate 64 0) → field ≡ label_field label
unfolding label_field
padded_is field label made = made ∙ ap (λ (l : List ℕ). label ++ l) (drop-replicate (length label) 64 0)

module _ (I : Image) (s : SuperSector) (is : IsSuperSector I s) (is_image : IsImage I) (within : s.at + 1 ≤ length I) (field : List ℕ) (whole : length field ≡ 64) where
  inside : super_sector s.bits < length I
  inside = omega (arith, within, is.place)

  label-first : bytes_at 0x50 64 (drop 0xc0 s.bytes) ≡ (superblock I s.bits).label
  label-first = ap (λ (x : Super). x.label) (superblock-first s.bits is.least I s.bytes is.bytes)

  -- the label is there already
  pub same_label : (superblock I s.bits).label ≡ field → with_label s.bits field I ≡ I
  same_label there = with_label-same s.bits field whole I is_image inside s.bytes is.bytes (label-first ∙ there)

  pub is_there : with_label s.bits field I ≡ I → (superblock I s.bits).label ≡ field
  is_there same = sym label-first ∙ label_is_there s.bits field whole I is_image inside s.bytes is.bytes same

  -- the labelled sector is written
  pub written_is : (new : List ℕ) → new ≡ take 0xc0 s.bytes ++ paste_at 0x50 field (drop 0xc0 s.bytes) → written I s.at new ≡ with_label s.bits field I
  written_is new made = ap (λ (at : ℕ). written I at new) is.place ∙ with_label-written s.bits field whole I is_image inside s.bytes is.bytes new made

-- the volume with a label, by the superblock that was found
pub relabelled_is : (label field : List ℕ) (bits : ℕ) (I : Image) → superblock_bits I ≡ Some bits → field ≡ label_field label → with_label bits field I ≡ relabelled label I
relabelled_is label field bits I found is =
    ap (λ (f : List ℕ). with_label bits f I) is
    ∙ sym (ap (λ (o : Option ℕ). option_map_or (λ b. with_label b (label_field label) I) o I) found)

-- An image that agrees with a consistent one on the held blocks has the same contents, and is consistent where the superblocks of its
-- journals are sound.
use Rattle.std.proofs.Common.{◌≡◌, ℕ, ◌^◌, ◌≤◌, List, [], length, drop, sym, ◌∙◌, ap, subst, arith, Some}
use Rattle.std.specs.Option.{option_map}
use Rattle.std.specs.FinMap as finite
use Rattle.o2_ondisk.specs.Number.{number_at}
use Rattle.o2_ondisk.specs.Super.{super_of}
use Rattle.o2_disk.specs.Image.{Image, block_at}
use Rattle.o2_model.specs.Superblock.{superblock_bits}
use Rattle.o2_model.specs.Features.{unsupported_in, unsupported_feature}
use Rattle.o2_model.specs.Volume.{Volume, over, block_size, volume_of, opened}
use Rattle.o2_model.specs.Tree.{TreeWalk, path_cmp, tree_of}
use Rattle.o2_model.specs.AfterReplay.{volume_contents, contents_after_replay, geometry_of, geometry_after_replay}
use Rattle.o2_model.specs.Replay.{replayed}
use Rattle.o2_model.specs.Failing.{failing}
use Rattle.o2_model.specs.Consistent.{IsConsistent}
use Rattle.o2_laws.specs.Agrees.{HasSoundJournalSupers}
use Rattle.o2_laws.proofs.Held.HeldBlocks.{AgreesOnHeld}
use Rattle.o2_laws.proofs.Geometries.{found_bits, opened_at}
use Rattle.o2_laws.proofs.SameSuperblock.{superblock_same}
use Rattle.o2_laws.proofs.NothingDirty.{none_replayed, consistent_clean, consistent_replayed}
use Rattle.o2_laws.proofs.Held.HeldTree.{held_tell_tree}
use Rattle.o2_laws.proofs.Held.HeldFiles.{held_tell_files}
use Rattle.o2_laws.proofs.Held.HeldImages.{super_held, held_tell_volume}
use Rattle.o2_laws.proofs.Kept.JournalsKeep.{held_tell_dirty}
use Rattle.o2_laws.proofs.Kept.SharingKeeps.{held_tell_sharing}
use Rattle.o2_laws.proofs.Kept.OdditiesKeep.{held_tell_structure, held_tell_geometry}
use Rattle.o2_laws.proofs.Kept.KeptChecks.{none_fails_over}

-- ---- volumes
pub held_tell_contents : (v : Volume) (at : ℕ → List ℕ) → failing v ≡ [] → AgreesOnHeld v at → volume_contents (over v at) ≡ volume_contents v
held_tell_contents v at none agrees =
    let tree : tree_of (over v at) ≡ tree_of v = ap (λ (w : TreeWalk). finite.from_entries {R = path_cmp} w.names) (held_tell_tree v at none agrees) in
    let files = held_tell_files v at none agrees in
    let sharing = held_tell_sharing v at none agrees in
    λ i. record { tree = tree i; files = files i; sharing = sharing i }

-- ---- images
-- What is asked of the other image, by the size of a block under which the superblock is found.
record IsAlike (I X : Image) (bits : ℕ) : Type 0 where
  found : superblock_bits I ≡ Some bits
  none : failing (volume_of I bits) ≡ []
  size : length X ≡ length I
  agrees : AgreesOnHeld (volume_of I bits) (block_at (2 ^ bits) X)

super_alike : (I X : Image) (bits : ℕ) → IsAlike I X bits → (b : ℕ) → b ≤ 2 → block_at (2 ^ bits) X b ≡ block_at (2 ^ bits) I b
super_alike I X bits is b low = is.agrees.same b (super_held (volume_of I bits) b is.none low)

bits_alike : (I X : Image) (bits : ℕ) → IsAlike I X bits → superblock_bits X ≡ Some bits
bits_alike I X bits is = superblock_same I X bits is.found is.size (super_alike I X bits is)

opened_alike : (I X : Image) (bits : ℕ) → IsAlike I X bits → opened X ≡ Some (over (volume_of I bits) (block_at (2 ^ bits) X))
opened_alike I X bits is = rw (bits_alike I X bits is) (ap (λ v. Some v) (held_tell_volume I X bits is.none is.size is.agrees))

features_alike : (I X : Image) (bits : ℕ) → IsAlike I X bits → unsupported_feature X ≡ unsupported_feature I
features_alike I X bits is =
    rw (bits_alike I X bits is, is.found) (ap (λ bytes. unsupported_in (super_of (drop 0xc0 bytes)) (number_at 0x14 4 bytes)) (super_alike I X bits is 2 (omega arith)))

-- the size of a block that the volume tells is the one under which it was found
alike : (I X : Image) (bits : ℕ) (v : Volume) → superblock_bits I ≡ Some bits → volume_of I bits ≡ v → failing v ≡ [] → length X ≡ length I
    → AgreesOnHeld v (block_at (block_size v) X) → IsAlike I X bits
alike I X bits v found is none size agrees = record {
  found = found;
  none = subst (λ u. failing u ≡ []) (sym is) none;
  size = size;
  agrees = subst (λ n. AgreesOnHeld (volume_of I bits) (block_at (2 ^ n) X)) (found_bits I bits found) (subst (λ u. AgreesOnHeld u (block_at (block_size u) X)) (sym is) agrees);
}

-- the size under which the volume of a consistent image was found
record IsFound (I : Image) (v : Volume) : Type 0 where
  bits : ℕ
  found : superblock_bits I ≡ Some bits
  volume : volume_of I bits ≡ v

is_found : (I : Image) (h : IsConsistent I) → IsFound I h.volume
is_found I h = let at = opened_at I h.volume h.is_opened in record { bits = at.0; found = at.1; volume = at.2 }

-- What is asked of an image by the volume of a consistent one.
abbrev pub Agrees : (I X : Image) → IsConsistent I → Type 0
Agrees I X h = AgreesOnHeld h.volume (block_at (block_size h.volume) X)

is_alike : (I X : Image) (h : IsConsistent I) → length X ≡ length I → Agrees I X h → IsAlike I X (is_found I h).bits
is_alike I X h size agrees = let f = is_found I h in alike I X f.bits h.volume f.found f.volume h.none_fails size agrees

block_size_found : (I : Image) (h : IsConsistent I) → 2 ^ (is_found I h).bits ≡ block_size h.volume
block_size_found I h =
    let f = is_found I h in
    ap (λ n. 2 ^ n) (sym (found_bits I f.bits f.found)) ∙ ap block_size f.volume

-- It has the same volume over its own blocks.
pub consistent_opened : (I X : Image) (h : IsConsistent I) → length X ≡ length I → Agrees I X h → opened X ≡ Some (over h.volume (block_at (block_size h.volume) X))
consistent_opened I X h size agrees =
    let f = is_found I h in
    opened_alike I X f.bits (is_alike I X h size agrees)
    ∙ (ap (λ n. Some (over (volume_of I f.bits) (block_at n X))) (block_size_found I h) ∙ ap (λ v. Some (over v (block_at (block_size h.volume) X))) f.volume)

-- It is consistent too, where its journals begin with sound superblocks.
pub consistent_alike : (I X : Image) (h : IsConsistent I) → length X ≡ length I → Agrees I X h → HasSoundJournalSupers h.volume (block_at (block_size h.volume) X) → IsConsistent X
consistent_alike I X h size agrees supers = record {
  volume = over h.volume (block_at (block_size h.volume) X);
  is_opened = consistent_opened I X h size agrees;
  supported_features = features_alike I X (is_found I h).bits (is_alike I X h size agrees) ∙ h.supported_features;
  supported_structures = held_tell_structure h.volume (block_at (block_size h.volume) X) h.none_fails agrees ∙ h.supported_structures;
  none_fails = none_fails_over h.volume (block_at (block_size h.volume) X) h.none_fails agrees supers;
}

-- It has nothing to replay.
replayed_alike : (I X : Image) (h : IsConsistent I) → length X ≡ length I → Agrees I X h → replayed X ≡ X
replayed_alike I X h size agrees =
    none_replayed X (over h.volume (block_at (block_size h.volume) X)) (consistent_opened I X h size agrees)
    (held_tell_dirty h.volume (block_at (block_size h.volume) X) h.none_fails agrees ∙ consistent_clean I h.volume h h.is_opened)

-- what is found of the volume that it has
found_alike : {A : Type 0} (f : Volume → A) (I X : Image) (h : IsConsistent I) → length X ≡ length I → Agrees I X h → f (over h.volume (block_at (block_size h.volume) X)) ≡ f h.volume
    → option_map f (opened (replayed X)) ≡ option_map f (opened (replayed I))
found_alike f I X h size agrees same =
    ap (λ Y. option_map f (opened Y)) (replayed_alike I X h size agrees)
    ∙ (ap (option_map f) (consistent_opened I X h size agrees)
    ∙ (ap (λ x. Some x) same
    ∙ (ap (option_map f) (sym h.is_opened) ∙ ap (λ Y. option_map f (opened Y)) (sym (consistent_replayed I h)))))

-- It has the same contents, and the same size, label and journals.
pub contents_alike : (I X : Image) (h : IsConsistent I) → length X ≡ length I → Agrees I X h → contents_after_replay X ≡ contents_after_replay I
contents_alike I X h size agrees = found_alike volume_contents I X h size agrees (held_tell_contents h.volume (block_at (block_size h.volume) X) h.none_fails agrees)

pub geometry_alike : (I X : Image) (h : IsConsistent I) → length X ≡ length I → Agrees I X h → geometry_after_replay X ≡ geometry_after_replay I
geometry_alike I X h size agrees = found_alike geometry_of I X h size agrees (held_tell_geometry h.volume (block_at (block_size h.volume) X) h.none_fails agrees)

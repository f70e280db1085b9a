-- The superblock is held, so that images that agree on the held blocks are one volume, with the same tree and files.
use Rattle.std.proofs.Common.{◌≡◌, ℕ, ◌-◌, ◌/◌, ◌^◌, ◌<◌, ◌≤◌, true, ◌&&◌, [], length, ◌∙◌, ap, arith}
use Rattle.std.specs.Prelude.{nat_le}
use Rattle.std.proofs.lemmas.Bool.{and_parts}
use Rattle.std.proofs.lemmas.Bool.Decides.{nat_tests}
use Rattle.std.proofs.lemmas.Nat.{pow_pos, le-div}
use Rattle.std.proofs.Math.Nat.{div-mul-le_self}
use Rattle.o2_disk.specs.Image.{Image, block_at}
use Rattle.o2_model.specs.declared.check.Check.TheVariants as check
use Rattle.o2_model.specs.Volume.{Volume, over, per_cluster, blocks, volume_of}
use Rattle.o2_model.specs.Files.{files_of}
use Rattle.o2_model.specs.Tree.{tree_walk}
use Rattle.o2_model.specs.Checks.Super.{is_super_dinode, has_sound_sizes, has_sound_first_group, has_sound_directories, has_sound_numbers, is_sound_super, super_faults}
use Rattle.o2_model.specs.Failing.{faults, failing}
use Rattle.o2_laws.proofs.Held.HeldBlocks.{is_held}
use Rattle.o2_laws.proofs.Held.HeldBlocks.{AgreesOnHeld}
use Rattle.o2_laws.proofs.NothingFails.{no_check_fails}
use Rattle.o2_model.proofs.Faults.{holds_unless}
use Rattle.o2_laws.proofs.Failing.{volume_of-over}
use Rattle.o2_laws.proofs.Held.GroupsHeld.{first_held}
use Rattle.o2_laws.proofs.Held.HeldTree.{held_tell_tree}
use Rattle.o2_laws.proofs.Held.HeldFiles.{held_tell_files}

-- ---- the superblock
pub super_holds : (v : Volume) → failing v ≡ [] → super_faults v ≡ []
unfolding faults
super_holds v none = no_check_fails v none check.Super

sound_first : (v : Volume) → is_sound_super v ≡ true → has_sound_first_group v ≡ true
unfolding is_sound_super
sound_first v h =
    let numbers = (and_parts (is_super_dinode v) (has_sound_numbers v) h).1 in
    let without = (and_parts (has_sound_sizes v && has_sound_first_group v && nat_le (blocks v) v.on_device) (has_sound_directories v) numbers).0 in
    let two = (and_parts (has_sound_sizes v && has_sound_first_group v) (nat_le (blocks v) v.on_device) without).0 in
    (and_parts (has_sound_sizes v) (has_sound_first_group v) two).1

behind_super : (v : Volume) → has_sound_first_group v ≡ true → 3 ≤ v.geo.first_group
behind_super v h = grind (arith, nat_tests)

earlier_cluster : (p b f : ℕ) → 0 < p → b ≤ f → b / p ≤ f / p
earlier_cluster p b f some low = le-div (b / p) f p some (omega (arith, low, div-mul-le_self b p))

pub super_held : (v : Volume) (b : ℕ) → failing v ≡ [] → b ≤ 2 → is_held v b ≡ true
super_held v b none low =
    let first = behind_super v (sound_first v (holds_unless 2 (is_sound_super v) (super_holds v none))) in
    first_held v b (earlier_cluster (per_cluster v) b v.geo.first_group (pow_pos (v.geo.cluster_bits - v.geo.block_bits)) (omega (arith, low, first)))

-- ---- images
pub held_tell_volume : (I X : Image) (bits : ℕ) → failing (volume_of I bits) ≡ [] → length X ≡ length I → AgreesOnHeld (volume_of I bits) (block_at (2 ^ bits) X)
    → volume_of X bits ≡ over (volume_of I bits) (block_at (2 ^ bits) X)
held_tell_volume I X bits none size agrees = volume_of-over I X bits size (agrees.same 2 (super_held (volume_of I bits) 2 none (omega arith)))

pub held_tell_image_tree : (I X : Image) (bits : ℕ) → failing (volume_of I bits) ≡ [] → length X ≡ length I → AgreesOnHeld (volume_of I bits) (block_at (2 ^ bits) X)
    → tree_walk (volume_of X bits) ≡ tree_walk (volume_of I bits)
held_tell_image_tree I X bits none size agrees =
    ap tree_walk (held_tell_volume I X bits none size agrees) ∙ held_tell_tree (volume_of I bits) (block_at (2 ^ bits) X) none agrees

pub held_tell_image_files : (I X : Image) (bits : ℕ) → failing (volume_of I bits) ≡ [] → length X ≡ length I → AgreesOnHeld (volume_of I bits) (block_at (2 ^ bits) X)
    → files_of (volume_of X bits) ≡ files_of (volume_of I bits)
held_tell_image_files I X bits none size agrees =
    ap (λ v. files_of v) (held_tell_volume I X bits none size agrees) ∙ held_tell_files (volume_of I bits) (block_at (2 ^ bits) X) none agrees

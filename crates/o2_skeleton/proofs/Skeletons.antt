-- The two directories of the skeleton, by what is judged of them.
use Rattle.std.proofs.Common.{◌≡◌, ℕ, true, false, ◌&&◌, [], refl, ◌∙◌, ap, subst}
use Rattle.std.proofs.lemmas.Bool.{and_left}
use Rattle.o2_model.specs.Words.{IsLeast}
use Rattle.o2_model.specs.Orders.{is_none_of}
use Rattle.o2_model.specs.Volume.{Volume, is_valid}
use Rattle.o2_model.specs.Inodes.{is_directory}
use Rattle.o2_model.specs.Checks.Super.{is_sound_super, super_faults}
use Rattle.o2_model.specs.Checks.Sysdir.{directory_faults, is_sound_directory, sysdir_faults}
use Rattle.o2_model.specs.Checks.Root.{is_sound_root, root_faults}
use Rattle.o2_model.proofs.Faults.{fails_nowhere}
use Rattle.o2_dir.proofs.Whole.{fails_there}
use Rattle.o2_skeleton.proofs.Tests.{true_and}

-- ---- a directory
pub invalid_is_bad : (v : Volume) (d : ℕ) → (is_valid v d && is_directory v d) ≡ false → is_sound_directory v d ≡ false
unfolding is_sound_directory
invalid_is_bad v d bad = and_left _ _ bad

pub entries_decide : (v : Volume) (d : ℕ) → (is_valid v d && is_directory v d) ≡ true → is_sound_directory v d ≡ is_none_of (directory_faults v d)
unfolding is_sound_directory
entries_decide v d good = true_and _ _ good

-- ---- checks at one block
pub root_is : (v : Volume) → is_sound_root v ≡ (is_valid v v.geo.root && is_directory v v.geo.root)
unfolding is_sound_root
root_is v = refl

pub root_holds : (v : Volume) (root : ℕ) → v.geo.root ≡ root → (is_valid v root && is_directory v root) ≡ true → root_faults v ≡ []
root_holds v root is valid = fails_nowhere v.geo.root (is_sound_root v) (root_is v ∙ (ap (λ b. is_valid v b && is_directory v b) is ∙ valid))

pub root_fails : (v : Volume) (root : ℕ) → v.geo.root ≡ root → (is_valid v root && is_directory v root) ≡ false → IsLeast root (root_faults v)
root_fails v root is bad =
    subst (λ n. IsLeast n (root_faults v)) is (fails_there v.geo.root (is_sound_root v) (root_is v ∙ (ap (λ b. is_valid v b && is_directory v b) is ∙ bad)))

pub sysdir_holds : (v : Volume) (sysdir : ℕ) → v.geo.sysdir ≡ sysdir → is_sound_directory v sysdir ≡ true → sysdir_faults v ≡ []
sysdir_holds v sysdir is sound = fails_nowhere v.geo.sysdir (is_sound_directory v v.geo.sysdir) (ap (is_sound_directory v) is ∙ sound)

pub sysdir_fails : (v : Volume) (sysdir : ℕ) → v.geo.sysdir ≡ sysdir → is_sound_directory v sysdir ≡ false → IsLeast sysdir (sysdir_faults v)
sysdir_fails v sysdir is bad = subst (λ n. IsLeast n (sysdir_faults v)) is (fails_there v.geo.sysdir (is_sound_directory v v.geo.sysdir) (ap (is_sound_directory v) is ∙ bad))

pub super_holds : (v : Volume) → is_sound_super v ≡ true → super_faults v ≡ []
super_holds v sound = fails_nowhere 2 (is_sound_super v) sound

pub super_fails : (v : Volume) → is_sound_super v ≡ false → IsLeast 2 (super_faults v)
super_fails v bad = fails_there 2 (is_sound_super v) bad

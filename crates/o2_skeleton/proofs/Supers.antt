-- SUPER, as its parts decide it.
use Rattle.std.proofs.Common.{◌≡◌, Bool, true, false, ◌&&◌, ◌∙◌, ap}
use Rattle.o2_model.specs.Volume.{Volume}
use Rattle.o2_model.specs.Checks.Super.{is_super_dinode, has_sound_numbers, is_sound_super}
use Rattle.o2_skeleton.proofs.Tests.{and_true, and_false}

pub bad_numbers : (v : Volume) → has_sound_numbers v ≡ false → is_sound_super v ≡ false
unfolding is_sound_super
bad_numbers v bad = ap (λ (b : Bool). is_super_dinode v && b) bad ∙ and_false (is_super_dinode v)

pub good_numbers : (v : Volume) → has_sound_numbers v ≡ true → is_sound_super v ≡ is_super_dinode v
unfolding is_sound_super
good_numbers v good = ap (λ (b : Bool). is_super_dinode v && b) good ∙ and_true (is_super_dinode v)

-- SUPER's demands on the numbers, one by one.
use Rattle.std.proofs.Common.{◌≡◌, ℕ, ◌/◌, ◌<◌, ◌≤◌, Bool, true, false, ◌&&◌, not, nat_le, refl, sym, ◌∙◌, ap, subst, arith}
use Rattle.std.proofs.lemmas.Bool.{and_left, and_right}
use Rattle.std.proofs.lemmas.Bool.Decides.{nat_tests}
use Rattle.o2_model.specs.Words.{among}
use Rattle.o2_model.specs.Volume.{Volume, per_cluster, blocks}
use Rattle.o2_model.specs.ClusterGroups.{group_size, backup_clusters}
use Rattle.o2_model.specs.Checks.Super.{has_sound_sizes, has_sound_first_group, has_sound_directories, has_sound_numbers}
use Rattle.o2_model.specs.declared.geo.Geo.{Geo}
use Rattle.o2_view.specs.Geos.{HasSizes, HasNumbers, blocks_of}
use Rattle.o2_view.proofs.Numbers.{sound_numbers}
use Rattle.o2_skeleton.specs.Numbers.{is_place, FitsIn}
use Rattle.o2_skeleton.proofs.Tests.{true_and}

-- ---- the first group
place_is : (v : Volume) (pc size : ℕ) → pc ≡ per_cluster v → size ≡ group_size v → is_place pc size v.geo ≡ is_place (per_cluster v) (group_size v) v.geo
place_is v pc size pc_is size_is = ap (λ n. is_place pc n v.geo) size_is ∙ ap (λ n. is_place n (group_size v) v.geo) pc_is

pub no_place : (v : Volume) (pc size : ℕ) → pc ≡ per_cluster v → size ≡ group_size v → is_place pc size v.geo ≡ false → has_sound_first_group v ≡ false
no_place v pc size pc_is size_is none = and_left _ _ (sym (place_is v pc size pc_is size_is) ∙ none)

pub place_decides : (v : Volume) (pc size : ℕ) → pc ≡ per_cluster v → size ≡ group_size v → is_place pc size v.geo ≡ true
    → has_sound_first_group v ≡ not (among (backup_clusters v) (v.geo.first_group / pc))
place_decides v pc size pc_is size_is is =
    true_and _ _ (sym (place_is v pc size pc_is size_is) ∙ is)
    ∙ ap (λ n. not (among (backup_clusters v) (v.geo.first_group / n))) (sym pc_is)

-- ---- all numbers
pub bad_sizes : (v : Volume) → has_sound_sizes v ≡ false → has_sound_numbers v ≡ false
bad_sizes v bad = and_left _ _ (and_left _ _ (and_left _ _ bad))

pub bad_first_group : (v : Volume) → has_sound_first_group v ≡ false → has_sound_numbers v ≡ false
bad_first_group v bad = and_left _ _ (and_left _ _ (and_right _ _ bad))

too_long : (n m : ℕ) → m < n → nat_le n m ≡ false
too_long n m past = grind (arith, nat_tests)

short_enough : (n m : ℕ) → n ≤ m → nat_le n m ≡ true
short_enough n m fits = grind (arith, nat_tests)

pub bad_length : (v : Volume) (count n : ℕ) → count ≡ v.on_device → n ≡ blocks v → count < n → has_sound_numbers v ≡ false
bad_length v count n count_is n_is past = and_left _ _ (and_right _ _ (too_long (blocks v) v.on_device (omega (arith, count_is, n_is, past))))

last_of_four : (a b c d : Bool) → a ≡ true → b ≡ true → c ≡ true → (a && b && c && d) ≡ d
last_of_four a b c d is_a is_b is_c = rw (is_a, is_b, is_c) refl

pub directories_decide : (v : Volume) (count n : ℕ) → has_sound_sizes v ≡ true → has_sound_first_group v ≡ true → count ≡ v.on_device → n ≡ blocks v → n ≤ count
    → has_sound_numbers v ≡ has_sound_directories v
directories_decide v count n sizes first count_is n_is fits =
    last_of_four _ _ _ _ sizes first (short_enough (blocks v) v.on_device (omega (arith, count_is, n_is, fits)))

-- ---- what a reader is given
pub all_within : (geo : Geo) (count n : ℕ) → HasSizes geo → n ≡ blocks_of geo → n ≤ count → (v : Volume) → v.geo ≡ geo → has_sound_numbers v ≡ true → FitsIn geo count
all_within geo count n sizes n_is fits v same sound = record {
  sizes = sizes;
  numbers = subst HasNumbers same (sound_numbers v sound);
  volume = omega (arith, n_is, fits);
}

-- Where the checks of a directory fail, all together.
use Rattle.std.proofs.Common.{◌≡◌, inl, inr, ℕ, Bool, true, false, ◌&&◌, List, [], ◌∷◌, ◌++◌, map, refl, ◌∙◌, ap}
use Rattle.std.proofs.lemmas.Bool.{and_left, and_right}
use Rattle.o2_model.specs.declared.check.Check.{Check}
use Rattle.o2_model.specs.Words.{IsLeast}
use Rattle.o2_model.specs.Faults.{those_not}
use Rattle.o2_model.specs.Orders.{later_like, is_none_of}
use Rattle.o2_model.specs.Volume.{Volume}
use Rattle.o2_model.specs.Directories.{directory_entries, named_entries}
use Rattle.o2_model.specs.Checks.Extent.{extent_faults}
use Rattle.o2_model.specs.Checks.InodeSize.{inode_size_faults}
use Rattle.o2_model.specs.Checks.DirBlock.{dir_block_faults}
use Rattle.o2_model.specs.Checks.DirentName.{is_sound_name, dirent_name_faults}
use Rattle.o2_model.specs.Checks.DirentDup.{are_namesakes, dirent_dup_faults}
use Rattle.o2_model.specs.Checks.Sysdir.{directory_faults}
use Rattle.o2_view.specs.OwnChecks.{NoneFails, FailsFirst}
use Rattle.o2_dir.specs.Fails.{directory_checks}
use Rattle.o2_skeleton.proofs.Tests.{none_of_two}

none_of_map : {A B : Type 0} (f : A → B) (xs : List A) → is_none_of (map f xs) ≡ is_none_of xs
none_of_map f [] = refl
none_of_map f (x ∷ xs) = refl

some_in : (b : ℕ) (xs : List ℕ) → IsLeast b xs → is_none_of xs ≡ false
some_in b [] h = absurd (false_is h.is_among)
  where
    false_is : false ≡ true → ⊥
    false_is e = cc
some_in b (x ∷ xs) h = refl

-- the five checks one by one
each : (v : Volume) (d : ℕ) → is_none_of (directory_faults v d)
    ≡ (is_none_of (extent_faults v d) && is_none_of (inode_size_faults v d) && is_none_of (dir_block_faults v d) && is_none_of (dirent_name_faults v d) && is_none_of (dirent_dup_faults v d))
each v d =
    let names = dirent_name_faults v d in
    let dups = dirent_dup_faults v d in
    none_of_two (extent_faults v d ++ inode_size_faults v d ++ dir_block_faults v d ++ names) dups
    ∙ (ap (λ (t : Bool). t && is_none_of dups) (none_of_two (extent_faults v d ++ inode_size_faults v d ++ dir_block_faults v d) names)
    ∙ (ap (λ (t : Bool). t && is_none_of names && is_none_of dups) (none_of_two (extent_faults v d ++ inode_size_faults v d) (dir_block_faults v d))
    ∙ ap (λ (t : Bool). t && is_none_of (dir_block_faults v d) && is_none_of names && is_none_of dups) (none_of_two (extent_faults v d) (inode_size_faults v d))))

-- where one of the first three fails, some check does
pub some_fail : (v : Volume) (d : ℕ) (c : Check) (b : ℕ) → FailsFirst (directory_checks d) v c b → is_none_of (directory_faults v d) ≡ false
some_fail v d c b (inl extent) = each v d ∙ and_left _ _ (and_left _ _ (and_left _ _ (and_left _ _ (some_in b (extent_faults v d) extent.1))))
some_fail v d c b (inr (sound, inl size)) = each v d ∙ and_left _ _ (and_left _ _ (and_left _ _ (and_right _ _ (some_in b (inode_size_faults v d) size.1))))
some_fail v d c b (inr (sound, inr (fits, inl block))) = each v d ∙ and_left _ _ (and_left _ _ (and_right _ _ (some_in b (dir_block_faults v d) block.1)))
some_fail v d c b (inr (sound, inr (fits, inr (filled, none)))) = absurd none

last_two : (a b c n d : Bool) → a ≡ true → b ≡ true → c ≡ true → (a && b && c && n && d) ≡ (n && d)
last_two a b c n d is_a is_b is_c = rw (is_a, is_b, is_c) refl

-- where these three hold, the names decide
pub names_decide : (v : Volume) (d : ℕ) → NoneFails (directory_checks d) v
    → is_none_of (directory_faults v d) ≡ (is_none_of (those_not (λ e. is_sound_name e.name) (directory_entries v d)) && is_none_of (later_like are_namesakes (named_entries v d)))
names_decide v d h =
    let dups = dirent_dup_faults v d in
    each v d
    ∙ (last_two _ _ _ _ _ (ap is_none_of h.0) (ap is_none_of h.1.0) (ap is_none_of h.1.1.0)
    ∙ (ap (λ (t : Bool). t && is_none_of dups) (none_of_map (λ e. e.block) (those_not (λ e. is_sound_name e.name) (directory_entries v d)))
    ∙ ap (λ (t : Bool). is_none_of (those_not (λ e. is_sound_name e.name) (directory_entries v d)) && t) (none_of_map (λ e. e.block) (later_like are_namesakes (named_entries v d)))))

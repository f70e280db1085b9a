-- A block among those on set bits of groups of inodes.
use Rattle.std.proofs.Common.{◌≡◌, ℕ, true, false, List, filter, nat_eq, eq-eqb, sym, ◌∙◌, ap, get_or, Some}
use Rattle.std.specs.List.{range_with_len, slice_get}
use Rattle.std.proofs.lemmas.List.Folds.{list_any_at}
use Rattle.std.proofs.lemmas.Option.{slice_get_within, get_or_from_slice_get}
use Rattle.o2_model.specs.Words.{among}
use Rattle.o2_model.specs.Orders.{rising}
use Rattle.o2_model.specs.Volume.{Volume, blocks}
use Rattle.o2_model.specs.Groups.{has_inode_bit}
use Rattle.o2_survey.proofs.InodeBlocks.{inside}
use Rattle.o2_survey.proofs.Members.{among_range, rising_is}

module _ (v : Volume) (xs : List ℕ) (are : xs ≡ filter (has_inode_bit v) (range_with_len 0 (blocks v))) (b : ℕ) where
  among_them : among xs b ≡ has_inode_bit v b
  among_them = ap (λ bs. among bs b) are ∙ among_range (has_inode_bit v) (blocks v) b (inside v b)

  they_rise : xs ≡ rising xs
  they_rise = are ∙ sym (rising_is (has_inode_bit v) (blocks v) xs (inside v) (λ c. ap (λ bs. among bs c) are ∙ among_range (has_inode_bit v) (blocks v) c (inside v c)))

  pub on_bit : (at : ℕ) → slice_get xs at ≡ Some b → true ≡ has_inode_bit v b
  on_bit at is =
      let here : get_or xs at b ≡ b = get_or_from_slice_get xs at b b is in
      sym (list_any_at (λ m. nat_eq b m) xs at b (slice_get_within xs at b is) (eq-eqb b (get_or xs at b) (sym here))) ∙ among_them

  pub off_bit : ((ns : List ℕ) → xs ≡ rising ns → among ns b ≡ false) → false ≡ has_inode_bit v b
  off_bit none = sym (none xs they_rise) ∙ among_them

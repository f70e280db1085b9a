-- The place of the group tells whether a block is where it says.
use Rattle.std.proofs.Common.{◌≡◌, inl, inr, ℕ, Bool, true, ◌&&◌, List, [], ◌∷◌, find, refl, arith}
use Rattle.std.specs.Option.{option_map, option_map_or}
use Rattle.std.proofs.lemmas.Bool.{cases_Bool, and_parts}
use Rattle.o2_model.specs.declared.allocator.BitUse.{BitUse}
use Rattle.o2_model.specs.declared.allocator.Group.{Group}
use Rattle.o2_model.specs.declared.origin.Origin.{Origin}
use Rattle.o2_model.specs.Volume.{Volume}
use Rattle.o2_model.specs.Groups.{groups}
use Rattle.o2_model.specs.Metadata.{is_on_bit, is_origin, group_with_bit, has_origin}
use Rattle.o2_judges_origin.specs.Placed.{place_of, is_origin_in}
use Rattle.o2_judges_origin.proofs.BitsOfBlocks.{bit_of, within_group}

pub origin_told : (v : Volume) (is_use : BitUse → Bool) (o : Origin) (b : ℕ) → option_map_or (is_origin_in o b) (option_map place_of (group_with_bit v is_use b)) true ≡ has_origin v is_use o b
unfolding group_with_bit has_origin
origin_told v is_use o b = go (groups v)
  where
    asked : Group → Bool
    asked g = is_use g.of.bit_use && is_on_bit v b g

    one : (g : Group) → asked g ≡ true → is_origin_in o b (place_of g) ≡ is_origin v o b g
    one g is =
        let inside = within_group v g b (and_parts (is_use g.of.bit_use) _ is).1 in
        rw (bit_of v g b (omega (arith, inside.0)) inside.1) refl

    go : (gs : List Group) → option_map_or (is_origin_in o b) (option_map place_of (find asked gs)) true ≡ option_map_or (is_origin v o b) (find asked gs) true
    go [] = refl
    go (g ∷ gs) = elim (cases_Bool (asked g)) [
      | inl is ↦ rw is (one g is)
      | inr other ↦ rw other (go gs)
    ]

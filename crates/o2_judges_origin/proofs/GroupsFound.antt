-- The last group below a block tells the group that has it on a bit above 0.
use Rattle.std.proofs.Common.{◌≡◌, inl, inr, ℕ, ◌+◌, ◌<◌, ◌≤◌, Bool, true, false, ◌&&◌, ◌==◌, nat_lt, nat_le, refl, sym, ◌∙◌, ap, arith, Option, Some, None}
use Rattle.std.specs.List.{AllByRecursion, list_any}
use Rattle.std.specs.Option.{option_map}
use Rattle.std.proofs.lemmas.Bool.{cases_Bool, and_parts, eq-eqb, eqb-true, false≢true}
use Rattle.std.proofs.lemmas.Bool.Decides.{nat_tests}
use Rattle.o2_model.specs.declared.allocator.BitUse.{BitUse}
use Rattle.o2_model.specs.declared.allocator.Group.{Group}
use Rattle.o2_model.specs.Volume.{Volume}
use Rattle.o2_model.specs.Groups.{groups, is_of_clusters}
use Rattle.o2_model.specs.Allocators.{are_clusters}
use Rattle.o2_model.specs.Metadata.{is_on_bit, group_with_bit}
use Rattle.o2_judges_alloc.specs.ApartGroups.{holds_block}
use Rattle.o2_judges_alloc.proofs.ApartGroups.{groups_apart}
use Rattle.o2_judges_alloc.proofs.GoodGroups.{groups_good, some_bits}
use Rattle.o2_judges_alloc.proofs.RowsTold.{each_is}
use Rattle.o2_judges_origin.specs.Placed.{place_of, is_kept_as, is_at_block, ArePlaced}
use Rattle.o2_judges_origin.specs.declared.placed.GroupBits.{GroupBits}
use Rattle.o2_judges_origin.specs.declared.placed.GroupPlace.{GroupPlace}
use Rattle.o2_judges_origin.proofs.BitsOfBlocks.{on_bit, within_group}
use Rattle.o2_judges_origin.proofs.OneOfGroups.{one_passes, any_too, any_both, none_found, one_group}

-- ---- of one group
and_true : (x y : Bool) → x ≡ true → y ≡ true → (x && y) ≡ true
and_true x y p q = rw (p, q) refl

holds : (b : ℕ) (g : Group) → is_of_clusters g ≡ false → g.block ≤ b → b < g.block + g.bits → holds_block b g ≡ true
holds b g blocks low high = and_true _ _ (and_true _ _ (rw blocks refl) (is_least g.block b low)) (is_below b (g.block + g.bits) high)
  where
    is_least : (m n : ℕ) → m ≤ n → nat_le m n ≡ true
    is_least m n h = grind (arith, nat_tests)

    is_below : (m n : ℕ) → m < n → nat_lt m n ≡ true
    is_below m n h = grind (arith, nat_tests)

-- the group that is kept
record IsKept (is_use : BitUse → Bool) (s : ℕ) (kept : GroupBits) (g : Group) : Type 0 where
  use_is : is_use g.of.bit_use ≡ true
  block : g.block ≡ s
  bits : g.bits ≡ kept.bits
  slot : g.of.slot ≡ kept.slot

is_kept : (is_use : BitUse → Bool) (s : ℕ) (kept : GroupBits) (g : Group) → is_kept_as is_use s kept g ≡ true → IsKept is_use s kept g
is_kept is_use s kept g h =
    let third = and_parts (is_use g.of.bit_use && g.block == s && g.bits == kept.bits) _ h in
    let second = and_parts (is_use g.of.bit_use && g.block == s) _ third.0 in
    let first = and_parts (is_use g.of.bit_use) _ second.0 in
    record {
      use_is = first.0;
      block = eqb-true g.block s first.1;
      bits = eqb-true g.bits kept.bits second.1;
      slot = eqb-true g.of.slot kept.slot third.1;
    }

-- ---- of all
module _ (v : Volume) (is_use : BitUse → Bool) (place : ℕ → Option GroupBits) (are : ArePlaced is_use (groups v) place)
    (of_blocks : (u : BitUse) → is_use u ≡ true → are_clusters u ≡ false) (b : ℕ) where
  abbrev asked : Group → Bool
  asked g = is_use g.of.bit_use && is_on_bit v b g

  asked_holds : (g : Group) → asked g ≡ true → holds_block b g ≡ true
  asked_holds g is =
      let parts = and_parts (is_use g.of.bit_use) (is_on_bit v b g) is in
      let inside = within_group v g b parts.1 in
      holds b g (of_blocks g.of.bit_use parts.0) (omega (arith, inside.0)) inside.1

  -- the group that is kept has the block
  pub found_there : (s : ℕ) (kept : GroupBits) → place s ≡ Some kept → s < b → b < s + kept.bits
      → option_map place_of (group_with_bit v is_use b) ≡ Some (record { block = s; bits = kept.bits; slot = kept.slot })
  unfolding group_with_bit
  found_there s kept at low high =
      let told = are.told s kept at in
      let one = one_group b asked (is_kept_as is_use s kept) asked_holds kept_holds (groups v) (groups_apart v) (any_too (is_kept_as is_use s kept) asked kept_asked (groups v) told) told in
      let its = is_kept is_use s kept one.group one.too in
      ap (option_map place_of) one.found ∙ same_place one.group (record { block = s; bits = kept.bits; slot = kept.slot }) its.block its.bits its.slot
    where
      kept_asked : (g : Group) → is_kept_as is_use s kept g ≡ true → asked g ≡ true
      kept_asked g is = let its = is_kept is_use s kept g is in and_true _ _ its.use_is (on_bit v g b (omega (arith, its.block, low)) (omega (arith, its.block, its.bits, high)))

      kept_holds : (g : Group) → is_kept_as is_use s kept g ≡ true → holds_block b g ≡ true
      kept_holds g is = asked_holds g (kept_asked g is)

      same_place : (g : Group) (p : GroupPlace) → g.block ≡ p.block → g.bits ≡ p.bits → g.of.slot ≡ p.slot → Some (place_of g) ≡ Some p
      same_place g p e f h = rw (e, f, h) refl

  none_asked : list_any asked (groups v) ≡ false → option_map place_of (group_with_bit v is_use b) ≡ None
  unfolding group_with_bit
  none_asked none = ap (option_map place_of) (none_found asked (groups v) none)

  -- of a group that has the block, one is kept at its block
  kept_at : (g : Group) → is_use g.of.bit_use ≡ true → ((other : Group → Bool) → other g ≡ true → list_any other (groups v) ≡ true) → (kept : GroupBits) × (place g.block ≡ Some kept)
  kept_at g is any = go (place g.block) refl
    where
      go : (o : Option GroupBits) → place g.block ≡ o → (kept : GroupBits) × (place g.block ≡ Some kept)
      go (Some kept) at = (kept, at)
      go None at = absurd (false≢true (sym (are.none g.block at) ∙ any (is_at_block is_use g.block) (and_true _ _ is (eq-eqb g.block g.block refl))))

  -- no group is kept below the block
  pub found_none : ((s : ℕ) (kept : GroupBits) → place s ≡ Some kept → b ≤ s) → option_map place_of (group_with_bit v is_use b) ≡ None
  found_none below = none_asked (elim (cases_Bool (list_any asked (groups v))) [
    | inr none ↦ none
    | inl some ↦
        let one = one_passes asked (groups v) some in
        let parts = and_parts (is_use one.item.of.bit_use) _ one.is in
        let kept = kept_at one.item parts.0 one.any in
        let inside = within_group v one.item b parts.1 in
        let low = below one.item.block kept.0 kept.1 in
        absurd (omega (arith, inside.0, low))
  ])

  -- the last one ends before the block
  pub found_before : (s : ℕ) (kept : GroupBits) → place s ≡ Some kept → s < b → ((t : ℕ) (other : GroupBits) → place t ≡ Some other → t < b → t ≤ s) → s + kept.bits ≤ b
      → option_map place_of (group_with_bit v is_use b) ≡ None
  found_before s kept at low last past = none_asked (elim (cases_Bool (list_any asked (groups v))) [
    | inr none ↦ none
    | inl some ↦
        let one = one_passes asked (groups v) some in
        let parts = and_parts (is_use one.item.of.bit_use) _ one.is in
        let other = kept_at one.item parts.0 one.any in
        let inside = within_group v one.item b parts.1 in
        let from = last one.item.block other.0 other.1 inside.0 in
        absurd (ends one.item one.is from one.any)
  ])
    where
      has_first : Group → Bool
      has_first g = asked g && nat_le g.block s

      has_bits : Group → Bool
      has_bits g = is_kept_as is_use s kept g && nat_lt 0 g.bits

      at_most : (m n : ℕ) → nat_le m n ≡ true → m ≤ n
      at_most m n h = grind (arith, nat_tests)

      is_least : (m n : ℕ) → m ≤ n → nat_le m n ≡ true
      is_least m n h = grind (arith, nat_tests)

      positive : (n : ℕ) → nat_lt 0 n ≡ true → 0 < n
      positive n h = grind (arith, nat_tests)

      is_positive : (n : ℕ) → 2 ≤ n → nat_lt 0 n ≡ true
      is_positive n h = grind (arith, nat_tests)

      -- each group that is kept has bits
      each_has_bits : AllByRecursion (λ g. is_kept_as is_use s kept g ≡ true → nat_lt 0 g.bits ≡ true) (groups v)
      each_has_bits = each_is (λ g good is. is_positive g.bits (some_bits v g good (of_blocks g.of.bit_use (is_kept is_use s kept g is).use_is))) (groups v) (groups_good v)

      -- a group from s or before up to b has s, as the one that is kept there
      first_holds : (g : Group) → has_first g ≡ true → holds_block s g ≡ true
      first_holds g is =
          let parts = and_parts (asked g) _ is in
          let its = and_parts (is_use g.of.bit_use) _ parts.0 in
          let inside = within_group v g b its.1 in
          holds s g (of_blocks g.of.bit_use its.0) (at_most g.block s parts.1) (omega (arith, inside.1, low))

      bits_hold : (g : Group) → has_bits g ≡ true → holds_block s g ≡ true
      bits_hold g is =
          let parts = and_parts (is_kept_as is_use s kept g) _ is in
          let its = is_kept is_use s kept g parts.0 in
          let some = positive g.bits parts.1 in
          holds s g (of_blocks g.of.bit_use its.use_is) (omega (arith, its.block)) (omega (arith, its.block, some))

      ends : (g : Group) → asked g ≡ true → g.block ≤ s → ((test : Group → Bool) → test g ≡ true → list_any test (groups v) ≡ true) → ⊥
      ends g is from any =
          let one =
          one_group s has_first has_bits first_holds bits_hold (groups v) (groups_apart v) (any has_first (and_true _ _ is (is_least g.block s from)))
          (any_both (is_kept_as is_use s kept) (λ x. nat_lt 0 x.bits) (groups v) each_has_bits (are.told s kept at))
          in
          let its = is_kept is_use s kept one.group (and_parts (is_kept_as is_use s kept one.group) _ one.too).0 in
          let inside = within_group v one.group b (and_parts (is_use one.group.of.bit_use) _ (and_parts (asked one.group) _ one.is).0).1 in
          omega (arith, its.block, its.bits, inside.1, past)

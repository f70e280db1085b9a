-- The descriptor, and then the place.
use Rattle.std.proofs.Common.{◌<◌, refl, sym, ◌∙◌, ap, arith}
use Rattle.std.proofs.lemmas.Bool.Decides.{nat_tests}
use Rattle.o2_ondisk.specs.declared.group_desc.GroupDesc.{GroupDesc}
use Rattle.o2_model.specs.Volume.{blocks}
use Rattle.o2_chain.proofs.GoodGroups.{good_by}
use Rattle.o2_chain.proofs.good.is_good.Goals as goal

pub returns-then-not-has_descriptor-clause-told : goal.returns-then-not-has_descriptor-clause-told
returns-then-not-has_descriptor-clause-told c v same desc walked taken new =
    let below : c.args.b < blocks v = rw same c.requires.below in
    let above = c.requires.above in
    let bad = sym (c.has_descriptor.ensures v same desc) ∙ c.if-not-has_descriptor.true in
    sym (good_by v c.args.a.now walked c.args.b (grind (arith, nat_tests, above, below)) new ∙ rw bad refl)

pub returns-then-is_bitmap-clause-told : goal.returns-then-is_bitmap-clause-told
returns-then-is_bitmap-clause-told c v same desc walked taken new =
    let below : c.args.b < blocks v = rw same c.requires.below in
    let above = c.requires.above in
    let good = sym (c.has_descriptor.ensures v same desc) ∙ c.if-not-has_descriptor.false in
    let clusters = sym c.is_bitmap.ensures ∙ c.if-is_bitmap.true in
    c.is_bitmap_place.ensures v same (ap (λ (d : GroupDesc). d.bits) (sym desc) ∙ sym c.from-bits.ensures)
    ∙ sym (good_by v c.args.a.now walked c.args.b (grind (arith, nat_tests, above, below)) new ∙ rw (good, clusters) refl)

pub returns-else-is_bitmap-clause-told : goal.returns-else-is_bitmap-clause-told
returns-else-is_bitmap-clause-told c v same desc walked taken new =
    let below : c.args.b < blocks v = rw same c.requires.below in
    let above = c.requires.above in
    let good = sym (c.has_descriptor.ensures v same desc) ∙ c.if-not-has_descriptor.false in
    let blocks = sym c.is_bitmap.ensures ∙ c.if-is_bitmap.false in
    c.is_block_place.ensures.told v same (ap (λ (d : GroupDesc). d.bits) (sym desc) ∙ sym c.from-bits.ensures) walked taken
    ∙ sym (good_by v c.args.a.now walked c.args.b (grind (arith, nat_tests, above, below)) new ∙ rw (good, blocks) refl)

-- One demand after the other.
use Rattle.std.proofs.Common.{[], refl, sym, ◌∙◌, ap}
use Rattle.o2_model.specs.Volume.{Volume}
use Rattle.o2_view.specs.Geos.{blocks_of}
use Rattle.o2_skeleton.proofs.Numbers.{bad_sizes, bad_first_group, bad_length, directories_decide, all_within}
use Rattle.o2_skeleton.proofs.super_numbers.are_sound_numbers.Goals as goal

pub returns-then-not-has_sound_sizes-clause-told : goal.returns-then-not-has_sound_sizes-clause-told
returns-then-not-has_sound_sizes-clause-told c v numbers whole =
    sym (bad_sizes v (sym (c.has_sound_sizes.ensures.told v numbers) ∙ c.if-not-has_sound_sizes.true))

pub returns-then-not-has_sound_first_group-clause-told : goal.returns-then-not-has_sound_first_group-clause-told
returns-then-not-has_sound_first_group-clause-told c v numbers whole =
    sym (bad_first_group v (sym (c.has_sound_first_group.ensures v numbers) ∙ c.if-not-has_sound_first_group.true))

pub returns-then-on_device-volume_blocks-clause-told : goal.returns-then-on_device-volume_blocks-clause-told
returns-then-on_device-volume_blocks-clause-told c v numbers whole =
    sym (bad_length v c.args.on_device c.volume_blocks.result whole (c.volume_blocks.ensures.blocks ∙ sym (ap blocks_of numbers)) c.if-on_device-volume_blocks.true)

pub returns-clause-told : goal.returns-clause-told
returns-clause-told c v numbers whole =
    c.has_sound_directories.ensures v numbers
    ∙ sym (directories_decide v c.args.on_device c.volume_blocks.result
    (sym (c.has_sound_sizes.ensures.told v numbers) ∙ c.if-not-has_sound_sizes.false)
    (sym (c.has_sound_first_group.ensures v numbers) ∙ c.if-not-has_sound_first_group.false)
    whole (c.volume_blocks.ensures.blocks ∙ sym (ap blocks_of numbers)) c.if-on_device-volume_blocks.false)

pub returns-clause-within : goal.returns-clause-within
returns-clause-within c good =
    let v : Volume = record { geo = c.args.geo.now; at = λ b. []; on_device = c.args.on_device } in
    all_within c.args.geo.now c.args.on_device c.volume_blocks.result (c.has_sound_sizes.ensures.sizes c.if-not-has_sound_sizes.false) c.volume_blocks.ensures.blocks c.if-on_device-volume_blocks.false
    v refl (sym (returns-clause-told c v refl refl) ∙ good)

-- The place, and then the backups.
use Rattle.std.proofs.Common.{refl, sym, ◌∙◌, ap, not, arith}
use Rattle.o2_model.specs.Checks.Super.{has_sound_first_group}
use Rattle.o2_view.specs.Geos.{bare}
use Rattle.o2_skeleton.proofs.Numbers.{no_place, place_decides}
use Rattle.o2_skeleton.proofs.super_numbers.has_sound_first_group.Goals as goal

pub returns-then-not-has_place : goal.returns-then-not-has_place
returns-then-not-has_place c v numbers =
    sym (no_place (bare c.args.geo.now) c.blocks_per_cluster-per_cluster.result _ c.blocks_per_cluster-per_cluster.ensures.blocks (omega (arith, c.block_bytes.ensures.bytes, c.block_bytes.ensures.some)) (sym c.has_place.ensures ∙ c.if-not-has_place.true))
    ∙ sym (ap (λ geo. has_sound_first_group (bare geo)) numbers)

pub returns : goal.returns
returns c v numbers =
    ap not (c.is_of_backup.ensures (bare c.args.geo.now) refl)
    ∙ sym (place_decides (bare c.args.geo.now) c.blocks_per_cluster-per_cluster.result _ c.blocks_per_cluster-per_cluster.ensures.blocks (omega (arith, c.block_bytes.ensures.bytes, c.block_bytes.ensures.some)) (sym c.has_place.ensures ∙ c.if-not-has_place.false))
    ∙ sym (ap (λ geo. has_sound_first_group (bare geo)) numbers)

-- A sound record lies within the volume.
use Rattle.std.proofs.Common.{refl, sym, ◌∙◌}
use Rattle.o2_model.specs.Extents.{leaf_of}
use Rattle.o2_view.specs.Geos.{bare}
use Rattle.o2_extent.proofs.Sizes.{sound_within}
use Rattle.o2_extent.proofs.rule.LeafRule.allows.Goals as goal

pub returns-in-ToClusters-clause-within : goal.returns-in-ToClusters-clause-within
returns-in-ToClusters-clause-within c sound clusters =
    let v = bare c.args.geo.now in
    sound_within v c.in-ToClusters.most_flags c.args.low (leaf_of c.args.r.now) (sym (c.is_sound_record.ensures v refl) ∙ sound)

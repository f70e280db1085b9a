-- The lines are those of the volume's numbers, and of its journals.
use Rattle.std.proofs.Common.{sym, ◌∙◌, ap}
use Rattle.o2_model.specs.declared.geo.Geo.{Geo}
use Rattle.o2_extent.proofs.Views.{only_both}
use Rattle.o2_view.proofs.Shown.{still_shows}
use Rattle.o2_debug.specs.VolumeLines.{volume_lines}
use Rattle.o2_debug.proofs.VolumeText.{stats_is}
use Rattle.o2_debug.proofs.volume.stats_lines.Goals as goal

pub returns-clause-told : goal.returns-clause-told
returns-clause-told g c v shows tables =
    stats_is v c.in_ok-part.part c.in_ok-used.used c.in_ok-first.first c.in_ok-others.others c.in_ok-joined.field-0
    (c.in_ok-part.ensures.told v shows)
    (c.in_ok-used.ensures.told v (still_shows c.superblock.ensures.reads shows) tables)
    (c.in_ok-first.ensures ∙ ap (λ (numbers : Geo). volume_lines numbers c.in_ok-part.part c.in_ok-used.used) (sym shows.numbers))
    (c.in_ok-others.ensures.told v (still_shows (only_both c.superblock.ensures.reads c.used_clusters.ensures.reads) shows) tables)
    c.in_ok-joined.ensures

pub returns-clause-reads : goal.returns-clause-reads
returns-clause-reads g c = only_both (only_both c.superblock.ensures.reads c.used_clusters.ensures.reads) c.journal_lines.ensures.reads

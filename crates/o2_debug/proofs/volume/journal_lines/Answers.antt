-- One line more.
use Rattle.std.proofs.Common.{ℕ, List, [], ◌∷◌, ◌++◌, ◌∙◌, ap}
use Rattle.o2_extent.proofs.Views.{only_both}
use Rattle.o2_view.proofs.Shown.{still_shows}
use Rattle.o2_debug.proofs.VolumeText.{journal_more}
use Rattle.o2_debug.proofs.volume.journal_lines.Goals as goal

pub loop-slot-preserved : goal.loop-slot-preserved
loop-slot-preserved g c = record {
  lines = λ v shows tables.
      journal_more v c.loop-slot.slot c.in_ok-clusters.clusters c.loop-slot.lines.items _ (c.loop-slot.invariant.lines v shows tables)
      (c.in_ok-clusters.ensures.told v (still_shows c.loop-slot.invariant.reads shows) tables)
      (c.in_ok-put.ensures ∙ ap (λ (line : List ℕ). c.loop-slot.lines.items ++ line ∷ []) c.in_ok-journal_line.ensures);
  reads = only_both c.loop-slot.invariant.reads c.journal_clusters.ensures.reads;
}

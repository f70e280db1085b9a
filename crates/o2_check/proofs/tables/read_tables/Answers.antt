-- Each table is the volume's.
use Rattle.std.proofs.Common.{sym, ◌∙◌, subst}
use Rattle.o2_view.proofs.Shown.{still_shows}
use Rattle.o2_extent.proofs.Views.{only_both}
use Rattle.o2_tables.specs.Rows.{IsInodeTable}
use Rattle.o2_tree.specs.TreeWalks.{AreOwn}
use Rattle.o2_check.proofs.tables.read_tables.Goals as goal

pub returns-clause-told : goal.returns-clause-told
returns-clause-told g c v shows is =
    let at_trees = still_shows c.in_ok-survey.ensures.reads shows in
    let at_windows = still_shows c.in_ok-trees.ensures.reads at_trees in
    let at_logs = still_shows c.in_ok-windows.ensures.reads at_windows in
    let at_backups = still_shows c.in_ok-logs.ensures.reads at_logs in
    let own : AreOwn v c.in_ok-own.own = record { each = c.in_ok-own.ensures v shows.numbers (c.as_slice.ensures ∙ is.entries) } in
    let bits = c.deref.ensures.value ∙ is.on_bits in
    let judged = c.in_ok-survey.ensures.told v shows bits own in
    let inodes : IsInodeTable v c.in_ok-survey.survey.rows.items = record { inodes = judged.inodes; each = judged.each } in
    let roots = c.in_ok-roots.ensures v (subst (IsInodeTable v) (sym c.deref-2.ensures.value) inodes) in
    record {
      skeleton = is;
      own = own;
      judged = judged;
      inodes = inodes;
      directories = c.in_ok-survey.ensures.directories v shows bits own;
      indexes = c.in_ok-survey.ensures.indexes v shows bits own;
      trees = c.in_ok-trees.ensures.told v at_trees (c.deref-3.ensures.value ∙ roots);
      windows = c.in_ok-windows.ensures.told v at_windows is.names is.inodes.read;
      logs = c.in_ok-logs.ensures.told v at_logs is.names;
      backups = c.in_ok-backups.ensures.told v at_backups;
    }

pub returns-clause-reads : goal.returns-clause-reads
returns-clause-reads g c =
    only_both c.in_ok-survey.ensures.reads (only_both c.in_ok-trees.ensures.reads (only_both c.in_ok-windows.ensures.reads (only_both c.in_ok-logs.ensures.reads c.in_ok-backups.ensures.reads)))

-- Each finding is the volume's.
use Rattle.std.proofs.Common.{sym, ◌∙◌, subst}
use Rattle.o2_tables.specs.Rows.{IsInodeTable}
use Rattle.o2_tree.specs.TreeRows.{IsDirectoryTable}
use Rattle.o2_check.proofs.findings.find.Goals as goal

pub returns : goal.returns
returns c v numbers are =
    let judged = c.in_ok-judged.ensures v numbers are in
    record {
      tables = are;
      walk = c.in_ok-walk.ensures v numbers are;
      orphans = c.in_ok-orphans.ensures v (subst (IsDirectoryTable v) (sym c.deref.ensures.value) are.directories) (c.deref-2.ensures.value ∙ c.in_ok-slots.ensures v numbers are.skeleton.names);
      references = c.in_ok-references.ensures v (subst (IsInodeTable v) (sym c.deref-3.ensures.value) are.inodes);
      judged = judged;
      in_use = c.in_ok-in_use.ensures v are judged.indexes;
      inodes = c.in_ok-inodes.ensures v (subst (IsInodeTable v) (sym c.deref-4.ensures.value) are.inodes);
      dirty = c.in_ok-dirty.ensures v numbers are;
    }

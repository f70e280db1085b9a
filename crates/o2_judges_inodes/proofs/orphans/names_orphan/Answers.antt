-- The row of the inode tells it.
use Rattle.std.proofs.Common.{not, sym, ◌∙◌, ap}
use Rattle.o2_judges_inodes.proofs.OrphansTold.{named_marked, named_unmarked, none_named}
use Rattle.o2_judges_inodes.proofs.orphans.names_orphan.Goals as goal

pub returns-then-is_orphaned : goal.returns-then-is_orphaned
returns-then-is_orphaned c = λ v table own.
    ap not c.contains.ensures ∙ named_marked v _ c.args.entry.now own c.in-Some.row.now (c.in-Some.ensures v table) (sym c.is_orphaned.ensures ∙ c.if-is_orphaned.true)

pub returns-else-is_orphaned : goal.returns-else-is_orphaned
returns-else-is_orphaned c = λ v table own.
    c.if-is_orphaned.false ∙ named_unmarked v _ c.args.entry.now own c.in-Some.row.now (c.in-Some.ensures v table) (sym c.is_orphaned.ensures ∙ c.if-is_orphaned.false)

pub returns-in-None : goal.returns-in-None
returns-in-None c = λ v table own. none_named v _ c.args.entry.now own (c.in-None.ensures v table)

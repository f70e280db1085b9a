-- The row of the directory tells its entries.
use Rattle.std.proofs.Common.{◌++◌, filter, ◌∙◌, ap, subst}
use Rattle.std.proofs.lemmas.Result.{on_ok_weaker}
use Rattle.o2_tree.specs.TreeRows.{IsDirectoryAt}
use Rattle.o2_check.specs.OrphanRows.{is_name, named_rows}
use Rattle.o2_check.proofs.OrphansTold.{row_names}
use Rattle.o2_check.proofs.orphans.add_directory.Goals as goal

pub returns : goal.returns
returns c = on_ok_weaker c.add_entries.result
    (λ more v table.
    let found : IsDirectoryAt v c.args.b c.in-Some.row.now = c.in-Some.ensures v table in
    more ∙ ap (λ rs. c.args.found.now.items ++ rs) (ap (filter is_name) c.as_slice.ensures ∙ row_names v c.args.b c.in-Some.row.now found))
    c.add_entries.ensures

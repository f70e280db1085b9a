-- The search ends at the row of the block, or tells that there is none.
use Rattle.std.proofs.Common.{rules}
use Rattle.std.proofs.lemmas.List.Sorted.{answers_always}
use Rattle.o2_tree.specs.TreeRows.{IsDirectoryAt}
use Rattle.o2_tree.proofs.Finds.{lent_from, directory_there, no_directory}
use Rattle.o2_tree.proofs.search.find_directory.Goals as goal

pub returns-in-Ok : goal.returns-in-Ok
returns-in-Ok c = λ v table.
    let rows = c.args.directories.now in
    let found = c.in-Ok.ensures in
    let equal = found.position (λ row. row.block) (answers_always _ _ _ (λ f a r g called. search rules)) in
    let there = directory_there v c.args.b c.in-Ok.at rows table found.bound equal in
    lent_from (IsDirectoryAt v c.args.b) _ rows c.in-Ok.at c.get.result found.bound c.get.ensures.lookup.0 c.get.ensures.lookup.1 there

pub returns-in-Err : goal.returns-in-Err
returns-in-Err c = λ v table.
    let missed = c.in-Err.ensures.position (λ row. row.block) (answers_always _ _ _ (λ f a r g called. search rules)) in
    no_directory v c.args.b c.in-Err.field-0 c.args.directories.now table missed

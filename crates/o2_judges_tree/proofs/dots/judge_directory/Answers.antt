-- Those of one name behind those of the other.
use Rattle.std.proofs.lemmas.Result.{on_ok_weaker}
use Rattle.o2_judges_tree.proofs.DotsTold.{dots_at}
use Rattle.o2_judges_tree.proofs.dots.judge_directory.Goals as goal

pub returns : goal.returns
returns c = on_ok_weaker c.judge_name-2.result
    (λ second v table. dots_at v c.args.directory c.in-Some.row.now _ _ _ _ (c.in-Some.ensures v table) c.as_slice-entries.ensures c.in_ok-judge_name.ensures second)
    c.judge_name-2.ensures

-- One reference more.
use Rattle.o2_judges_refcount.proofs.TimesTold.{counts_more}
use Rattle.o2_judges_refcount.proofs.tree_times.TreeTimes.add.Goals as goal

pub returns-in-Ok : goal.returns-in-Ok
returns-in-Ok c = λ all are.
    counts_more all c.args.one c.args.self.now.times c.insert.new.self c.times.result c.in-Some.now are c.times.ensures c.in-Some.ensures.1 c.in-Ok.ensures.updates.0

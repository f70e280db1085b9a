-- An unsound header has no records.
use Rattle.std.proofs.Common.{◌∙◌}
use Rattle.o2_survey.proofs.Rows.{no_chains}
use Rattle.o2_survey.proofs.allocator_rows.chain_records.Goals as goal

pub returns-in-None-clause-records : goal.returns-in-None-clause-records
returns-in-None-clause-records c v numbers bytes =
    c.from-in-None.ensures ∙ (c.new.ensures.items ∙ no_chains v c.args.a.now ((rw c.in-None.is at c.in_ok-records.ensures.bad) v numbers bytes))

-- What the tables lack, each volume that is shown lacks.
use Rattle.std.proofs.lemmas.Result.{IfErr-weaker}
use Rattle.o2_check.proofs.WholeFails.{tables_fail}
use Rattle.o2_check.proofs.whole.check_further.Goals as goal

pub returns-clause-fails : goal.returns-clause-fails
returns-clause-fails g c = IfErr-weaker c.report_of.result _ _
    (tables_fail c.args.view.now c.read_tables.new.view c.args.geo.now c.in_ok-tables.tables c.requires.holds (λ v shows. c.in_ok-tables.ensures.told v shows (c.requires.tables v shows)))
    c.report_of.ensures.fails

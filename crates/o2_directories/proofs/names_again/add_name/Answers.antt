-- The set has the names that it had, and this one.
use Rattle.std.proofs.Common.{ap, not, ◌∙◌}
use Rattle.o2_directories.proofs.MetNames.{has, has_equal, has_one_more}
use Rattle.o2_directories.proofs.names_again.add_name.Goals as goal

pub returns-in-Ok-clause-new : goal.returns-in-Ok-clause-new
returns-in-Ok-clause-new c = c.in-Ok.ensures.added ∙ ap not (has_equal c.args.names.now.keys c.args.name)

pub returns-in-Ok-clause-put : goal.returns-in-Ok-clause-put
returns-in-Ok-clause-put c = λ other. ap (λ ks. has ks other) c.in-Ok.ensures.keys ∙ has_one_more c.args.names.now.keys c.args.name other

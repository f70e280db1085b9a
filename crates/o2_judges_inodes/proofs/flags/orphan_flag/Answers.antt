-- The rows tell it.
use Rattle.std.proofs.Common.{◌∙◌, ap}
use Rattle.o2_model.specs.Orders.{rising}
use Rattle.o2_judges_inodes.proofs.OrphansTold.{flags_told}
use Rattle.o2_judges_inodes.proofs.flags.orphan_flag.Goals as goal

pub returns-in-Ok : goal.returns-in-Ok
returns-in-Ok c = λ v table met. ap rising c.in-Ok.ensures ∙ flags_told v _ _ table met

-- The rows tell it.
use Rattle.std.proofs.Common.{◌∙◌, ap}
use Rattle.o2_model.specs.Orders.{rising}
use Rattle.o2_judges_inodes.proofs.OrphansTold.{connected_told}
use Rattle.o2_judges_inodes.proofs.connected.not_connected.Goals as goal

pub returns-in-Ok : goal.returns-in-Ok
returns-in-Ok c = λ v table met own listed. ap rising (c.in-Ok.ensures ∙ connected_told v _ _ _ _ met own listed c.in_ok-named.ensures _ table)

-- The rows tell it.
use Rattle.std.proofs.Common.{◌∙◌, ap}
use Rattle.o2_model.specs.Orders.{rising}
use Rattle.o2_judges_inodes.proofs.LinksTold.{links_told}
use Rattle.o2_judges_inodes.proofs.links.inode_count.Goals as goal

pub returns-in-Ok : goal.returns-in-Ok
returns-in-Ok c = λ v table met. ap rising c.in-Ok.ensures ∙ links_told v _ _ table met

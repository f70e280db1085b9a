-- The rows tell it.
use Rattle.std.proofs.Common.{◌∙◌, ap}
use Rattle.o2_model.specs.Orders.{rising}
use Rattle.o2_judges_inodes.proofs.ClustersTold.{clusters_told}
use Rattle.o2_judges_inodes.proofs.clusters.inode_clusters.Goals as goal

pub returns-in-Ok : goal.returns-in-Ok
returns-in-Ok c = λ v same allocators groups table.
    ap rising (c.in-Ok.ensures ∙ clusters_told v _ _ _ _ _ _ same allocators groups table c.in_ok-sums.ensures c.in_ok-totals.ensures)

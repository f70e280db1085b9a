-- Each cluster has as many blocks.
use Rattle.std.proofs.Common.{◌≡◌, ◌-◌, ◌^◌, sym, ◌∙◌, ap}
use Rattle.o2_model.specs.Volume.{per_cluster}
use Rattle.o2_judges_slots.proofs.BlocksUnder.{blocks_counted}
use Rattle.o2_judges_slots.proofs.journal_records.blocks_without_gap.Goals as goal

pub returns-clause-blocks : goal.returns-clause-blocks
returns-clause-blocks c v numbers =
    let per : c.blocks_per_cluster.result ≡ per_cluster v = c.blocks_per_cluster.ensures.blocks ∙ ap (λ geo. 2 ^ (geo.cluster_bits - geo.block_bits)) (sym numbers) in
    rw (c.in_ok-clusters.ensures.clusters, per) (blocks_counted v c.args.leaves.now)

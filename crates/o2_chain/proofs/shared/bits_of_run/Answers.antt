-- As many bits as lie between the two.
use Rattle.std.proofs.Common.{◌≡◌, ◌*◌, ◌/◌, ◌^◌, sym, ◌∙◌, ap, ◌-◌, arith}
use Rattle.o2_model.specs.declared.geo.Geo.{Geo}
use Rattle.o2_model.specs.Clusters.{cluster_of}
use Rattle.o2_model.specs.ClusterGroups.{group_size, group_index}
use Rattle.o2_model.specs.Checks.ClusterAllocBit.{cluster_of_bit}
use Rattle.o2_view.specs.FreeRuns.{is_of_run}
use Rattle.o2_chain.specs.Walks.{group_in}
use Rattle.o2_chain.proofs.Counts.{count_between, between}
use Rattle.o2_chain.proofs.shared.bits_of_run.Goals as goal

pub returns-clause-count : goal.returns-clause-count
returns-clause-count c v numbers a =
    let g = group_in a c.args.group.now in
    let first = group_index v g.block * group_size v in
    let size : c.group_size-size.result ≡ group_size v = c.group_size-size.ensures.size ∙ ap (λ (geo : Geo). 8 * (2 ^ geo.block_bits - 64)) (sym numbers) in
    let cluster : c.args.group.now.block / c.blocks_per_cluster.result ≡ cluster_of v g.block = ap (λ n. g.block / n) (c.blocks_per_cluster.ensures.blocks ∙ ap (λ (geo : Geo). 2 ^ (geo.cluster_bits - geo.block_bits)) (sym numbers)) in
    let same : c.args.group.now.block / c.blocks_per_cluster.result / c.group_size-size.result * c.group_size-size.result ≡ first = ap (λ n. n / c.group_size-size.result * c.group_size-size.result) cluster ∙ ap (λ n. cluster_of v g.block / n * n) size in
    count_between (λ k. is_of_run (cluster_of_bit v g k) c.args.run) c.min.result c.min-2.result g.bits (omega arith)
    (λ k low. between c.args.run first g.bits c.min.result c.min-2.result k (omega (arith, same)) (omega (arith, same)) low)

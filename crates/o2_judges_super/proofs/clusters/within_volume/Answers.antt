-- One backup more.
use Rattle.std.proofs.Common.{sym, arith, ◌∙◌, ap, [], ◌∷◌, ◌++◌, ◌+◌, ◌-◌, ◌*◌, ◌^◌, nat_lt, cond}
use Rattle.std.proofs.lemmas.List.FromFn.{filter_of_map_range_with_len_more}
use Rattle.o2_judges_super.proofs.clusters.within_volume.Goals as goal

pub loop-k-preserved : goal.loop-k-preserved
loop-k-preserved c =
    c.in_ok-add_within.ensures
    ∙ (ap (λ n. c.loop-k.found.items ++ cond (nat_lt n c.args.geo.now.clusters) (n ∷ []) []) c.backup_cluster.ensures
    ∙ (ap (λ ns. ns ++ cond (nat_lt (2 ^ (30 + 2 * c.loop-k.k - c.args.geo.now.cluster_bits)) c.args.geo.now.clusters) (2 ^ (30 + 2 * c.loop-k.k - c.args.geo.now.cluster_bits) ∷ []) []) c.loop-k.invariant
    ∙ sym (filter_of_map_range_with_len_more (λ n. nat_lt n c.args.geo.now.clusters) (λ k. 2 ^ (30 + 2 * k - c.args.geo.now.cluster_bits)) 0 c.loop-k.k c.loop-k.k (omega arith))))

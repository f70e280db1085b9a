-- The first of them, the next start of a group, or a backup.
use Rattle.std.proofs.Common.{◌≡◌, ◌+◌, ◌-◌, ◌*◌, ◌/◌, ◌%◌, ◌^◌, ◌<◌, sym, ◌∙◌, ap, arith}
use Rattle.o2_model.specs.ClusterGroups.{group_size}
use Rattle.o2_model.specs.declared.geo.Geo.{Geo}
use Rattle.o2_chain.proofs.FixedClusters.{fixed_start, fixed_backup, not_fixed, between_multiples, next_multiple}
use Rattle.o2_chain.proofs.places.has_fixed.Goals.{then-over-eq0-via-then-over-eq0, then-over-eq0-via-else-over-eq0+then-size-over}
use Rattle.o2_chain.proofs.places.has_fixed.Goals as goal

pub returns-then-over-eq0-clause-some : goal.returns-then-over-eq0-clause-some
returns-then-over-eq0-clause-some c met v same =
    let size : c.group_size-size.result ≡ group_size v = c.group_size-size.ensures.size ∙ ap (λ (g : Geo). 8 * (2 ^ g.block_bits - 64)) (sym same) in
    elim c.then-over-eq0.branch [
      | then-over-eq0-via-then-over-eq0 w ↦ (c.args.first, omega arith, omega (arith, c.requires.some_clusters), fixed_start v c.args.first (rw size at w.if-over-eq0.true))
      | then-over-eq0-via-else-over-eq0+then-size-over w ↦ (
        c.args.first + (c.group_size-size.result - c.args.first % c.group_size-size.result),
        omega arith,
        omega (arith, w.if-size-over.true),
        fixed_start v _ (ap (λ n. (c.args.first + (c.group_size-size.result - c.args.first % c.group_size-size.result)) % n) (sym size) ∙ next_multiple c.group_size-size.result c.args.first (omega (arith, c.group_size-size.ensures.some))),
      )
    ]

pub returns-clause-some : goal.returns-clause-some
returns-clause-some c met v same = let found = c.has_backup.ensures.some met v same in (found.0, found.1, found.2, fixed_backup v found.0 found.3)

pub returns-clause-none : goal.returns-clause-none
returns-clause-none c unmet v same n low high =
    let size : c.group_size-size.result ≡ group_size v = c.group_size-size.ensures.size ∙ ap (λ (g : Geo). 8 * (2 ^ g.block_bits - 64)) (sym same) in
    let behind : c.args.geo.now.first_group / c.blocks_per_cluster.result < n = omega (arith, c.if-first-geo.false, low) in
    not_fixed v n
    (rw same (rw c.blocks_per_cluster.ensures.blocks at behind))
    (rw size at (between_multiples c.group_size-size.result c.args.first n (omega (arith, c.group_size-size.ensures.some)) (omega (arith, c.if-over-eq0.false)) low (omega (arith, c.if-size-over.false, high))))
    (c.has_backup.ensures.none unmet v same n low high)

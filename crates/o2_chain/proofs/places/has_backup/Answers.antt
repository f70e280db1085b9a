-- The one that was found, or none.
use Rattle.std.proofs.Common.{◌≡◌, ap, ◌∙◌, arith}
use Rattle.o2_model.specs.declared.geo.Geo.{Geo}
use Rattle.o2_chain.proofs.Backups.{place, is_backup_of, no_backup}
use Rattle.o2_chain.proofs.places.has_backup.Goals as goal

pub returns-then-is_backup_among-clause-some : goal.returns-then-is_backup_among-clause-some
returns-then-is_backup_among-clause-some c met v same =
    let found = c.is_backup_among.ensures.some c.if-is_backup_among.true in
    (place c.args.geo.now.cluster_bits c.loop-k.k, found.1, found.2, is_backup_of v c.args.geo.now same c.loop-k.k c.loop-k-test.true c.if-geo-eq0.false found.0)

pub returns-clause-none : goal.returns-clause-none
returns-clause-none c unmet v same n low high = no_backup v n (λ k small few is.
    let bits : v.geo.cluster_bits ≡ c.args.geo.now.cluster_bits = ap (λ (g : Geo). g.cluster_bits) same in
    let at : n ≡ place c.args.geo.now.cluster_bits k = is ∙ ap (λ b. place b k) bits in
    let past = c.loop-k.invariant k (omega (arith, small, c.loop-k-test.false)) (rw same at few) (omega (arith, at, low)) in
    omega (arith, past, at, high))

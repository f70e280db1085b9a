-- The clusters that have an owner are the keys.
use Rattle.std.proofs.Common.{arith, ◌∙◌}
use Rattle.o2_claims.specs.Owners.{clusters_of, owner_of}
use Rattle.o2_claims.proofs.Keys.{few_keys, count_keys}
use Rattle.o2_claims.proofs.claims.Claims.count.Goals as goal

pub overflow_cast-result : goal.overflow_cast-result
overflow_cast-result c = omega (arith, few_keys c.args.self.now.first.entries c.args.self.now.clusters c.len.ensures.ordered c.args.self.now.below, c.len.ensures.len)

pub returns : goal.returns
unfolding clusters_of owner_of
returns c = c.len.ensures.len ∙ count_keys c.args.self.now.first.entries c.args.self.now.clusters c.len.ensures.ordered c.args.self.now.below

-- The first that has an owner tells it.
use Rattle.std.proofs.Common.{◌∙◌}
use Rattle.o2_claims.specs.Owners.{has_owner, owner_of}
use Rattle.o2_claims.proofs.FirstBetween.{first_tells}
use Rattle.o2_claims.proofs.claims.Claims.has_owner_between.Goals as goal

pub returns-then-start-end : goal.returns-then-start-end
unfolding owner_of
returns-then-start-end c =
    c.is_some.ensures ∙ first_tells (has_owner c.args.self.now) c.args.start c.args.end c.first_between.result c.if-start-end.true c.first_between.ensures.found c.first_between.ensures.none

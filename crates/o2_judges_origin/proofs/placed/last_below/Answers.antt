-- The last of the range.
use Rattle.std.proofs.Common.{arith}
use Rattle.std.proofs.lemmas.Grind.{common_steps}
use Rattle.o2_judges_origin.proofs.placed.last_below.Goals as goal

pub returns-in-Some-clause-last : goal.returns-in-Some-clause-last
returns-in-Some-clause-last c s kept at low = let h = (c.range.ensures.in_range tt).4 _ _ c.in-Some.ensures.steps s in grind (arith, common_steps, h)

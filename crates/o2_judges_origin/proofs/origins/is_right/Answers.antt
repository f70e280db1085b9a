-- The place of the group tells.
use Rattle.std.proofs.Common.{true, ◌∙◌, ap}
use Rattle.std.specs.Option.{option_map_or}
use Rattle.o2_judges_origin.specs.Placed.{is_origin_in}
use Rattle.o2_judges_origin.proofs.OriginsTold.{origin_told}
use Rattle.o2_judges_origin.proofs.origins.is_right.Goals as goal

pub returns-in-Some : goal.returns-in-Some
returns-in-Some c = λ v is_use are.
    c.is_of_group.ensures
    ∙ (ap (λ o. option_map_or (is_origin_in c.args.origin.now c.args.b) o true) (c.in-Some.ensures.told v is_use are) ∙ origin_told v is_use c.args.origin.now c.args.b)

pub returns-in-None : goal.returns-in-None
returns-in-None c = λ v is_use are.
    ap (λ o. option_map_or (is_origin_in c.args.origin.now c.args.b) o true) (c.in-None.ensures.told v is_use are) ∙ origin_told v is_use c.args.origin.now c.args.b

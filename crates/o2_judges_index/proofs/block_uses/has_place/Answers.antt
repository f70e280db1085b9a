-- The place of the group tells.
use Rattle.std.proofs.Common.{false, ◌∙◌, ap}
use Rattle.std.specs.Option.{option_map_or}
use Rattle.o2_judges_index.specs.IndexRows.{is_placed_in}
use Rattle.o2_judges_index.proofs.BlocksTold.{place_told}
use Rattle.o2_judges_index.proofs.block_uses.has_place.Goals as goal

pub returns-in-Some : goal.returns-in-Some
returns-in-Some c = λ v is_use are.
    c.is_placed.ensures
    ∙ (ap (λ o. option_map_or (is_placed_in c.args.origin.now c.args.block) o false) (c.in-Some.ensures.told v is_use are) ∙ place_told v is_use c.args.origin.now c.args.block)

pub returns-in-None : goal.returns-in-None
returns-in-None c = λ v is_use are.
    ap (λ o. option_map_or (is_placed_in c.args.origin.now c.args.block) o false) (c.in-None.ensures.told v is_use are) ∙ place_told v is_use c.args.origin.now c.args.block

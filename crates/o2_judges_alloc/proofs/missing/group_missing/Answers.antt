-- The rows tell it.
use Rattle.std.proofs.Common.{◌∙◌, ap}
use Rattle.std.proofs.lemmas.Result.{IfOk-weaker}
use Rattle.o2_model.specs.Orders.{rising}
use Rattle.o2_judges_alloc.proofs.PlacesTold.{missing_told}
use Rattle.o2_judges_alloc.proofs.missing.group_missing.Goals as goal

pub returns : goal.returns
returns c = IfOk-weaker c.places_not_in.result _ _ (λ places is v same table. ap rising (is ∙ missing_told v _ _ _ same table c.in_ok-reached.ensures)) c.places_not_in.ensures

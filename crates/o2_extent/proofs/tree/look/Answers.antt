-- The view shows the block for these numbers as for any.
use Rattle.std.proofs.lemmas.Result.{IfOk-weaker}
use Rattle.o2_extent.proofs.tree.look.Goals as goal

pub returns-clause-bytes : goal.returns-clause-bytes
returns-clause-bytes g c = IfOk-weaker c.block.result _ _ (λ block shown v shows. shown c.args.geo.now v shows) c.block.ensures.shown

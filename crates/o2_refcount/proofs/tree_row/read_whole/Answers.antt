-- The root's bytes are those of the volume.
use Rattle.std.proofs.Common.{◌∙◌}
use Rattle.std.proofs.lemmas.Result.{IfOk-weaker}
use Rattle.o2_view.proofs.Shown.{still_shows}
use Rattle.o2_refcount.proofs.tree_row.read_whole.Goals as goal

pub returns-clause-told : goal.returns-clause-told
returns-clause-told g c =
    let first = c.in_ok-block.ensures in
    IfOk-weaker c.read_in.result _ _ (λ tree told v shows. told v (record { shows = still_shows first.reads shows; is = c.as_slice.ensures ∙ first.bytes v shows })) c.read_in.ensures.told

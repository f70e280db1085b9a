-- Its blocks, and then its clusters decide.
use Rattle.std.proofs.Common.{◌∙◌, ap}
use Rattle.std.proofs.lemmas.Result.{IfOk-weaker}
use Rattle.o2_model.specs.Claims.{claimed_clusters}
use Rattle.o2_judges_index.specs.IndexRows.{clusters_of_runs, are_new_once}
use Rattle.o2_judges_index.proofs.ClustersTold.{clusters_told}
use Rattle.o2_judges_index.proofs.SoundTold.{unsound_told, sound_told}
use Rattle.o2_judges_index.proofs.judge.is_sound.Goals as goal

pub returns-then-not-has_own_blocks : goal.returns-then-not-has_own_blocks
returns-then-not-has_own_blocks c = λ v before are is all owners.
    unsound_told v (claimed_clusters before) c.args.row.now.directory c.has_own_blocks.result (c.has_own_blocks.ensures v are is) c.if-not-has_own_blocks.true

pub returns : goal.returns
returns c = IfOk-weaker c.has_own_clusters.result _ _
    (λ own told v before are is all owners.
    sound_told v (claimed_clusters before) c.args.row.now.directory c.has_own_blocks.result own (c.has_own_blocks.ensures v are is) c.if-not-has_own_blocks.false
    (told ∙ ap (λ runs. are_new_once c.args.claims.now (clusters_of_runs runs)) c.as_slice.ensures ∙ clusters_told v before c.args.claims.now c.args.row.now is all owners)) c.has_own_clusters.ensures

-- SUPER has held.
use Rattle.std.proofs.Common.{sym, ◌∙◌}
use Rattle.std.proofs.lemmas.Result.{IfOk-weaker, IfErr-weaker}
use Rattle.o2_view.specs.Views.{Shows}
use Rattle.o2_view.proofs.Shown.{still_shows}
use Rattle.o2_skeleton.specs.Skeleton.{super_check, directory_checks}
use Rattle.o2_skeleton.proofs.Sequence.{fails_behind}
use Rattle.o2_skeleton.proofs.Skeletons.{super_holds}
use Rattle.o2_skeleton.proofs.skeleton.judge_skeleton.Goals as goal

pub returns-clause-told : goal.returns-clause-told
returns-clause-told g c = IfOk-weaker c.judge_directories.result _ _
    (λ skeleton told v shows. (super_holds v (sym (c.in_ok-has_sound_super.ensures.is v shows) ∙ c.if-not-branch.false), (told v (still_shows c.has_sound_super.ensures.reads shows)).0))
    c.judge_directories.ensures.told

pub returns-clause-fails : goal.returns-clause-fails
returns-clause-fails g c = IfErr-weaker c.judge_directories.result _ _
    (fails_behind c.args.view.now c.has_sound_super.new.view c.judge_directories.new.view (Shows c.args.view.now c.args.geo.now) (Shows c.has_sound_super.new.view c.args.geo.now) super_check directory_checks
    c.has_sound_super.ensures.reads (λ v shows. still_shows c.has_sound_super.ensures.reads shows)
    (λ v shows. super_holds v (sym (c.in_ok-has_sound_super.ensures.is v shows) ∙ c.if-not-branch.false)))
    c.judge_directories.ensures.fails

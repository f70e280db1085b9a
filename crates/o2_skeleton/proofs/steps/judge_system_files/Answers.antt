-- The tables tell where the check fails.
use Rattle.std.proofs.Common.{◌≡◌, List, sym, subst, ◌∙◌, ap}
use Rattle.std.proofs.lemmas.Result.{on_ok_weaker, IfErr-weaker}
use Rattle.o2_model.specs.declared.entry.Entry.{Entry}
use Rattle.o2_model.specs.Checks.Sysfile.{sysfile_faults}
use Rattle.o2_model.specs.Orders.{rising}
use Rattle.o2_model.specs.Volume.{Volume}
use Rattle.o2_survey.specs.SystemInodes.{AreSystemInodes, named_by}
use Rattle.o2_skeleton.specs.Skeleton.{sysfile_check}
use Rattle.o2_skeleton.specs.SkeletonTables.{IsSkeletonOf}
use Rattle.o2_skeleton.proofs.Sequence.{files_by_table, table_holds, table_fails}
use Rattle.o2_skeleton.proofs.steps.judge_system_files.Goals as goal

told : (c : goal.After-drop-found) (v : Volume) → IsSkeletonOf c.args.geo.now c.args.skeleton.now v → rising c.as_slice-3.result.now ≡ rising (sysfile_faults v)
told c v is =
    ap rising c.as_slice-3.ensures.value
    ∙ files_by_table v c.in_ok-found.found.items
    (c.in_ok-found.ensures v is.numbers (c.as_slice.ensures ∙ is.tables.entries) is.tables.names
    (subst (λ (es : List Entry). AreSystemInodes v (named_by es) c.args.skeleton.now.inodes) (sym c.as_slice.ensures) is.tables.inodes)
    (c.as_slice-2.ensures.value ∙ is.tables.on_bits))

pub returns-clause-told : goal.returns-clause-told
returns-clause-told c = on_ok_weaker c.judged.result (λ none. table_holds (IsSkeletonOf c.args.geo.now c.args.skeleton.now) sysfile_check c.as_slice-3.result.now (told c) none) c.judged.ensures.none

pub returns-clause-fails : goal.returns-clause-fails
returns-clause-fails c = IfErr-weaker c.judged.result _ _ (table_fails (IsSkeletonOf c.args.geo.now c.args.skeleton.now) sysfile_check c.as_slice-3.result.now (told c)) c.judged.ensures.bad

-- SYSDIR has held, and the tables are the volume's.
use Rattle.std.proofs.Common.{sym, ◌∙◌, ap}
use Rattle.std.proofs.lemmas.Result.{err_from_is_err_and}
use Rattle.o2_model.specs.Directories.{directory_entries}
use Rattle.o2_view.specs.Views.{Shows}
use Rattle.o2_view.proofs.Shown.{still_shows}
use Rattle.o2_extent.proofs.Views.{only_both}
use Rattle.o2_skeleton.specs.Skeleton.{sysdir_check, file_checks}
use Rattle.o2_skeleton.specs.SkeletonTables.{ShowsSkeleton}
use Rattle.o2_skeleton.proofs.Sequence.{fails_behind}
use Rattle.o2_skeleton.proofs.Skeletons.{sysdir_holds}
use Rattle.o2_skeleton.proofs.skeleton.judge_directories.Goals as goal

pub returns-in_err-judge_files-clause-fails : goal.returns-in_err-judge_files-clause-fails
returns-in_err-judge_files-clause-fails g c =
    let some = rw c.in-Some.is at c.in_ok-entries.ensures.some in
    let p = err_from_is_err_and c.from_residual-in_err-judge_files.result c.from_residual-in_err-judge_files.ensures.1 in
    rw (p.1, p.2)
    (fails_behind c.args.view.now c.read_skeleton.new.view c.judge_files.new.view (Shows c.args.view.now c.args.geo.now) (ShowsSkeleton c.read_skeleton.new.view c.args.geo.now c.in_ok-skeleton.skeleton) sysdir_check file_checks
    (only_both c.in_ok-entries.ensures.reads c.in_ok-skeleton.ensures.reads)
    (λ v shows. record {
      shows = still_shows c.in_ok-skeleton.ensures.reads (still_shows c.in_ok-entries.ensures.reads shows);
      tables = c.in_ok-skeleton.ensures.told v (still_shows c.in_ok-entries.ensures.reads shows) ((some v shows).1 ∙ sym (ap (λ geo. directory_entries v geo.sysdir) shows.numbers));
    })
    (λ v shows. sysdir_holds v _ (ap (λ geo. geo.sysdir) shows.numbers) (some v shows).0)
    c.in_err-judge_files.field-0.0 c.in_err-judge_files.ensures.fails)

pub returns-clause-told : goal.returns-clause-told
returns-clause-told g c v shows =
    let some = rw c.in-Some.is at c.in_ok-entries.ensures.some in
    let tables = c.in_ok-skeleton.ensures.told v (still_shows c.in_ok-entries.ensures.reads shows) ((some v shows).1 ∙ sym (ap (λ geo. directory_entries v geo.sysdir) shows.numbers)) in
    let later = still_shows c.in_ok-skeleton.ensures.reads (still_shows c.in_ok-entries.ensures.reads shows) in
    ((sysdir_holds v _ (ap (λ geo. geo.sysdir) shows.numbers) (some v shows).0, c.in_ok-judge_files.ensures.told v (record { shows = later; tables = tables })), tables)

pub returns-clause-reads : goal.returns-clause-reads
returns-clause-reads g c = only_both c.in_ok-entries.ensures.reads (only_both c.in_ok-skeleton.ensures.reads c.in_ok-judge_files.ensures.reads)

-- The dinode, and then the entries.
use Rattle.std.proofs.Common.{◌∙◌}
use Rattle.std.proofs.lemmas.Option.{IfSome_then}
use Rattle.std.proofs.lemmas.Result.{IfOk-weaker}
use Rattle.o2_view.proofs.Shown.{still_shows}
use Rattle.o2_skeleton.proofs.Tests.{none_then}
use Rattle.o2_skeleton.proofs.Skeletons.{invalid_is_bad, entries_decide}
use Rattle.o2_skeleton.proofs.directories.sound_entries.Goals as goal

pub returns-in_default-clause-none : goal.returns-in_default-clause-none
returns-in_default-clause-none g c v shows =
    let none = rw c.in_default.is at c.in_ok-block.ensures.none in
    invalid_is_bad v c.args.inode (none v shows)

pub returns-clause-some : goal.returns-clause-some
returns-clause-some g c = IfOk-weaker c.sound_entries_in.result _ _
    (λ found sound. IfSome_then found sound
    (λ entries told v shows.
    let some = rw c.in-Some.is at c.in_ok-block.ensures.some in
    let tests = some v shows in
    let both = told v (record { shows = still_shows c.valid_directory.ensures.reads shows; is = c.as_slice.ensures ∙ tests.1 }) in
    (entries_decide v c.args.inode tests.0 ∙ both.0, both.1)))
    c.sound_entries_in.ensures.some

pub returns-clause-none : goal.returns-clause-none
returns-clause-none g c = IfOk-weaker c.sound_entries_in.result _ _
    (λ found bad. none_then found
    (λ told v shows.
    let some = rw c.in-Some.is at c.in_ok-block.ensures.some in
    let tests = some v shows in
    entries_decide v c.args.inode tests.0 ∙ told v (record { shows = still_shows c.valid_directory.ensures.reads shows; is = c.as_slice.ensures ∙ tests.1 }))
    bad)
    c.sound_entries_in.ensures.none

-- The window that was read decides.
use Rattle.std.proofs.Common.{sym, ◌∙◌}
use Rattle.o2_windows.proofs.Options.{there_is_none, there_is, none_also, some_also}
use Rattle.o2_windows.proofs.WindowsTold.{unsound_head, held_told, clusters_told}
use Rattle.o2_windows.proofs.window_reading.window_clusters.Goals as goal

pub returns-in_default-clause-none : goal.returns-in_default-clause-none
returns-in_default-clause-none g c v shows read = unsound_head v c.args.inode (there_is_none c.in_ok-window.field-0 c.in_default.is c.in_ok-window.ensures.none v shows)

pub returns-clause-none : goal.returns-clause-none
returns-clause-none g c =
    none_also c.in_ok-sound_clusters.field-0
    (λ unsound v shows read.
    let told = there_is _ c.in_ok-window.field-0 c.in-Some.window c.in-Some.is c.in_ok-window.ensures.some v shows in
    sym (held_told v c.args.geo.now c.args.inode c.in-Some.window told.1 told.0 c.in_ok-used.used shows.numbers (c.in_ok-used.ensures v read)) ∙ unsound)
    c.in_ok-sound_clusters.ensures.none

pub returns-clause-some : goal.returns-clause-some
returns-clause-some g c =
    some_also c.in_ok-sound_clusters.field-0
    (λ clusters sound v shows read.
    let told = there_is _ c.in_ok-window.field-0 c.in-Some.window c.in-Some.is c.in_ok-window.ensures.some v shows in (
      sym (held_told v c.args.geo.now c.args.inode c.in-Some.window told.1 told.0 c.in_ok-used.used shows.numbers (c.in_ok-used.ensures v read)) ∙ sound.0,
      sound.1 ∙ clusters_told v c.args.geo.now c.args.inode c.in-Some.window told.1 told.0,
    ))
    c.in_ok-sound_clusters.ensures.some

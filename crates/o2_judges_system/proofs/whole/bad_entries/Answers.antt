-- One entry more.
use Rattle.std.proofs.Common.{◌&&◌, ◌++◌, ◌∷◌, [], cond, not, filter, sym, ◌∙◌, ap}
use Rattle.std.proofs.lemmas.List.{take_all}
use Rattle.o2_model.specs.declared.entry.Entry.{Entry}
use Rattle.o2_model.specs.Directories.{is_dot}
use Rattle.o2_model.specs.Faults.{fails_at}
use Rattle.o2_model.specs.Checks.Sysfile.{is_sound_system_entry}
use Rattle.o2_survey.specs.SystemInodes.{named_by}
use Rattle.o2_judges_system.proofs.Entries.{one_more_fails, is_among}
use Rattle.o2_judges_system.proofs.whole.bad_entries.Goals as goal

pub loop-entry-preserved : goal.loop-entry-preserved
loop-entry-preserved c v numbers are bits =
    let inode_of = λ (e : Entry). e.inode in
    let e = c.entry-item.result in
    c.in_ok-add_bad_entry.ensures v numbers (named_by c.args.entries.now) are
    (λ other. is_among c.args.entries.now c.loop-entry.entry-index e c.loop-entry-test.true c.entry-item.is inode_of (λ f. not (is_dot f)) (ap not other)) bits
    ∙ (ap (λ bs. bs ++ cond (not (is_dot e) && not (is_sound_system_entry v e)) (e.inode ∷ []) []) (c.loop-entry.invariant v numbers are bits)
    ∙ sym (one_more_fails c.args.entries.now c.loop-entry.entry-index e c.loop-entry-test.true c.entry-item.is inode_of (λ f. not (is_dot f)) (is_sound_system_entry v)))

pub returns : goal.returns
returns c v numbers are bits =
    c.loop-entry.invariant v numbers are bits
    ∙ ap (λ es. fails_at (λ (e : Entry). e.inode) (is_sound_system_entry v) (filter (λ e. not (is_dot e)) es)) (take_all c.loop-entry.entry-index c.args.entries.now c.loop-entry-test.false)

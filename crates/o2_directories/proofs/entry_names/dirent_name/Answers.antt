-- One entry more.
use Rattle.std.proofs.Common.{◌++◌, sym, ◌∙◌, ap}
use Rattle.std.proofs.lemmas.List.{append-nil, take_all}
use Rattle.o2_directories.proofs.SoundNames.{name_faults, one_more}
use Rattle.o2_directories.proofs.entry_names.dirent_name.Goals as goal

pub loop-entry-init : goal.loop-entry-init
loop-entry-init c = sym (append-nil c.args.found.now.items)

pub loop-entry-preserved : goal.loop-entry-preserved
loop-entry-preserved c =
    one_more c.args.entries.now c.loop-entry.entry-index c.entry-item.result c.args.found.now.items c.loop-entry.found.items _
    c.loop-entry-test.true c.entry-item.is c.loop-entry.invariant c.in_ok-judge_name.ensures

pub returns : goal.returns
returns c v d are =
    c.loop-entry.invariant
    ∙ (ap (λ es. c.args.found.now.items ++ name_faults es) (take_all c.loop-entry.entry-index c.args.entries.now c.loop-entry-test.false)
    ∙ ap (λ es. c.args.found.now.items ++ name_faults es) are)

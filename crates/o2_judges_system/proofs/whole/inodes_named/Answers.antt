-- One entry more.
use Rattle.std.proofs.Common.{◌++◌, ◌∷◌, [], cond, map, not, filter, sym, ◌∙◌, ap}
use Rattle.std.proofs.lemmas.List.{take_all}
use Rattle.o2_tally.specs.declared.again.Numbered.{Numbered}
use Rattle.o2_model.specs.declared.entry.Entry.{Entry}
use Rattle.o2_model.specs.Directories.{is_dot}
use Rattle.o2_judges_system.proofs.Entries.{one_more}
use Rattle.o2_judges_system.proofs.whole.inodes_named.Goals as goal

abbrev numbered : Entry → Numbered
numbered e = record { number = e.inode; place = e.inode }

pub loop-entry-preserved : goal.loop-entry-preserved
loop-entry-preserved c =
    let e = c.entry-item.result in
    c.in_ok-add_named.ensures
    ∙ (ap (λ items. items ++ cond (not (is_dot e)) (numbered e ∷ []) []) c.loop-entry.invariant
    ∙ sym (one_more c.args.entries.now c.loop-entry.entry-index e c.loop-entry-test.true c.entry-item.is numbered (λ f. not (is_dot f))))

pub returns : goal.returns
returns c = c.loop-entry.invariant ∙ ap (λ es. map numbered (filter (λ e. not (is_dot e)) es)) (take_all c.loop-entry.entry-index c.args.entries.now c.loop-entry-test.false)

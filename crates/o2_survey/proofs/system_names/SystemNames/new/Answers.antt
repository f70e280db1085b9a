-- No entry is left, so the map has the inode of each name.
use Rattle.std.proofs.Common.{◌≡◌, ◌+◌, ◌∷◌, drop, sym, ◌∙◌, ap}
use Rattle.std.specs.Option.{option_or}
use Rattle.std.proofs.lemmas.List.{drop_all, drop_more}
use Rattle.o2_survey.specs.SystemNames.{inode_at}
use Rattle.o2_survey.proofs.FirstNames.{first_inode, one_taken, or_none, named_so}
use Rattle.o2_survey.proofs.system_names.SystemNames.new.Goals as goal

pub loop-entry-preserved : goal.loop-entry-preserved
loop-entry-preserved c name =
    let e = c.entry-item.result in
    let rest = drop (c.loop-entry.entry-index + 1) c.args.entries.now in
    let here : drop c.loop-entry.entry-index c.args.entries.now ≡ e ∷ rest = drop_more c.args.entries.now c.loop-entry.entry-index e c.loop-entry-test.true ∙ ap (λ f. f ∷ rest) (sym c.entry-item.is) in
    ap (λ o. option_or o (first_inode rest name)) (c.in_ok-add_entry.ensures name)
    ∙ (one_taken (inode_at c.loop-entry.inodes name) e rest name
    ∙ (ap (λ es. option_or (inode_at c.loop-entry.inodes name) (first_inode es name)) (sym here) ∙ c.loop-entry.invariant name))

pub returns : goal.returns
returns c v are =
    let inodes = c.loop-entry.inodes in
    named_so v (record { inodes = inodes }) c.args.entries.now
    (λ name.
    sym (or_none (inode_at inodes name))
    ∙ (ap (λ es. option_or (inode_at inodes name) (first_inode es name)) (sym (drop_all c.loop-entry.entry-index c.args.entries.now c.loop-entry-test.false)) ∙ c.loop-entry.invariant name))
    are

-- Each entry is told where its name was met.
use Rattle.std.proofs.Common.{◌++◌, ◌+◌, ◌∷◌, map, filter, drop, not, sym, ◌∙◌, ap}
use Rattle.std.proofs.lemmas.List.{append-nil, drop_more, drop_all}
use Rattle.o2_model.specs.Orders.{rising, later_like}
use Rattle.o2_model.specs.Directories.{is_dot}
use Rattle.o2_model.specs.Checks.DirentDup.{are_namesakes}
use Rattle.o2_tally.proofs.Agains.{told_again}
use Rattle.o2_directories.specs.MetNames.{has_name, repeats}
use Rattle.o2_directories.proofs.MetNames.{has}
use Rattle.o2_directories.proofs.names_again.dirent_dup.Goals as goal

pub loop-entry-preserved : goal.loop-entry-preserved
loop-entry-preserved c =
    let xs = c.args.entries.now in
    let i = c.loop-entry.entry-index in
    let e = c.entry-item.result in
    let left = drop_more xs i e c.loop-entry-test.true ∙ ap (λ y. y ∷ drop (i + 1) xs) (sym c.entry-item.is) in
    c.in_ok-judge_name.ensures (drop (i + 1) xs)
    ∙ (ap (λ ys. c.loop-entry.again.items ++ repeats (has_name c.loop-entry.names) ys) (sym left)
    ∙ c.loop-entry.invariant)

pub returns : goal.returns
returns c = λ v d are.
    let met = has_name c.new-names.result in
    let is_told = sym (append-nil c.loop-entry.again.items)
    ∙ (ap (λ ys. c.loop-entry.again.items ++ repeats (has_name c.loop-entry.names) ys) (sym (drop_all c.loop-entry.entry-index c.args.entries.now c.loop-entry-test.false))
    ∙ c.loop-entry.invariant) in
    ap rising is_told
    ∙ (told_again are_namesakes (λ e. e.block) (λ e. met e.name) (filter (λ e. not (is_dot e)) c.args.entries.now) (λ e. ap (λ ks. has ks e.name) c.new-names.ensures.empty)
    ∙ ap (λ es. rising (map (λ e. e.block) (later_like are_namesakes (filter (λ e. not (is_dot e)) es)))) are)

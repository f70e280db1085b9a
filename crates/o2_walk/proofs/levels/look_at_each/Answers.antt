-- One entry more.
use Rattle.std.proofs.Common.{◌<◌, ◌≤◌, [], length, fold, get_or, sym, ◌∙◌, ap, subst}
use Rattle.std.proofs.lemmas.List.{get_or-map, length-map, take_all}
use Rattle.o2_model.specs.declared.entry.Entry.{Entry}
use Rattle.o2_model.specs.Tree.{follow}
use Rattle.o2_tree.specs.TreeRows.{row_of}
use Rattle.o2_tree.specs.declared.directories.EntryName.TheVariants.{Itself}
use Rattle.o2_tree.specs.declared.directories.EntryRow.{EntryRow}
use Rattle.o2_walk.specs.TreeWalked.{HasMet, followed_of}
use Rattle.o2_walk.proofs.LevelsMet.{one_more}
use Rattle.o2_walk.proofs.levels.look_at_each.Goals as goal

pub loop-entry-preserved : goal.loop-entry-preserved
loop-entry-preserved c = λ v w d es table own has from rows.
    let i = c.loop-entry.entry-index in
    let e : Entry = record { inode = 0; file_type = 0; name = []; block = 0; at = 0 } in
    let none : EntryRow = record { inode = 0; file_type = 0; name = Itself; block = 0 } in
    let within : i < length es = subst (λ n. i < n) (ap length (sym rows) ∙ length-map es row_of) c.loop-entry-test.true in
    let row = sym (get_or-map row_of es i e none within) ∙ ap (λ rs. get_or rs i none) rows in
    subst (λ x. HasMet x c.look_at.new.progress) (one_more v d w es i e within)
    (c.in_ok-look_at.ensures v _ d (get_or es i e) table own (c.loop-entry.invariant v w d es table own has from rows) from row)

pub returns : goal.returns
returns c = λ v w d es table own has from rows.
    let i = c.loop-entry.entry-index in
    let past : length es ≤ i = subst (λ n. n ≤ i) (ap length (sym rows) ∙ length-map es row_of) c.loop-entry-test.false in
    subst (λ xs. HasMet (fold (follow v d) w (followed_of v xs)) c.loop-entry.progress) (take_all i es past)
    (c.loop-entry.invariant v w d es table own has from rows)

-- One journal more.
use Rattle.std.proofs.Common.{ℕ, ◌&&◌, ◌++◌, ◌∷◌, [], cond, not, filter, get_or, sym, ◌∙◌, ap}
use Rattle.std.specs.List.{list_all}
use Rattle.std.proofs.lemmas.List.{take_all}
use Rattle.std.proofs.lemmas.List.Elements.{filter_more}
use Rattle.o2_model.specs.Orders.{rising}
use Rattle.o2_model.specs.Words.{among}
use Rattle.o2_model.specs.Volume.{is_in_range}
use Rattle.o2_model.specs.Journals.{is_dirty}
use Rattle.o2_survey.proofs.DirtyJournals.{both_tests, none_left_out, each_of_all}
use Rattle.o2_survey.proofs.dirty.dirty_journals.Goals as goal

pub loop-inode-preserved : goal.loop-inode-preserved
loop-inode-preserved c v named are all =
    let here = λ (b : ℕ). is_in_range v b && is_dirty v b in
    let b = get_or c.args.journals.now c.loop-inode.inode-index 0 in
    c.in_ok-add_dirty.ensures v named are (each_of_all (among named) c.args.journals.now c.loop-inode.inode-index 0 c.loop-inode-test.true all)
    ∙ (ap (λ bs. bs ++ cond (here b) (b ∷ []) []) (c.loop-inode.invariant v named are all)
    ∙ sym (filter_more here c.args.journals.now c.loop-inode.inode-index 0 c.loop-inode-test.true))

pub returns-clause-told : goal.returns-clause-told
returns-clause-told c v named are all is =
    let here = λ (b : ℕ). is_in_range v b && is_dirty v b in
    c.loop-inode.invariant v named are all
    ∙ (ap (filter here) (take_all c.loop-inode.inode-index c.args.journals.now c.loop-inode-test.false ∙ is)
    ∙ both_tests (is_in_range v) (is_dirty v) _)

pub returns-clause-whole : goal.returns-clause-whole
returns-clause-whole c v named are all is inside =
    ap rising (returns-clause-told c v named are all is ∙ none_left_out (is_in_range v) (λ (b : ℕ). not (is_dirty v b)) _ (sym (ap (list_all (is_in_range v)) is) ∙ inside))

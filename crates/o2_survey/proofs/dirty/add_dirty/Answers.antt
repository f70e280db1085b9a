-- A journal in range that is dirty.
use Rattle.std.proofs.Common.{ap, sym, ◌∙◌}
use Rattle.std.proofs.lemmas.Result.{on_ok_weaker}
use Rattle.o2_ondisk.specs.Bits.{has_bits, dirty_journal_flag}
use Rattle.o2_model.specs.Volume.{is_in_range}
use Rattle.o2_model.specs.Journals.{is_dirty}
use Rattle.o2_survey.proofs.DirtyJournals.{one_dirty}
use Rattle.o2_survey.proofs.dirty.add_dirty.Goals as goal

pub returns : goal.returns
returns c = on_ok_weaker c.put.result
    (λ more v named are is_named.
    more ∙ one_dirty (is_in_range v c.args.inode) (is_dirty v c.args.inode) c.args.inode c.args.found.now.items (c.in-Some.ensures.inside v are.read)
    (sym (ap (λ d. has_bits d.0 dirty_journal_flag) (c.in-Some.ensures.told v named are is_named).role_data) ∙ (sym c.says_dirty.ensures ∙ c.if-not-says_dirty.false)))
    c.put.ensures.ok

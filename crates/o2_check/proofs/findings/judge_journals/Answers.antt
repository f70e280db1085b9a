-- The journals were found to be named, and in range.
use Rattle.std.proofs.Common.{◌≡◌, true, List, sym, ◌∙◌, ap, subst}
use Rattle.std.specs.List.{list_all}
use Rattle.std.proofs.lemmas.Result.{IfOk-weaker}
use Rattle.o2_model.specs.declared.entry.Entry.{Entry}
use Rattle.o2_model.specs.declared.geo.Geo.{Geo}
use Rattle.o2_model.specs.Words.{among}
use Rattle.o2_model.specs.Volume.{is_in_range}
use Rattle.o2_model.specs.Directories.{directory_entries}
use Rattle.o2_survey.specs.SystemInodes.{AreSystemInodes, named_by}
use Rattle.o2_check.specs.Given.{is_given_by}
use Rattle.o2_check.proofs.NamedJournals.{all_named, all_inside, dirty_told}
use Rattle.o2_check.proofs.findings.judge_journals.Goals as goal

pub returns : goal.returns
returns c = IfOk-weaker c.dirty_journals.result _ _
    (λ found told v numbers are.
    let own = c.args.tables.now.own in
    let journals = c.in_ok-journals.journals.items in
    let given : list_all (is_given_by v.geo own) journals ≡ true =
    ap (λ (geo : Geo). list_all (is_given_by geo own) journals) numbers
    ∙ (ap (list_all (is_given_by c.args.geo.now own)) (sym c.deref.ensures.value) ∙ (sym c.are_given.ensures ∙ c.if-not-are_given.false)) in
    let named : AreSystemInodes v (named_by (directory_entries v v.geo.sysdir)) c.args.tables.now.skeleton.inodes =
    subst (λ (es : List Entry). AreSystemInodes v (named_by es) c.args.tables.now.skeleton.inodes) are.skeleton.entries are.skeleton.inodes in
    dirty_told v found.items
    (told v (named_by (directory_entries v v.geo.sysdir)) named
    (ap (list_all (among (named_by (directory_entries v v.geo.sysdir)))) c.deref-2.ensures.value ∙ all_named v own are.own journals given)
    (c.deref-2.ensures.value ∙ c.in_ok-journals.ensures v numbers are.skeleton.names)
    (ap (list_all (is_in_range v)) c.deref-2.ensures.value ∙ all_inside v own are.own journals given)))
    c.dirty_journals.ensures.whole

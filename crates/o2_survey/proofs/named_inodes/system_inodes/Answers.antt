-- One entry more.
use Rattle.std.proofs.Common.{◌+◌, cond, length, take, sym, subst}
use Rattle.std.proofs.lemmas.List.{take_all}
use Rattle.o2_model.specs.Directories.{is_dot}
use Rattle.o2_view.specs.Counted.{CallsAtMost}
use Rattle.o2_view.specs.Views.{view_state}
use Rattle.o2_view.proofs.Shown.{still_shows}
use Rattle.o2_extent.proofs.Views.{only_both}
use Rattle.o2_survey.specs.SystemInodes.{AreSystemInodes, named_by}
use Rattle.o2_survey.proofs.Calls.{calls_more, calls_fewer}
use Rattle.o2_survey.proofs.NamedEntries.{one_entry_read, one_count_more, counted_few}
use Rattle.o2_survey.proofs.named_inodes.system_inodes.Goals as goal

pub loop-entry-preserved : goal.loop-entry-preserved
loop-entry-preserved g c =
    let inv = c.loop-entry.invariant in
    let es = c.args.entries.now in
    let i = c.loop-entry.entry-index in
    let e = c.entry-item.result in
    let before = view_state c.args.view.now in
    let after = view_state c.add_entry.new.view in
    record {
      read = λ v shows.
          one_entry_read es i e c.loop-entry-test.true c.entry-item.is v c.loop-entry.inodes c.add_entry.new.inodes
          c.in_ok-add_entry.ensures.dot (c.in_ok-add_entry.ensures.added v (still_shows inv.reads shows)) (inv.read v shows);
      count =
          subst (λ n. CallsAtMost n before after) (sym (one_count_more es i e c.loop-entry-test.true c.entry-item.is))
          (calls_more (length (named_by (take i es))) (cond (is_dot e) 0 1) before (view_state c.loop-entry.view) after inv.reads.reads inv.count c.add_entry.ensures.count);
      reads = only_both inv.reads c.add_entry.ensures.reads;
    }

pub returns-in_err-add_entry-clause-count : goal.returns-in_err-add_entry-clause-count
returns-in_err-add_entry-clause-count g c =
    let inv = c.loop-entry.invariant in
    let es = c.args.entries.now in
    let e = c.entry-item.result in
    let so_far = length (named_by (take c.loop-entry.entry-index es)) in
    let before = view_state c.args.view.now in
    let after = view_state c.add_entry.new.view in
    calls_fewer (so_far + cond (is_dot e) 0 1) (length (named_by es)) before after (counted_few es c.loop-entry.entry-index e c.loop-entry-test.true c.entry-item.is)
    (calls_more so_far (cond (is_dot e) 0 1) before (view_state c.loop-entry.view) after inv.reads.reads inv.count c.add_entry.ensures.count)

pub returns-clause-told : goal.returns-clause-told
returns-clause-told g c v shows =
    subst (λ es. AreSystemInodes v (named_by es) c.loop-entry.inodes) (take_all c.loop-entry.entry-index c.args.entries.now c.loop-entry-test.false) (c.loop-entry.invariant.read v shows)

pub returns-clause-count : goal.returns-clause-count
returns-clause-count g c =
    subst (λ es. CallsAtMost (length (named_by es)) (view_state c.args.view.now) (view_state c.loop-entry.view)) (take_all c.loop-entry.entry-index c.args.entries.now c.loop-entry-test.false) c.loop-entry.invariant.count

-- One entry more.
use Rattle.o2_judges_tree.specs.EntryFaults.{is_typed_soundly, fault_of}
use Rattle.o2_judges_tree.proofs.EntriesTold.{entry_more, entries_all}
use Rattle.o2_judges_tree.proofs.named_types.judge_entries.Goals as goal

pub loop-entry-preserved : goal.loop-entry-preserved
loop-entry-preserved c = λ v es inodes are.
    entry_more (fault_of (is_typed_soundly v)) es c.args.entries.now c.loop-entry.entry-index c.args.blocks.now.items c.loop-entry.blocks.items c.judge_entry.new.blocks.items
    are c.loop-entry-test.true (c.loop-entry.invariant v es inodes are) (λ e row. c.in_ok-judge_entry.ensures v e inodes row)

pub returns : goal.returns
returns c = λ v es inodes are.
    entries_all (fault_of (is_typed_soundly v)) es c.args.entries.now c.loop-entry.entry-index c.args.blocks.now.items c.loop-entry.blocks.items
    are c.loop-entry-test.false (c.loop-entry.invariant v es inodes are)

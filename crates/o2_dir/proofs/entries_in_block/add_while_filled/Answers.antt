-- Each step by a lemma over plain lists.
use Rattle.std.proofs.Common.{◌≡◌, drop, true, arith, sym, ◌∙◌, ap}
use Rattle.std.proofs.lemmas.List.{length-drop, take_rest}
use Rattle.o2_ondisk.specs.DirEntries.{dir_entry_of}
use Rattle.o2_model.specs.Directories.{has_entry}
use Rattle.o2_model.proofs.Entries.{within}
use Rattle.o2_dir.proofs.Steps.{kept_more, read_more, read_bad, read_all}
use Rattle.o2_dir.proofs.entries_in_block.add_while_filled.Goals as goal

pub returns-then-not-has_entry-clause-bad : goal.returns-then-not-has_entry-clause-bad
returns-then-not-has_entry-clause-bad c = λ _. read_bad _ c.loop-at.at _ _ c.args.bytes.now c.loop-at-test.true (sym (rw take_rest at c.has_entry.ensures.test) ∙ c.if-not-has_entry.true) c.loop-at.invariant.read

pub loop-at-preserved : goal.loop-at-preserved
loop-at-preserved c =
    let bytes = c.args.bytes.now in
    let rest = take_rest bytes c.loop-at.at in
    let good : has_entry (drop c.loop-at.at bytes) ≡ true = sym (rw rest at c.has_entry.ensures.test) ∙ c.if-not-has_entry.false in
    let is : c.read_dir_entry.result ≡ dir_entry_of (drop c.loop-at.at bytes) = rw rest at c.read_dir_entry.ensures in
    let len : c.from-at.result ≡ (dir_entry_of (drop c.loop-at.at bytes)).rec_len = c.from-at.ensures ∙ ap (λ x. x.rec_len) is in
    record {
      read = rw len (read_more _ c.loop-at.at _ _ bytes good (rw rest at c.in_ok-add_live.ensures) ∙ c.loop-at.invariant.read);
      kept = kept_more _ _ _ _ _ c.loop-at.invariant.kept c.in_ok-add_live.ensures;
      within = omega (arith, (within (drop c.loop-at.at bytes) good).inside, len, length-drop c.loop-at.at bytes);
    }

pub returns-clause-filled : goal.returns-clause-filled
returns-clause-filled c = λ _. read_all _ c.loop-at.at _ _ c.args.bytes.now c.loop-at-test.false c.loop-at.invariant.read

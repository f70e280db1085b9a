-- Where none fill the bytes, the entries are cut back to those before.
use Rattle.std.proofs.Common.{rules, ◌≡◌, take, length, sym, ◌∙◌, ap}
use Rattle.std.specs.Prelude.{is_some}
use Rattle.o2_model.specs.Directories.{entries_in, live_from}
use Rattle.o2_dir.proofs.Kept.{entries_filled, found_filled, entries_none}
use Rattle.o2_dir.proofs.entries_in_block.add_entries.Goals as goal

pub returns-then-not-filled-clause-entries : goal.returns-then-not-filled-clause-entries
returns-then-not-filled-clause-entries c =
    let n : c.len-before.result ≡ length c.args.entries.now.items = search rules in
    let is : c.truncate.new.self.items ≡ take (length c.args.entries.now.items) c.add_while_filled.new.entries.items = c.truncate.ensures.items ∙ ap (λ n. take n c.add_while_filled.new.entries.items) n in
    is
    ∙ c.in_ok-filled.ensures.kept
    ∙ entries_none c.args.block c.args.entries.now.items (entries_in c.args.bytes.now) (c.in_ok-filled.ensures.bad c.if-not-filled.true)

pub returns-then-not-filled-clause-filled : goal.returns-then-not-filled-clause-filled
returns-then-not-filled-clause-filled c = c.if-not-filled.true ∙ sym (ap is_some (c.in_ok-filled.ensures.bad c.if-not-filled.true))

pub returns-else-not-filled-clause-entries : goal.returns-else-not-filled-clause-entries
returns-else-not-filled-clause-entries c = entries_filled _ c.args.entries.now.items (live_from c.args.block 0) (entries_in c.args.bytes.now) (c.in_ok-filled.ensures.filled c.if-not-filled.false)

pub returns-else-not-filled-clause-filled : goal.returns-else-not-filled-clause-filled
returns-else-not-filled-clause-filled c = c.if-not-filled.false ∙ sym (found_filled _ c.args.entries.now.items (live_from c.args.block 0) (entries_in c.args.bytes.now) (c.in_ok-filled.ensures.filled c.if-not-filled.false))
